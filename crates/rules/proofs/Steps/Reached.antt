-- The whole invariant, after any moves from the fresh protocol.
use Prim.Native.Nat.{◌≤◌}
use Rattle.kinds.specs.declared.House.{House}
use Rattle.rules.proofs.Protocol.ProtocolTables.{Protocol}
use Rattle.rules.proofs.Protocol.Protocol.{Move, Moves, stop, more, fresh_protocol}
use Rattle.rules.proofs.Protocol.Invariants.{Invariant}
use Rattle.rules.proofs.Steps.StepParts.{parts_step, parts_fresh}
use Rattle.rules.proofs.Steps.StepPosts.{posts_step, posts_fresh}
use Rattle.rules.proofs.Steps.StepRounds.{rounds_step, rounds_fresh}
use Rattle.rules.proofs.Steps.StepCourses.{courses_step, courses_fresh}
use Rattle.rules.proofs.Steps.StepAccount.{account_step, account_fresh}
use Rattle.rules.proofs.Steps.StepClocks.{clocks_step, clocks_fresh}
use Rattle.rules.proofs.Steps.StepOrder.{order_step, order_fresh}
use Rattle.rules.proofs.Steps.StepWriters.{writers_step, writers_fresh}
use Rattle.rules.proofs.Steps.StepLists.{lists_step, lists_fresh}

pub invariant_step : (house : House) (p q : Protocol) → house.sites ≤ 8 → Move house p q → Invariant house p → Invariant house q
invariant_step house p q h m i =
    record {
      parts = parts_step house p q h m i;
      posts = posts_step house p q h m i;
      rounds = rounds_step house p q h m i;
      courses = courses_step house p q h m i;
      account = account_step house p q h m i;
      clocks = clocks_step house p q h m i;
      order = order_step house p q h m i;
      writers = writers_step house p q h m i;
      lists = lists_step house p q h m i;
    }

pub invariant_fresh : (house : House) → Invariant house fresh_protocol
invariant_fresh house =
    record {
      parts = parts_fresh house;
      posts = posts_fresh house;
      rounds = rounds_fresh;
      courses = courses_fresh;
      account = account_fresh;
      clocks = clocks_fresh;
      order = order_fresh;
      writers = writers_fresh;
      lists = lists_fresh;
    }

-- it is kept by any moves
pub invariant_moves : {house : House} {p q : Protocol} → house.sites ≤ 8 → Moves house p q → Invariant house p → Invariant house q
invariant_moves h stop i = i
invariant_moves {house} h (more {q = q} {r = r} ms m) i = invariant_step house q r h m (invariant_moves h ms i)
