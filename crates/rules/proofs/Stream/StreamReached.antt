-- What holds after any steps of the sites, the merger and the copies.
use Prim.Native.Nat.{ℕ, ◌≤◌}
use mathlib.Core.Path.{◌≡◌, refl, sym}
use mathlib.Core.List.{List, [], ◌∷◌, ◌++◌, append-nil}
use native.Mathlib.Omega.{arith}
use lib.ListN.{length, length-append}
use Rattle.kinds.specs.declared.House.{House}
use Rattle.rules.proofs.Lists.Tables.{upd_cases}
use Rattle.rules.proofs.Protocol.ProtocolTables.{Protocol}
use Rattle.rules.proofs.Protocol.Protocol.{fresh_protocol}
use Rattle.rules.proofs.Protocol.Invariants.{Invariant}
use Rattle.rules.proofs.Protocol.Changes.{change}
use Rattle.rules.proofs.Steps.Reached.{invariant_step, invariant_fresh}
use Rattle.rules.proofs.Stream.Stream.{Item, Merger, item_of, Merging, take_part, take_state, emit, Stream, Step, moves, merges}
use Rattle.rules.proofs.Stream.Stream.{replays}
use Rattle.rules.proofs.Stream.Stream.{Steps, stop, more, fresh_merger, fresh_stream}
use Rattle.rules.proofs.Stream.StreamInv.{Streamed, streamed_fresh}
use Rattle.rules.proofs.Stream.StreamTake.{took_part_lem, took_state_lem, streamed_moved}
use Rattle.rules.proofs.Stream.StreamEmit.{streamed_emitted}

pub streamed_merged : {house : House} {p : Protocol} {m n : Merger} → house.sites ≤ 8 → Invariant house p → Merging house p m n
    → Streamed house p m
    → Streamed house p n
streamed_merged h v (take_part s e r l k) i = took_part_lem i s e r l
streamed_merged h v (take_state s k r l) i = took_state_lem i s k r l
streamed_merged h v (emit g d) i = streamed_emitted h v i d

-- what was emitted stays
pub out_grows : {house : House} {p : Protocol} {m n : Merger} → Merging house p m n → (r : List Item) × (n.out ≡ m.out ++ r)
out_grows {m = m} (take_part s e r l k) = ([], sym (append-nil m.out))
out_grows {m = m} (take_state s k r l) = ([], sym (append-nil m.out))
out_grows {m = m} (emit g d) = (item_of g m.queue ∷ [], refl)

-- `replayed`: a copy has replayed a prefix of what was emitted
pub record Standing (house : House) (w : Stream) : Type 0 where
  pub invariant : Invariant house w.protocol
  pub streamed : Streamed house w.protocol w.merger
  pub replayed : (c : ℕ) → w.replayed c ≤ length w.merger.out

pub standing_step : {house : House} {v w : Stream} → house.sites ≤ 8 → Step house v w → Standing house v → Standing house w
standing_step {house} {v} h (moves q m) i =
    record {
      invariant = invariant_step house v.protocol q h m i.invariant;
      streamed = streamed_moved h i.invariant (change house v.protocol q h m i.invariant) i.streamed;
      replayed = i.replayed;
    }
standing_step {house} {v} h (merges n m) i =
    let (r, e) = out_grows m in
    record {
      invariant = i.invariant;
      streamed = streamed_merged h i.invariant m i.streamed;
      replayed = λ c. rw e (omega (arith, i.replayed c, length-append v.merger.out r));
    }
standing_step {house} {v} h (replays c l) i =
    record {
      invariant = i.invariant;
      streamed = i.streamed;
      replayed = upd_cases (λ c n. n ≤ length v.merger.out) v.replayed c _ (omega arith) (λ c n. i.replayed c);
    }

pub standing_fresh : (house : House) → Standing house fresh_stream
unfolding fresh_stream fresh_merger
standing_fresh house =
    record { invariant = invariant_fresh house; streamed = streamed_fresh house fresh_protocol; replayed = λ c. omega arith }

pub standing_steps : {house : House} {v w : Stream} → house.sites ≤ 8 → Steps house v w → Standing house v → Standing house w
standing_steps h stop i = i
standing_steps h (more ss s) i = standing_step h s (standing_steps h ss i)
