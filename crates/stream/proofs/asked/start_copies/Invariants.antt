-- The first i copies have replayed nothing.
use Rattle.std.proofs.Common.{◌≡◌, ℕ, ◌<◌, length}
use Rattle.kinds.specs.Sizes as sizes
use Rattle.pieces.specs.Own.{own}
use Rattle.routing.specs.Route.{copies}
use Rattle.stream.specs.Asked.{all_copies, fresh_copy}
use Rattle.stream.proofs.asked.start_copies.Given as goal

abbrev pub invariant-loop-i : goal.invariant-loop-i
invariant-loop-i l = (length l.tables ≡ all_copies) × ((j : ℕ) → j < l.i → own sizes.copy j l.tables ≡ fresh_copy)
