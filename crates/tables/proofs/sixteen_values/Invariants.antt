-- The first i values of the array are those from `at` on.
use Prim.Native.Nat.{ℕ, ◌+◌, ◌*◌, ◌<◌}
use mathlib.Core.Path.{◌≡◌}
use lib.ListN.{get_or, length}
use Rattle.kinds.specs.Sizes as sizes
use Rattle.kinds.specs.State.{fresh}
use Rattle.rules.specs.Value.{value_at}
use Rattle.tables.proofs.sixteen_values.Given as goal

abbrev pub invariant-loop-i : goal.invariant-loop-i
invariant-loop-i l = ((length l.r ≡ sizes.writes) × ((j : ℕ) → j < l.i → get_or l.r j fresh ≡ value_at l.w (l.at + sizes.value * j)))
