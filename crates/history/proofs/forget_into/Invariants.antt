-- After i writes the base values are the fold over them.
use Prim.Native.Nat.{ℕ, ◌*◌}
use mathlib.Core.Path.{◌≡◌}
use mathlib.Core.List.{List}
use lib.ListN.{length, get_or}
use Rattle.laws.specs.Scan.{fold_below}
use Rattle.kinds.specs.Sizes as sizes
use Rattle.kinds.specs.State.{fresh}
use Rattle.kinds.specs.declared.Keys.{Keys}
use Rattle.rules.specs.Value.{put_value}
use Rattle.history.proofs.forget_into.Given as goal

-- the base values with the first i writes
abbrev pub forgotten : List ℕ → Keys → ℕ → List ℕ
forgotten base b = λ i. fold_below (λ j l. put_value l (sizes.value * get_or b.writes j 0) (get_or b.values j fresh)) i base

abbrev pub invariant-loop-i : goal.invariant-loop-i
invariant-loop-i l = (length l.base ≡ length l.initial.base)
    × (l.base ≡ forgotten l.initial.base l.b l.i)
