use Prim.Native.Nat.{ℕ, ◌+◌, ◌-◌}
use mathlib.Core.Path.{◌≡◌, sym}
use mathlib.Core.Bool.{false}
use mathlib.Core.List.{List}
use native.Mathlib.Omega.{arith}
use Rattle.laws.specs.Choice.{unset}
use Rattle.rules.specs.House.{table_ok, GoodTable}
use Rattle.rules.specs.HouseLaws.{table_good, good_table}
use Rattle.numbers.proofs.table_ok.Goals as goal
use Rattle.numbers.proofs.table_ok.Goals.{then-t-i-via-then-t-i, then-t-i-via-else-t-i+then-t-i-2}

-- what a good table shows is refuted
bad : (n : ℕ) (t : List ℕ) → (GoodTable n t → ⊥) → false ≡ table_ok n t
bad n t f = sym (unset (table_ok n t) (λ e. f (table_good n t e)))

pub returns-then-t-ne0 : goal.returns-then-t-ne0
returns-then-t-ne0 c = bad _ _ (λ g. c.if-t-ne0.true g.zero)

pub returns-then-t-i : goal.returns-then-t-i
returns-then-t-i c =
    let i = c.loop-i.i in
    let z : i - 1 + 1 ≡ i = omega arith in
    elim c.then-t-i.branch [
      | then-t-i-via-then-t-i w ↦ bad _ _ (λ g. let up = rw z at (g.rising (i - 1) (omega arith)) in omega (arith, w.if-t-i.true))
      | then-t-i-via-else-t-i+then-t-i-2 w ↦ bad _ _ (λ g. let low = g.low i (omega arith) in omega (arith, w.if-t-i-2.true))
    ]

pub returns : goal.returns
returns c =
    let e : c.loop-i.i ≡ c.args.n = omega (arith, c.loop-i-test.false) in
    sym (good_table c.args.n _ (rw e at c.loop-i.invariant))
