use Prim.Native.Nat.{ℕ, ◌+◌, ◌-◌, ◌<◌}
use mathlib.Core.Path.{◌≡◌, ◌∙◌, ap}
use native.Mathlib.Omega.{arith}
use borrow.Author.Tests.{lt-ltb, le-ltb}
use Rattle.laws.specs.Scan.{first_below, first_below_lem, first_below_none}
use Rattle.kinds.specs.Sizes as sizes
use Rattle.kinds.specs.declared.House.{House}
use Rattle.rules.specs.House.{ends_above, is_key, home_of}
use Rattle.numbers.proofs.home_of.Goals as goal
use Rattle.numbers.proofs.home_of.Goals.{then-h-i-via-then-h-i, then-h-i-via-else-h-i+then-key-h}

-- the site behind the first place that ends above the key
found : (h : House) (key s : ℕ) → key < sizes.keys → 0 < s → s - 1 ≡ first_below (ends_above h key) (sizes.sites - 1) → s ≡ home_of h key
unfolding home_of is_key
found h key s k p e = let z : s ≡ s - 1 + 1 = omega arith in rw (lt-ltb key sizes.keys k) (z ∙ ap (λ (n : ℕ). n + 1) e)

pub returns-then-key : goal.returns-then-key
unfolding home_of is_key
returns-then-key c = rw (le-ltb c.args.key sizes.keys c.if-key.true)

pub returns-then-h-i : goal.returns-then-h-i
returns-then-h-i c =
    let i = c.loop-i.i in
    let z : i - 1 + 1 ≡ i = omega arith in
    found _ _ i c.if-key.false (omega arith)
    (first_below_lem _ _ (i - 1) (omega arith) c.loop-i.invariant
    (elim c.then-h-i.branch [
      | then-h-i-via-then-h-i w ↦ rw (z, le-ltb _ _ w.if-h-i.true)
      | then-h-i-via-else-h-i+then-key-h w ↦ rw (z, lt-ltb _ _ w.if-h-i.false, lt-ltb _ _ w.if-key-h.true)
    ]))

pub returns : goal.returns
returns c =
    let e : c.loop-i.i - 1 ≡ sizes.sites - 1 = omega (arith, c.loop-i-test.false) in
    found _ _ sizes.sites c.if-key.false (omega arith) (first_below_none _ _ (rw e at c.loop-i.invariant))
