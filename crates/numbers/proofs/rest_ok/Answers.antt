-- The places from n on, as the scan of the eight asks them.
use borrow.Author.Tests.{tests, le-ltb, ltb-false}
use Rattle.std.proofs.Common.{ℕ, ◌+◌, ◌-◌, ◌<◌, ◌≡◌, Bool, true, false, List, length, drop, eqb, arith, rules, length-drop, ◌∙◌, ltb}
use Rattle.std.proofs.lemmas.Iterator.{cases_from_all, YieldsList-from_slice}
use Rattle.std.proofs.lemmas.List.{get_or-drop}
use Rattle.std.specs.Prelude.{MatchBool}
use Rattle.std.specs.List.{AllWithin, HoldsAt}
use Rattle.laws.specs.Choice.{by_test}
use Rattle.laws.specs.Overlay.{rest_is}
use Rattle.laws.specs.Scan.{all_below_lem, not_all_below}
use Rattle.kinds.specs.Sizes as sizes
use Rattle.rules.specs.House.{rest_ok}
use Rattle.numbers.proofs.rest_ok.Goals as goal

abbrev Zero : ℕ → Type 0
Zero x = eqb x 0 ≡ true

abbrev Other : ℕ → Type 0
Other x = eqb x 0 ≡ false

of_rest : (r : Bool) (n : ℕ) (t : List ℕ) → length t ≡ sizes.sites
    → MatchBool r (AllWithin Zero (drop n t) 0 (length (drop n t))) ((k : ℕ) × (k < length (drop n t)) × HoldsAt Other (drop n t) k)
    → r ≡ rest_ok n t
unfolding rest_ok
of_rest true n t e zeros =
    all_below_lem _ _ (λ k b. by_test (ltb k n)
    (λ h. rw h)
    (λ h. let q : n + (k - n) ≡ k = omega (arith, ltb-false k n h) in
    rw (h, ← q, ← get_or-drop n t (k - n) 0) (zeros (k - n) 0 (omega arith) (omega (arith, length-drop n t, ltb-false k n h)))))
of_rest false n t e (k, low, other) =
    let behind = le-ltb (n + k) n (omega arith) in
    not_all_below _ _ (n + k) (omega (arith, length-drop n t)) (rw (behind, ← get_or-drop n t k 0) (other 0))

pub returns : goal.returns
returns c =
    of_rest _ _ _ (search rules)
    (cases_from_all _ _ _ Zero Other c.all.ensures.ran
    (YieldsList-from_slice _ (c.iter.ensures.rest ∙ rest_is c.args.t.now c.args.n))
    (λ x q k. search (rules, tests))
    (λ x q k. search (rules, tests)))
