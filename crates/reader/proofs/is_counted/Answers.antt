-- A count that eight does not divide is eight times no word; else the quotient is compared with word 0.
use borrow.Author.Tests.{eq-eqb, eqb-false, eqb-true, ne_eqb}
use lib.Dec.{eqb}
use lib.ListN.{length}
use mathlib.Core.List.{List, [], ◌∷◌}
use mathlib.Core.Path.{◌≡◌, ◌∙◌, refl, sym}
use native.Mathlib.Omega.{arith}
use Prim.Native.Nat.{ℕ, ◌*◌, ◌/◌, ◌%◌}
use Rattle.laws.specs.ByteLaws.{word_at}
use Rattle.laws.specs.Bytes.{word_from}
use Rattle.laws.specs.Choice.{by_test}
use Rattle.reader.proofs.is_counted.Goals as goal

-- where there are no bytes, word 0 is 0
none : (b : List ℕ) → length b ≡ 0 → word_from b ≡ 0
unfolding word_from
none [] e = refl
none (x ∷ xs) e = absurd (omega arith)

-- the division says the same as the product
same_count : (x n : ℕ) → n % 8 ≡ 0 → eqb x (n / 8) ≡ eqb n (8 * x)
same_count x n h =
    by_test (eqb x (n / 8))
    (λ t. let e = eqb-true x (n / 8) t in rw (t, eq-eqb n (8 * x) (omega arith)))
    (λ t. rw (t, ne_eqb n (8 * x) (λ z. eqb-false x (n / 8) t (omega arith))))

pub returns-then-is_empty : goal.returns-then-is_empty
returns-then-is_empty c =
    let m = c.args.m.now in
    let bare = eqb-true (length m) 0 (sym c.is_empty.ensures ∙ c.if-is_empty.true) in
    rw (eq-eqb (length m) (8 * word_from m) (omega (arith, none m bare))) c.if-is_empty.true

pub returns-then-m-eq0 : goal.returns-then-m-eq0
returns-then-m-eq0 c =
    let m = c.args.m.now in
    let some = eqb-false (length m) 0 (sym c.is_empty.ensures ∙ c.if-is_empty.false) in
    let rest = c.if-m-eq0.true in
    let w = word_at 0 m (omega (arith, some, rest)) in
    rw (c.word_at.ensures, ← w) (same_count (word_from m) (length m) (omega (arith, rest)))
