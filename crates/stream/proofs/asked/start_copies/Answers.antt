-- Each turn starts a copy within the words, and leaves those before it.
use Rattle.std.proofs.Common.{◌≡◌, ℕ, ◌+◌, ◌<◌, List, length, ap, arith, ◌∙◌}
use borrow.Author.Tests.{eqb-true, eqb-false, ltb-true, ltb-false}
use lib.Dec.{eqb, ltb}
use Rattle.laws.specs.Choice.{by_test}
use Rattle.kinds.specs.Sizes as sizes
use Rattle.rules.specs.Copy.{copy_start_of}
use Rattle.pieces.specs.Own.{own, lent, relaid, lent_own, ends, own_length, Laid, laid, only_elsewhere, only_length}
use Rattle.routing.specs.Route.{copies}
use Rattle.stream.specs.Asked.{all_copies, fresh_copy}
use Rattle.stream.proofs.asked.start_copies.Goals as goal

-- the first i copies have replayed nothing
abbrev Started : ℕ → List ℕ → Type 0
Started i tables = (j : ℕ) → j < i → own sizes.copy j tables ≡ fresh_copy

none : (tables : List ℕ) → Started 0 tables
none tables j h = absurd (omega arith)

fresh : (copy : List ℕ) → length copy ≡ sizes.copy → (copy_start_of copy).copy ≡ fresh_copy
unfolding copy_start_of fresh_copy
fresh copy e = rw e

more : (i : ℕ) (tables v : List ℕ) → i < copies → length tables ≡ all_copies → length v ≡ length (lent sizes.copy i tables)
    → v ≡ (copy_start_of (lent sizes.copy i tables)).copy → Started i tables → Started (i + 1) (relaid sizes.copy i tables v)
more i tables v low many kept e before j h =
    by_test (eqb j i)
    (λ y. rw (eqb-true j i y) (w.here ∙ e ∙ fresh (lent sizes.copy i tables) long))
    (λ n. only_elsewhere sizes.copy i j copies tables _ low many w.only (eqb-false j i n) ∙ before j (lower (eqb-false j i n)))
  where
    w : Laid sizes.copy i tables v (relaid sizes.copy i tables v)
    w = laid sizes.copy i copies tables v low many kept

    long : length (lent sizes.copy i tables) ≡ sizes.copy
    long = ap length (lent_own sizes.copy i tables) ∙ own_length sizes.copy i tables (omega (arith, ends sizes.copy i copies low, many))

    lower : (j ≡ i → ⊥) → j < i
    lower n = by_test (ltb j i) (λ t. ltb-true j i t) (λ f. absurd (n (omega (arith, h, ltb-false j i f))))

pub loop-i-init : goal.loop-i-init
loop-i-init c = (c.requires, none _)

pub loop-i-preserved : goal.loop-i-preserved
loop-i-preserved c =
    let l = c.loop-i in
    let v = l.invariant in
    let low = c.loop-i-test.true in
    let kept = c.start.auto.copy in
    let w = laid sizes.copy l.i copies l.tables _ low v.0 kept in (
      only_length sizes.copy l.i copies l.tables _ low v.0 w.only,
      more l.i l.tables _ low v.0 kept c.start.ensures.copy_after v.1,
    )
