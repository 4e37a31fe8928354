-- Why page and offset undo one another, and why a run converts each of its offsets.
use Prim.Native.Nat.{ℕ, ◌+◌, ◌*◌, ◌/◌, ◌%◌, ◌≤◌, ◌<◌}
use mathlib.Core.Path.{◌≡◌, refl, sym, ap, ◌∙◌}
use mathlib.Core.List.{List}
use native.Mathlib.Nat.{mod-lt}
use native.Mathlib.Omega.{arith}
use borrow.Author.Tests.{eqb-true, eqb-false, leb-false, ltb-false, ne_eqb, lt-leb, le-ltb}
use lib.Dec.{eqb}
use lib.ListN.{length}
use Rattle.laws.specs.Choice.{by_test}
use Rattle.laws.specs.Cause.{clear_at}
use Rattle.kinds.specs.Sizes as sizes
use Rattle.kinds.specs.declared.Answer.TheVariants.{Refused, Done, Paged, Offset}
use Rattle.rules.specs.Page.{page_code, page_of, offset_causes, offset_code, offset_of, pages_causes, pages_code, pages_of}
use Rattle.rules.specs.PageLaws.{there_back, back_page, back_rest, length_places, places_page, places_rest}
use Rattle.rules.specs.Pages.{PlaceByPlace, PagesRight}
use Rattle.rules.proofs.Desks.WriteLimits.{done_refused}

-- What an answer says.
paged : (p q r s : ℕ) → Paged p r ≡ Paged q s → (p ≡ q) × (r ≡ s)
paged p q r s e = (cc, cc)

paged_refused : (n p r : ℕ) → Refused n ≡ Paged p r → ⊥
paged_refused n p r e = let z : ◌≡◌ {A = ℕ} 0 1 = cc in omega arith

offset_is : (o q : ℕ) → Offset o ≡ Offset q → o ≡ q
offset_is o q e = cc

offset_refused : (n o : ℕ) → Refused n ≡ Offset o → ⊥
offset_refused n o e = let z : ◌≡◌ {A = ℕ} 0 1 = cc in omega arith

-- The way there.
page_is : (l offset : ℕ) → 0 < l → page_of l offset ≡ Paged (offset / l) (offset % l)
unfolding page_of page_code
page_is l offset h = rw (ne_eqb l 0 (λ z. omega arith)) refl

-- a page that is answered has a length
page_long : (l offset page rest : ℕ) → page_of l offset ≡ Paged page rest → 0 < l
unfolding page_of page_code
page_long l offset page rest e =
    by_test (eqb l 0)
    (λ t. absurd (paged_refused 28 page rest (rw t at e)))
    (λ t. let n = eqb-false l 0 t in omega (arith, n))

exact : (l offset page rest : ℕ) → page_of l offset ≡ Paged page rest → (page * l + rest ≡ offset) × (rest < l)
exact l offset page rest e =
    let h = page_long l offset page rest e in
    let (p, r) = paged _ _ _ _ (sym (page_is l offset h) ∙ e) in
    (rw (← p, ← r) (there_back l offset), rw (← r) (mod-lt offset h))

-- The way back.
answered : (l page rest : ℕ) → rest < l → page * l + rest ≤ sizes.last → offset_of l page rest ≡ Offset (page * l + rest)
unfolding offset_of offset_code
answered l page rest h k = rw (ne_eqb l 0 (λ z. omega arith), lt-leb l rest h, le-ltb sizes.last (page * l + rest) k) refl

-- an offset that is answered is that of a place up to the last
record Taken (l page rest offset : ℕ) : Type 0 where
  below : rest < l
  few : page * l + rest ≤ sizes.last
  same : page * l + rest ≡ offset

taken : (l page rest offset : ℕ) → offset_of l page rest ≡ Offset offset → Taken l page rest offset
unfolding offset_of offset_code
taken l page rest offset e =
    let causes = offset_causes l page rest in
    by_test (eqb (offset_code l page rest) 0)
    (λ t. let z = eqb-true (offset_code l page rest) 0 t in
    record {
      below = leb-false l rest (clear_at causes 1 refl z);
      few = ltb-false sizes.last (page * l + rest) (clear_at causes 2 refl z);
      same = offset_is _ _ (rw t at e);
    })
    (λ t. absurd (offset_refused _ offset (rw t at e)))

there : (l offset : ℕ) → 0 < l → offset ≤ sizes.last
    → (page : ℕ) × (rest : ℕ) × (page_of l offset ≡ Paged page rest) × (offset_of l page rest ≡ Offset offset)
there l offset h k =
    let e = there_back l offset in
    (offset / l, offset % l, page_is l offset h, answered l _ _ (mod-lt offset h) (rw e k) ∙ ap Offset e)

back : (l page rest offset : ℕ) → offset_of l page rest ≡ Offset offset
    → (offset ≤ sizes.last) × (page_of l offset ≡ Paged page rest)
back l page rest offset e =
    let t = taken l page rest offset e in
    let h = t.below in (
      rw (← t.same) t.few,
      rw (← t.same) (page_is l _ (omega arith) ∙ rw (back_page l page rest h, back_rest l page rest h) refl),
    )

one : (l page rest otherPage otherRest offset : ℕ) → offset_of l page rest ≡ Offset offset
    → offset_of l otherPage otherRest ≡ Offset offset
    → (page ≡ otherPage) × (rest ≡ otherRest)
one l page rest otherPage otherRest offset e f =
    paged _ _ _ _ (sym (back l page rest offset e).1 ∙ (back l otherPage otherRest offset f).1)

-- A run.
run : (l : ℕ) (offsets out : List ℕ) → (pages_of l offsets out).answer ≡ Done → PlaceByPlace l offsets (pages_of l offsets out).out
unfolding pages_of pages_code
run l offsets out e =
    let causes = pages_causes l (length offsets) (length out) in
    by_test (eqb (pages_code l (length offsets) (length out)) 0)
    (λ t. let z = eqb-true (pages_code l (length offsets) (length out)) 0 t in
    let n = eqb-false l 0 (clear_at causes 1 refl z) in
    rw t (record {
      long = length_places l offsets;
      at = λ i h. page_is l _ (omega (arith, n)) ∙ rw (places_page l offsets i h, places_rest l offsets i h) refl;
    }))
    (λ t. absurd (done_refused _ (sym (rw t at e))))

leaves : (l : ℕ) (offsets out : List ℕ) (n : ℕ) → (pages_of l offsets out).answer ≡ Refused n → (pages_of l offsets out).out ≡ out
unfolding pages_of
leaves l offsets out n e =
    by_test (eqb (pages_code l (length offsets) (length out)) 0)
    (λ t. absurd (done_refused n (rw t at e)))
    (λ t. rw t refl)

pub pages_right : PagesRight
pages_right = record { exact = exact; there = there; back = back; answered = answered; one = one; run = run; leaves = leaves }
