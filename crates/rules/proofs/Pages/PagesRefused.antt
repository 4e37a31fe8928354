-- Why each conversion is refused with its number: each cause before it is clear, and it holds.
use Prim.Native.Nat.{ℕ, ◌+◌, ◌*◌, ◌≤◌, ◌<◌}
use mathlib.Core.Path.{◌≡◌, refl}
use mathlib.Core.List.{List}
use native.Mathlib.Omega.{arith}
use borrow.Author.Tests.{eq-eqb, ne_eqb, le-leb, lt-ltb}
use lib.Dec.{leb}
use lib.ListN.{length}
use Rattle.laws.specs.Choice.{by_test}
use Rattle.kinds.specs.Sizes as sizes
use Rattle.kinds.specs.declared.Answer.TheVariants.{Refused, Done}
use Rattle.rules.specs.Page.{page_code, page_of, offset_code, offset_of, pages_code, pages_of}
use Rattle.rules.specs.Pages.{PagesRefused}

page_none : (offset : ℕ) → page_of 0 offset ≡ Refused 28
unfolding page_of page_code
page_none offset = refl

offset_none : (page rest : ℕ) → offset_of 0 page rest ≡ Refused 28
unfolding offset_of offset_code
offset_none page rest = refl

offset_rest : (size page rest : ℕ) → 0 < size → size ≤ rest → offset_of size page rest ≡ Refused 2
unfolding offset_of offset_code
offset_rest size page rest h k = rw (ne_eqb size 0 (λ z. omega arith), le-leb size rest k) refl

-- whichever of the two holds first
offset_past : (size page rest : ℕ) → 0 < size → sizes.last < page * size + rest → offset_of size page rest ≡ Refused 2
unfolding offset_of offset_code
offset_past size page rest h k =
    by_test (leb size rest)
    (λ t. rw (ne_eqb size 0 (λ z. omega arith), t) refl)
    (λ t. rw (ne_eqb size 0 (λ z. omega arith), t, lt-ltb sizes.last (page * size + rest) k) refl)

run_buffer : (size : ℕ) (offsets out : List ℕ) → (length out ≡ 2 * length offsets → ⊥)
    → (pages_of size offsets out).answer ≡ Refused 2
unfolding pages_of pages_code
run_buffer size offsets out n = rw (ne_eqb (length out) (2 * length offsets) n) refl

run_none : (offsets out : List ℕ) → length out ≡ 2 * length offsets → (pages_of 0 offsets out).answer ≡ Refused 28
unfolding pages_of pages_code
run_none offsets out e = rw (eq-eqb (length out) (2 * length offsets) e) refl

run_taken : (size : ℕ) (offsets out : List ℕ) → 0 < size → length out ≡ 2 * length offsets
    → (pages_of size offsets out).answer ≡ Done
unfolding pages_of pages_code
run_taken size offsets out h e = rw (eq-eqb (length out) (2 * length offsets) e, ne_eqb size 0 (λ z. omega arith)) refl

pub pages_refused : PagesRefused
pages_refused =
    record {
      page_none = page_none;
      offset_none = offset_none;
      offset_rest = offset_rest;
      offset_past = offset_past;
      run_buffer = run_buffer;
      run_none = run_none;
      run_taken = run_taken;
    }
