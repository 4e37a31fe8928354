-- Q8.1 to Q8.7: an offset as a page, counted from 0, and the rest, the bytes into that page; the way back; and a run of offsets. `size` is
-- the page length. All are numbers of bytes but the page. A bookmark is an offset here: the start of a value alone.
use Rattle.std.specs.Prelude.{ℕ, ◌+◌, ◌*◌, ◌/◌, ◌%◌, List, [], ◌∷◌, not, length, leb, ltb, eqb}
use Rattle.laws.specs.Choice.{pick}
use Rattle.laws.specs.Cause.{Cause, cause, code_of}
use Rattle.kinds.specs.Sizes as sizes
use Rattle.kinds.specs.Reason as reason
use Rattle.kinds.specs.declared.Answer.{Answer}
use Rattle.kinds.specs.declared.Answer.TheVariants.{Refused, Done, Paged, Offset}

-- whole pages before an offset, the bytes left over, and the offset of a page and a rest
abbrev pub page_at : ℕ → ℕ → ℕ
page_at size offset = offset / size

abbrev pub rest_at : ℕ → ℕ → ℕ
rest_at size offset = offset % size

abbrev pub offset_at : ℕ → ℕ → ℕ → ℕ
offset_at size page rest = page * size + rest

-- Page: the way there.
abbrev pub page_causes : ℕ → List Cause
page_causes size = cause (eqb size 0) reason.no_page ∷ []

unfoldable pub page_code : ℕ → ℕ
page_code size = code_of (page_causes size)

unfoldable pub page_of : ℕ → ℕ → Answer
page_of size offset =
    let code = page_code size in
    pick (eqb code 0) (Paged (page_at size offset) (rest_at size offset)) (Refused code)

-- Offset: the way back. A page length of 0 comes before a rest that is not below it, and before an offset that passes the last.
abbrev pub offset_causes : ℕ → ℕ → ℕ → List Cause
offset_causes size page rest =
    cause (eqb size 0) reason.no_page
    ∷ cause (leb size rest) reason.malformed
    ∷ cause (ltb sizes.last (offset_at size page rest)) reason.malformed
    ∷ []

unfoldable pub offset_code : ℕ → ℕ → ℕ → ℕ
offset_code size page rest = code_of (offset_causes size page rest)

unfoldable pub offset_of : ℕ → ℕ → ℕ → Answer
offset_of size page rest =
    let code = offset_code size page rest in
    pick (eqb code 0) (Offset (offset_at size page rest)) (Refused code)

-- Pages: a run of offsets into a buffer of twice its length. A buffer of another length comes before a page length of 0.
abbrev pub pages_causes : ℕ → ℕ → ℕ → List Cause
pages_causes size given room = cause (not (eqb room (2 * given))) reason.malformed ∷ cause (eqb size 0) reason.no_page ∷ []

unfoldable pub pages_code : ℕ → ℕ → ℕ → ℕ
pages_code size given room = code_of (pages_causes size given room)

-- page and then rest for each
unfoldable pub places_of : ℕ → List ℕ → List ℕ
places_of size [] = []
places_of size (offset ∷ offsets) = page_at size offset ∷ rest_at size offset ∷ places_of size offsets

-- the answer, and the buffer's words after it
pub record Converted : Type 0 where
  pub answer : Answer
  pub out : List ℕ

unfoldable pub pages_of : ℕ → List ℕ → List ℕ → Converted
pages_of size offsets out =
    let code = pages_code size (length offsets) (length out) in
    pick (eqb code 0) (record { answer = Done; out = places_of size offsets }) (record { answer = Refused code; out = out })
