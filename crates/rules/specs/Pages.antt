-- Q8.1 to Q8.6 and Q8.8: what the conversions answer and refuse, for every page length, offset, page and rest, and for every run. Neither
-- claim speaks of a quotient or of a list of causes.
use Rattle.std.specs.Prelude.{ℕ, ◌+◌, ◌*◌, ◌≤◌, ◌<◌, ◌≡◌, List, length, get_or}
use Rattle.kinds.specs.Sizes as sizes
use Rattle.kinds.specs.declared.Answer.TheVariants.{Refused, Done, Paged, Offset}
use Rattle.rules.specs.Page.{page_of, offset_of, pages_of}

-- the words of a taken run: place i has page and rest of offset i, as the single call answers them
pub record PlaceByPlace (size : ℕ) (offsets out : List ℕ) : Type 0 where
  pub long : length out ≡ 2 * length offsets
  pub at : (i : ℕ) → i < length offsets → page_of size (get_or offsets i 0) ≡ Paged (get_or out (2 * i) 0) (get_or out (2 * i + 1) 0)

-- the claim: what is answered
pub record PagesRight : Type 0 where
  -- whole pages before the offset, and the bytes left over, fewer than a page
  pub exact : (size offset page rest : ℕ) → page_of size offset ≡ Paged page rest → (page * size + rest ≡ offset) × (rest < size)
  -- there and back: each offset has a place, and the place has that offset
  pub there : (size offset : ℕ) → 0 < size → offset ≤ sizes.last
      → (page : ℕ) × (rest : ℕ) × (page_of size offset ≡ Paged page rest) × (offset_of size page rest ≡ Offset offset)
  -- back and there: an offset that is answered is at most the last, and has that place
  pub back : (size page rest offset : ℕ) → offset_of size page rest ≡ Offset offset
      → (offset ≤ sizes.last) × (page_of size offset ≡ Paged page rest)
  -- each place up to the last offset is answered
  pub answered : (size page rest : ℕ) → rest < size → page * size + rest ≤ sizes.last
      → offset_of size page rest ≡ Offset (page * size + rest)
  -- two places with one offset are one place
  pub one : (size page rest otherPage otherRest offset : ℕ) → offset_of size page rest ≡ Offset offset
      → offset_of size otherPage otherRest ≡ Offset offset → (page ≡ otherPage) × (rest ≡ otherRest)
  -- a run that is taken converts each of its offsets, and a refused one leaves the buffer
  pub run : (size : ℕ) (offsets out : List ℕ) → (pages_of size offsets out).answer ≡ Done
      → PlaceByPlace size offsets (pages_of size offsets out).out
  pub leaves : (size : ℕ) (offsets out : List ℕ) (n : ℕ) → (pages_of size offsets out).answer ≡ Refused n
      → (pages_of size offsets out).out ≡ out

-- the claim: what is refused, and with which number. A run is refused for nothing else; of `page` and `offset` PagesRight says so.
pub record PagesRefused : Type 0 where
  pub page_none : (offset : ℕ) → page_of 0 offset ≡ Refused 28
  pub offset_none : (page rest : ℕ) → offset_of 0 page rest ≡ Refused 28
  pub offset_rest : (size page rest : ℕ) → 0 < size → size ≤ rest → offset_of size page rest ≡ Refused 2
  pub offset_past : (size page rest : ℕ) → 0 < size → sizes.last < page * size + rest → offset_of size page rest ≡ Refused 2
  pub run_buffer : (size : ℕ) (offsets out : List ℕ) → (length out ≡ 2 * length offsets → ⊥)
      → (pages_of size offsets out).answer ≡ Refused 2
  pub run_none : (offsets out : List ℕ) → length out ≡ 2 * length offsets → (pages_of 0 offsets out).answer ≡ Refused 28
  pub run_taken : (size : ℕ) (offsets out : List ℕ) → 0 < size → length out ≡ 2 * length offsets
      → (pages_of size offsets out).answer ≡ Done
