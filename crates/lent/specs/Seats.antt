-- S7: the seats of the live table alone tell which places are free, and where a transaction's part is.
use Rattle.std.specs.Prelude.{ℕ, zero, suc, ◌+◌, ◌*◌, ◌<◌, ◌≡◌, refl, List, [], ◌∷◌, Bool, not, length, get_or, eqb}
use Rattle.std.proofs.Common.{ap, ◌∙◌, arith}
use Rattle.laws.specs.Choice.{every}
use Rattle.laws.specs.Scan.{first_below}
use Rattle.kinds.specs.Sizes as sizes
use Rattle.kinds.specs.Stage as stage
use Rattle.kinds.specs.Word as word
use Rattle.kinds.specs.declared.Seat.{Seat}
use Rattle.kinds.specs.declared.Sub.{Sub}
use Rattle.kinds.specs.State.{past_seat}
use Rattle.rules.specs.Live.{part_at, stage_at, is_part_of, free_place, place_of}
use Rattle.lent.specs.Layout.{keys_from, sub_from, live_of}
use Rattle.lent.specs.Laws.{live_at}

abbrev pub seat_at : List Seat → ℕ → Seat
seat_at seats i = get_or seats i past_seat

-- the first free place of seats of any number, or their number
unfoldable pub free_in : List Seat → ℕ
free_in seats = first_below (λ i. eqb (seat_at seats i).stage stage.free) (length seats)

-- the seat of a part of transaction tx
unfoldable pub is_seat_of : Seat → ℕ → Bool
is_seat_of a tx = every (not (eqb a.stage stage.free) ∷ eqb a.tx tx ∷ [])

-- the place of tx in seats of any number, or their number where it is not held there
unfoldable pub place_in : List Seat → ℕ → ℕ
place_in seats tx = first_below (λ i. is_seat_of (seat_at seats i) tx) (length seats)

-- A part's stage and transaction are those of its seat.
pub seat_stage : (seats : List Seat) (w : List ℕ) (i : ℕ) → i < sizes.live → stage_at (live_of seats w) i ≡ (seat_at seats i).stage
unfolding sub_from
seat_stage seats w i h = ap (λ (b : Sub). b.course.stage) (live_at seats w i h)

pub seat_tx : (seats : List Seat) (w : List ℕ) (i : ℕ) → i < sizes.live → (part_at (live_of seats w) i).tx ≡ (seat_at seats i).tx
unfolding sub_from
seat_tx seats w i h = ap (λ (b : Sub). b.tx) (live_at seats w i h)

-- its snapshot, its number and its keys are words of its place
pub place_number_lem : (seats : List Seat) (w : List ℕ) (i : ℕ) → i < sizes.live
    → (part_at (live_of seats w) i).course.number ≡ get_or w (sizes.place * i + word.place_number) 0
unfolding sub_from
place_number_lem seats w i h = ap (λ (b : Sub). b.course.number) (live_at seats w i h)

pub place_snapshot_lem : (seats : List Seat) (w : List ℕ) (i : ℕ) → i < sizes.live
    → (part_at (live_of seats w) i).snapshot ≡ record { installs = get_or w (sizes.place * i + word.place_snapshot) 0 }
unfolding sub_from
place_snapshot_lem seats w i h = ap (λ (b : Sub). b.snapshot) (live_at seats w i h)

pub place_keys_lem : (seats : List Seat) (w : List ℕ) (i : ℕ) → i < sizes.live
    → (part_at (live_of seats w) i).keys ≡ keys_from w (sizes.place * i + word.place_keys)
unfolding sub_from
place_keys_lem seats w i h = ap (λ (b : Sub). b.keys) (live_at seats w i h)

-- so the seat alone tells whether it is a part of tx
pub seat_part : (seats : List Seat) (w : List ℕ) (tx i : ℕ) → i < sizes.live
    → is_seat_of (seat_at seats i) tx ≡ is_part_of (part_at (live_of seats w) i) tx
unfolding is_seat_of is_part_of
seat_part seats w tx i h = rw (seat_stage seats w i h, seat_tx seats w i h)

first_same : (t u : ℕ → Bool) (n : ℕ) → ((k : ℕ) → k < n → t k ≡ u k) → first_below t n ≡ first_below u n
unfolding first_below
first_same t u zero p = refl
first_same t u (suc n) p =
    rw (p 0 (omega arith), first_same (λ k. t (suc k)) (λ k. u (suc k)) n (λ k h. p (suc k) (omega arith)))

-- So sixteen seats have the places of the live table, whatever its words are.
pub free_in_seats : (seats : List Seat) (w : List ℕ) → length seats ≡ sizes.live → free_in seats ≡ free_place (live_of seats w)
unfolding free_in free_place
free_in_seats seats w n =
    ap (first_below (λ i. eqb (seat_at seats i).stage stage.free)) n
    ∙ first_same _ _ sizes.live (λ i h. rw (seat_stage seats w i h))

pub place_in_seats : (seats : List Seat) (w : List ℕ) (tx : ℕ) → length seats ≡ sizes.live
    → place_in seats tx ≡ place_of (live_of seats w) tx
unfolding place_in place_of
place_in_seats seats w tx n =
    ap (first_below (λ i. is_seat_of (seat_at seats i) tx)) n ∙ first_same _ _ sizes.live (λ i h. seat_part seats w tx i h)
