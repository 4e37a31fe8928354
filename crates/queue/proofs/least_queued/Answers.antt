use Prim.Native.Nat.{ℕ, ◌+◌, ◌*◌, ◌<◌}
use mathlib.Core.Path.{◌≡◌, sym, ◌∙◌}
use mathlib.Core.Bool.{true, false}
use mathlib.Core.List.{List}
use native.Mathlib.Omega.{arith}
use lib.ListN.{get_or}
use Rattle.std.specs.Prelude.{Option, Some}
use Rattle.kinds.specs.Sizes as sizes
use Rattle.kinds.specs.Word as word
use Rattle.kinds.specs.declared.Seat.{Seat}
use Rattle.kinds.specs.declared.Sub.{Sub}
use Rattle.rules.specs.Live.{part_at}
use Rattle.rules.specs.Queue.{comes_first, better_place, least_queued}
use Rattle.rules.proofs.QueueLaws.{queued_none, queued_more}
use Rattle.lent.specs.Layout.{live_of}
use Rattle.lent.specs.Seats.{seat_at, seat_stage, seat_tx, place_number_lem}
use Rattle.queue.specs.Asked.{asked, first_asked}
use Rattle.queue.specs.Best.{IsLeast, place_of, part_of, number_of, tx_of}
use Rattle.queue.specs.declared.Least.{Least}
use Rattle.queue.proofs.least_queued.Goals as goal
use Rattle.queue.proofs.least_queued.Goals.{then-comes_first, else-comes_first}

-- place i is the least of one place more where it comes first, and else the least stays
comes : (live : List Sub) (i best : ℕ) → best ≡ least_queued live i → comes_first (part_at live i) best (part_at live best) ≡ true
    → i ≡ least_queued live (i + 1)
unfolding better_place
comes live i best e t = sym (queued_more live i ∙ rw (← e, t))

stays : (live : List Sub) (i best : ℕ) → best ≡ least_queued live i → comes_first (part_at live i) best (part_at live best) ≡ false
    → best ≡ least_queued live (i + 1)
unfolding better_place
stays live i best e t = sym (queued_more live i ∙ rw (← e, t))

module _ (seats : List Seat) (w : List ℕ) (i : ℕ) (low : i < sizes.live) where
  abbrev number : ℕ
  number = get_or w (sizes.place * i + word.place_number) 0

  abbrev seat : Seat
  seat = seat_at seats i

  -- a place's test, by what its seat and its word of the number say
  first_at : (o : Option Least) → IsLeast (live_of seats w) i o
      → comes_first (asked seat.stage number seat.tx) (place_of o) (part_of o)
      ≡ comes_first (part_at (live_of seats w) i) (place_of o) (part_at (live_of seats w) (place_of o))
  first_at o is =
      rw (← seat_stage seats w i low, ← place_number_lem seats w i low, ← seat_tx seats w i low)
      (first_asked (live_of seats w) (part_at (live_of seats w) i) _ (place_of o) (number_of o) (tx_of o) is.known)

  here : (o : Option Least) → IsLeast (live_of seats w) i o
      → comes_first (asked seat.stage number seat.tx) (place_of o) (part_of o) ≡ true
      → IsLeast (live_of seats w) (i + 1) (Some (record { place = i; number = number; tx = seat.tx }))
  here o is t = record {
    placed = low;
    least = comes (live_of seats w) i (place_of o) is.least (sym (first_at o is) ∙ t);
    known = record { numbered = λ _. sym (place_number_lem seats w i low); named = λ _. sym (seat_tx seats w i low) };
  }

  as_before : (o : Option Least) → IsLeast (live_of seats w) i o
      → comes_first (asked seat.stage number seat.tx) (place_of o) (part_of o) ≡ false
      → IsLeast (live_of seats w) (i + 1) o
  as_before o is t = record {
    placed = is.placed;
    least = stays (live_of seats w) i (place_of o) is.least (sym (first_at o is) ∙ t);
    known = is.known;
  }

pub loop-place-init : goal.loop-place-init
loop-place-init c = record {
  placed = search;
  least = sym (queued_none _);
  known = record { numbered = λ h. absurd (omega arith); named = λ h. absurd (omega arith) };
}

pub loop-place-preserved : goal.loop-place-preserved
loop-place-preserved c =
    let a = c.args in
    let l = c.loop-place in
    let asks = sym c.comes_first.ensures in
    let low = c.loop-place-test.true in
    elim c.if-comes_first.branch [
      | then-comes_first w ↦ rw w.least-is (here a.seats a.live.now l.place low l.least l.invariant (asks ∙ w.if-comes_first.true))
      | else-comes_first w ↦ rw w.least-is (as_before a.seats a.live.now l.place low l.least l.invariant (asks ∙ w.if-comes_first.false))
    ]
