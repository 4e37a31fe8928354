use Prim.Native.Nat.{ℕ, ◌*◌, ◌+◌, ◌<◌}
use mathlib.Core.Path.{◌≡◌, sym, ap, ◌∙◌}
use mathlib.Core.List.{List}
use native.Mathlib.Omega.{arith}
use lib.ListN.{get_or}
use Rattle.kinds.specs.Sizes as sizes
use Rattle.kinds.specs.Word as word
use Rattle.kinds.specs.declared.Seat.{Seat}
use Rattle.rules.specs.Live.{part_at}
use Rattle.rules.specs.Queue.{state_bound}
use Rattle.rules.proofs.QueueLaws.{state_none, state_more}
use Rattle.lent.specs.Layout.{live_of}
use Rattle.lent.specs.Seats.{seat_at, seat_stage, place_number_lem}
use Rattle.queue.specs.Asked.{asked, bound_asked}
use Rattle.queue.proofs.state_number.Goals as goal

-- a place's bound, by what its seat and its word of the number say
bound_at : (seats : List Seat) (w : List ℕ) (i tx n : ℕ) → i < sizes.live
    → state_bound (asked (seat_at seats i).stage (get_or w (sizes.place * i + word.place_number) 0) tx) n
    ≡ state_bound (part_at (live_of seats w) i) n
bound_at seats w i tx n h =
    rw (← seat_stage seats w i h, ← place_number_lem seats w i h) (bound_asked (part_at (live_of seats w) i) tx n)

pub loop-i-init : goal.loop-i-init
loop-i-init c = sym (state_none _ _)

pub loop-i-preserved : goal.loop-i-preserved
loop-i-preserved c =
    let l = c.loop-i in
    let a = c.args in
    let live = live_of a.seats a.live.now in
    let bound = bound_at a.seats a.live.now l.i 0 l.least c.loop-i-test.true in
    let least = ap (state_bound (part_at live l.i)) l.invariant ∙ sym (state_more live a.clock l.i) in
    c.state_bound-least.ensures 0 ∙ bound ∙ least

pub returns : goal.returns
returns c =
    let l = c.loop-i in
    let q : l.i ≡ sizes.live = omega arith in
    l.invariant ∙ rw q
