use Prim.Native.Nat.{ℕ, ◌*◌, ◌<◌}
use mathlib.Core.Bool.{Bool}
use mathlib.Core.List.{List}
use mathlib.Core.Path.{◌≡◌, sym, ap, ◌∙◌}
use native.Mathlib.Omega.{arith}
use borrow.Author.Count.{below_more}
use Rattle.laws.specs.Scan.{none_none, any_below_lem, any_end}
use Rattle.kinds.specs.Sizes as sizes
use Rattle.kinds.specs.declared.Seat.{Seat}
use Rattle.rules.specs.Live.{part_at, other_holds, key_held}
use Rattle.lent.specs.Layout.{live_of, sub_from}
use Rattle.lent.specs.Laws.{live_at}
use Rattle.lent.specs.Seats.{seat_at, place_keys_lem}
use Rattle.live.proofs.key_held.Goals as goal

-- a place's test, of the site's part there
holds_at : (seats : List Seat) (w : List ℕ) (place k i : ℕ) (r : Bool) → i < sizes.live
    → r ≡ other_holds place k i (sub_from (seat_at seats i) w (sizes.place * i)) → r ≡ other_holds place k i (part_at (live_of seats w) i)
holds_at seats w place k i r low e = e ∙ ap (other_holds place k i) (sym (live_at seats w i low))

pub loop-i-init : goal.loop-i-init
loop-i-init c = none_none _

pub other_holds-requires : goal.other_holds-requires
other_holds-requires c =
    let i = c.loop-i.i in
    let low = c.loop-i-test.true in
    record {
      place_in_bounds = omega (arith, c.requires.live_len);
      place_keys_bound = rw (← place_keys_lem c.args.seats c.args.live.now i low) (c.requires.by_index i low);
    }

pub returns-then-other_holds : goal.returns-then-other_holds
unfolding key_held
returns-then-other_holds c =
    let a = c.args in
    let low = c.loop-i-test.true in
    any_below_lem _ _ c.loop-i.i low (sym (holds_at a.seats a.live.now a.place a.k _ _ low c.other_holds.ensures) ∙ c.if-other_holds.true)

pub loop-i-preserved : goal.loop-i-preserved
loop-i-preserved c =
    let a = c.args in
    let held = holds_at a.seats a.live.now a.place a.k _ _ c.loop-i-test.true c.other_holds.ensures in
    below_more _ _ c.loop-i.invariant (sym held ∙ c.if-other_holds.false)

pub returns : goal.returns
unfolding key_held
returns c = any_end _ _ _ c.loop-i-test.false c.loop-i.invariant
