-- The part's entry is laid into the next slot, and its place is laid free; the counter has one install more.
use Prim.Native.Nat.{ℕ, ◌+◌, ◌*◌, ◌<◌}
use mathlib.Core.Path.{◌≡◌}
use mathlib.Core.List.{List}
use borrow.Author.Rules.{rules}
use lib.ListN.{length, set}
use Rattle.laws.specs.Overlay.{put_at}
use Rattle.kinds.specs.Sizes as sizes
use Rattle.kinds.specs.State.{no_sub, sub_at, with_installs}
use Rattle.kinds.specs.declared.Core.{Core}
use Rattle.kinds.specs.declared.Entry.{Entry}
use Rattle.kinds.specs.declared.Seat.{Seat}
use Rattle.kinds.specs.declared.Sub.{Sub}
use Rattle.rules.specs.History.{slot_of}
use Rattle.rules.specs.HistoryLaws.{slot_low}
use Rattle.rules.specs.Install.{entry_of, installed_at}
use Rattle.lent.specs.Laws.{Lengths}
use Rattle.lent.specs.Layout.{place_words, seat_of, slot_words}
use Rattle.lent.specs.Leaves.{left_installed}
use Rattle.lent.specs.Lent.{Left, site_of}
use Rattle.lent.specs.Shape.{Shaped, ShapedEntry}
use Rattle.installs.proofs.part.kept.Goals as goal

-- what is laid: a free part, and the entry of the part at the place in the next slot
record Laid (p : Core) (w h : List ℕ) (place slot : ℕ) (b free : Sub) (seat : Seat) (e : Entry) (v g : List ℕ) : Type 0 where
  part : b ≡ sub_at (site_of p w h) place
  freed : free ≡ no_sub
  sits : seat ≡ seat_of free
  kept : e ≡ entry_of b
  next : slot ≡ slot_of p.counters.installs
  live : Shaped free × (v ≡ put_at (sizes.place * place) w (place_words free))
  history : ShapedEntry e × (g ≡ put_at (sizes.slot * slot) h (slot_words e))

leaves : (p : Core) (w h : List ℕ) (place slot : ℕ) (b free : Sub) (seat : Seat) (e : Entry) (v g : List ℕ) (base : List ℕ)
    → Laid p w h place slot b free seat e v g → length p.seats ≡ sizes.live → Lengths w h → place < sizes.live
    → Left p w h
    (record {
      house = p.house;
      counters = with_installs p.counters (p.counters.installs + 1);
      channels = p.channels;
      seats = set p.seats place seat;
    })
    v g (installed_at (site_of p w h) base place).site
unfolding installed_at
leaves p w h place slot b free seat e v g base l n f m =
    let low : slot < sizes.history = rw l.next (slot_low p.counters.installs) in
    let c = with_installs p.counters (p.counters.installs + 1) in
    rw (l.sits, l.live.1, l.history.1, ← l.part, ← l.kept, ← l.freed, ← l.next)
    (left_installed p w h c place slot free e n f m low l.live.0 l.history.0)

pub put_entry-requires : goal.put_entry-requires
put_entry-requires c = (c.requires.lengths.0.history, rw c.next_slot.ensures (slot_low _))

pub returns : goal.returns
returns c =
    let seats : length c.args.p.seats ≡ sizes.live = search rules in
    λ base.
    let a = c.args in
    leaves a.p a.live.now a.history.now a.place _ a.b _ _ _ _ _ base
    (record {
      part = c.requires.place_lt_live.1;
      freed = c.no_sub-free.ensures;
      sits = c.seat_of.ensures;
      kept = c.entry_of.ensures;
      next = c.next_slot.ensures;
      live = c.put_part.ensures;
      history = c.put_entry.ensures;
    })
    seats c.requires.lengths.0 c.requires.place_lt_live.0
