-- The parts that are lent are the place's own words, and what the message leaves of them is laid back there.
use Rattle.std.proofs.Common.{◌≡◌, ℕ, ◌<◌, List, length, refl, ◌∙◌}
use Rattle.laws.specs.Overlay.{overlay}
use Rattle.kinds.specs.Sizes as sizes
use Rattle.kinds.specs.declared.Core.{Core}
use Rattle.kinds.specs.declared.Reply.{Reply}
use Rattle.rules.specs.Deliver.{message_of}
use Rattle.lent.specs.Lent.{site_of, Replied}
use Rattle.pieces.specs.Own.{lent, relaid, lent_own, laid, only_none}
use Rattle.calls.specs.Tables.{Taking}
use Rattle.calls.specs.Places.{message_effect, MessageLeaves}
use Rattle.calls.proofs.take_in_place.Goals as goal

-- what the call promises of the words that it is lent
abbrev Made : (m : List ℕ) → Core → (w h s out : List ℕ) → Reply → (v l left : List ℕ) → Type 0
Made m p w h s out r v l left =
    let e = message_of (site_of p w h) (length out) s m in
    Replied p w h r v h e × ((l ≡ e.lent) × (left ≡ overlay out e.words))

-- this promise, said of the words of all sites
leaves : (m : List ℕ) (i : ℕ) (p : Core) (live history lists out : List ℕ) (r : Reply) (v l left : List ℕ) → i < sizes.sites
    → Taking live history lists → length v ≡ length (lent sizes.live_words i live) → length l ≡ length (lent sizes.lists i lists)
    → Made m p (lent sizes.live_words i live) (lent sizes.history_words i history) (lent sizes.lists i lists) out r v l left
    → MessageLeaves m i p live history lists out r (relaid sizes.live_words i live v) (relaid sizes.lists i lists l) left
unfolding MessageLeaves message_effect
leaves m i p live history lists out r v l left low tables lv ll promised base =
    let w = laid sizes.live_words i sizes.sites live v low tables.live lv in
    let s = laid sizes.lists i sizes.sites lists l low tables.lists ll in
    let made = rw (lent_own sizes.live_words i live, lent_own sizes.history_words i history, lent_own sizes.lists i lists) at promised in
    record {
      replied = rw w.here made.0;
      base = refl;
      lists = s.here ∙ made.1.0;
      others =
          record {
            live = w.only;
            history = only_none sizes.history_words i history;
            base = only_none sizes.base i base;
            lists = s.only;
          };
      wrote = made.1.1;
    }

pub returns : goal.returns
returns c =
    let a = c.args in
    let e = c.message.ensures in
    leaves a.m.now a.place a.p a.live.now a.history.now a.lists.now _ _ _ _ _ c.requires.0 c.requires.1
    c.message.auto.live c.message.auto.lists (e.replied, (e.lists_after, e.out_after))
