-- The oldest is forgotten, the part's record is written, and the part is kept in the history.
use Prim.Native.Nat.{ℕ, ◌≤◌, ◌<◌}
use mathlib.Core.Path.{◌≡◌}
use mathlib.Core.Bool.{true}
use mathlib.Core.List.{List}
use lib.ListN.{length}
use Rattle.kinds.specs.Sizes as sizes
use Rattle.kinds.specs.State.{sub_at}
use Rattle.kinds.specs.declared.Answer.TheVariants.{Installed}
use Rattle.kinds.specs.declared.Core.{Core}
use Rattle.kinds.specs.declared.Site.{Site}
use Rattle.kinds.specs.declared.Sub.{Sub}
use Rattle.rules.specs.History.{slot_of}
use Rattle.rules.specs.HistoryLaws.{slot_low}
use Rattle.rules.specs.House.{coordinator_of}
use Rattle.rules.specs.Install.{base_after, installed_at, part_words}
use Rattle.rules.specs.Valid.{site_ok}
use Rattle.rules.specs.ValidLaws.{valid_site}
use Rattle.lent.specs.Laws.{lent_lengths}
use Rattle.lent.specs.Lent.{Left, Replied, site_of}
use Rattle.installs.specs.Forgettable.{Forgettable, oldest}
use Rattle.installs.proofs.part.install_at.Goals as goal

-- of a possible site: the entry in the way can be forgotten, and a part wrote no more keys than there is room for
forgettable : (s : Site) → site_ok s ≡ true → Forgettable (oldest s.history s.counters.installs)
forgettable s v =
    let k = ((valid_site s v).entry (slot_of s.counters.installs) (slot_low s.counters.installs)).keys in
    record { few = k.few_wrote; low = k.wrote_low }

few : (s : Site) (place : ℕ) (b : Sub) → site_ok s ≡ true → place < sizes.live → b ≡ sub_at s place → b.keys.wrote ≤ sizes.writes
few s place b v l e = rw e ((valid_site s v).part place l).keys.few_wrote

-- what the rule says of the part that is taken
replied : (p : Core) (w h base : List ℕ) (place : ℕ) (b : Sub) (coordinator words : ℕ) (q : Core) (v g : List ℕ)
    → b ≡ sub_at (site_of p w h) place → coordinator ≡ coordinator_of b.tx → words ≡ length (part_words p.counters.own b)
    → Left p w h q v g (installed_at (site_of p w h) base place).site
    → Replied p w h (record { answer = Installed b.course.number coordinator; words = words; core = q }) v g
    (installed_at (site_of p w h) base place)
unfolding installed_at
replied p w h base place b coordinator words q v g e f k l = record { answer = rw (f, e); words = rw e at k; left = l }

pub part_at-b-requires : goal.part_at-b-requires
part_at-b-requires c = ((lent_lengths _ _ _ c.requires.installable.possible).live, c.requires.installable.low)

pub forget_oldest-requires : goal.forget_oldest-requires
forget_oldest-requires c =
    let a = c.args in
    let possible = c.requires.installable.possible in
    record {
      history_len = ((lent_lengths _ _ _ possible).history, c.requires.base_len.0);
      forgettable = forgettable (site_of a.p a.live.now a.history.now) possible;
    }

pub write_part-words-requires : goal.write_part-words-requires
write_part-words-requires c =
    let a = c.args in
    let ready = c.requires.installable in
    (few (site_of a.p a.live.now a.history.now) a.place _ ready.possible ready.low c.part_at-b.ensures, c.requires.base_len.1)

pub kept-requires : goal.kept-requires
kept-requires c =
    let ready = c.requires.installable in
    record { lengths = (lent_lengths _ _ _ ready.possible, ready.unspent); place_lt_live = (ready.low, c.part_at-b.ensures) }

pub returns : goal.returns
unfolding installed_at base_after
returns c =
    let a = c.args in
    let part = c.part_at-b.ensures in
    let w = c.write_part-words.ensures in
    record {
      replied =
          replied a.p a.live.now a.history.now a.base.now a.place _ _ _ _ _ _ part c.coordinator_of.ensures w.0 (c.kept.ensures a.base.now);
      base_after = c.forget_oldest.ensures;
      out_after = rw (← part) w.1;
    }
