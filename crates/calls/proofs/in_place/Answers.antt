-- The parts that are lent are the place's own words, and what the call leaves of them is laid back there.
use Rattle.std.proofs.Common.{◌≡◌, ℕ, ◌<◌, List, length, ◌∙◌}
use Rattle.kinds.specs.Sizes as sizes
use Rattle.kinds.specs.declared.Core.{Core}
use Rattle.kinds.specs.declared.Reply.{Reply}
use Rattle.lines.specs.declared.Command.{Command}
use Rattle.pieces.specs.Own.{lent, relaid, lent_own, laid}
use Rattle.calls.specs.Calls.{OwnLeaves}
use Rattle.calls.specs.Tables.{Tables}
use Rattle.calls.specs.Places.{Words, words, line_effect, LineLeaves}
use Rattle.calls.proofs.in_place.Goals as goal

-- the call leaves as many words as it is lent
record Kept (i : ℕ) (t : Words) (v g b l : List ℕ) : Type 0 where
  live : length v ≡ length (lent sizes.live_words i t.live)
  history : length g ≡ length (lent sizes.history_words i t.history)
  base : length b ≡ length (lent sizes.base i t.base)
  lists : length l ≡ length (lent sizes.lists i t.lists)

-- the promise of the call, said of the words of all sites
leaves : (c : Command) (i : ℕ) (p : Core) (t : Words) (out : List ℕ) (r : Reply) (v g b l left : List ℕ) → i < sizes.sites
    → Tables t.live t.history t.base t.lists → Kept i t v g b l
    → OwnLeaves c p (lent sizes.live_words i t.live) (lent sizes.history_words i t.history) (lent sizes.base i t.base)
    (lent sizes.lists i t.lists) out r v g b l left
    → LineLeaves c i p t out r
    (words (relaid sizes.live_words i t.live v) (relaid sizes.history_words i t.history g)
    (relaid sizes.base i t.base b) (relaid sizes.lists i t.lists l)) left
unfolding LineLeaves line_effect
leaves c i p t out r v g b l left low tables kept promised =
    let w = laid sizes.live_words i sizes.sites t.live v low tables.live kept.live in
    let h = laid sizes.history_words i sizes.sites t.history g low tables.history kept.history in
    let k = laid sizes.base i sizes.sites t.base b low tables.base kept.base in
    let s = laid sizes.lists i sizes.sites t.lists l low tables.lists kept.lists in
    let made =
    rw (
      lent_own sizes.live_words i t.live,
      lent_own sizes.history_words i t.history,
      lent_own sizes.base i t.base,
      lent_own sizes.lists i t.lists,
    ) at promised in
    record {
      replied = rw (w.here, h.here) made.0;
      base = k.here ∙ made.1.0;
      lists = s.here ∙ made.1.1.0;
      others = record { live = w.only; history = h.only; base = k.only; lists = s.only };
      wrote = made.1.1.1;
    }

pub returns : goal.returns
returns c =
    let a = c.args in
    let k = c.own_call.auto in
    let t = words a.live.now a.history.now a.base.now a.lists.now in
    leaves a.c a.place a.p t _ _ _ _ _ _ _ c.requires.0 c.requires.1
    (record { live = k.live; history = k.history; base = k.base; lists = k.lists })
    c.own_call.ensures
