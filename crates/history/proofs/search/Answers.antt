-- Each turn is one step of the walk: what the words of a slot say of the key is what the install in it says.
use Rattle.std.proofs.Common.{◌≡◌, ℕ, suc, ◌+◌, ◌-◌, ◌<◌, sym, ◌∙◌, arith}
use Rattle.kinds.specs.Sizes as sizes
use Rattle.rules.specs.Value.{base_value}
use Rattle.rules.specs.History.{recall, search_in}
use Rattle.rules.specs.HistoryLaws.{within_few}
use Rattle.rules.specs.SearchLaws.{walk_end, walk_hit, walk_on}
use Rattle.lent.specs.Layout.{history_of}
use Rattle.lent.specs.Read.{recall_keys, slot_lies, slot_few}
use Rattle.history.proofs.search.Goals as goal

pub recall_slot-slot-requires : goal.recall_slot-slot-requires
recall_slot-slot-requires c = omega (arith, within_few c.args.installs c.args.p, c.within-visible.ensures)

pub wrote_key_in-requires : goal.wrote_key_in-requires
wrote_key_in-requires c =
    let low : c.recall_slot-slot.result < sizes.history = omega (arith, c.recall_slot-slot.ensures) in
    let slots = c.requires.slots in
    (slot_lies c.args.h.now _ slots low, slot_few c.args.h.now _ slots low)

pub wrote_value_in-requires : goal.wrote_value_in-requires
wrote_value_in-requires c =
    let low : c.recall_slot-slot.result < sizes.history = omega (arith, c.recall_slot-slot.ensures) in
    let slots = c.requires.slots in
    record {
      lie = slot_lies c.args.h.now _ slots low;
      few = slot_few c.args.h.now _ slots low;
      wrote = sym c.wrote_key_in.ensures ∙ c.if-wrote_key_in.true;
    }

pub returns-then-wrote_key_in : goal.returns-then-wrote_key_in
unfolding search_in
returns-then-wrote_key_in c =
    let a = c.args in
    let l = c.loop-looked in
    let left : ℕ = c.within-visible.result - 1 - l.looked in
    let seen = recall_keys a.h.now a.installs left _ c.recall_slot-slot.ensures in
    let wrote = rw seen at (sym c.wrote_key_in.ensures ∙ c.if-wrote_key_in.true) in
    let more : c.within-visible.result - l.looked ≡ suc left = omega (arith, c.loop-looked-test.true) in
    let hit = walk_hit (recall (history_of a.h.now) a.installs) a.k (base_value a.base.now a.k) left l.looked wrote in
    rw (← c.within-visible.ensures, rw seen at c.wrote_value_in.ensures) (sym (rw more at l.invariant ∙ hit))

pub loop-looked-preserved : goal.loop-looked-preserved
loop-looked-preserved c =
    let a = c.args in
    let l = c.loop-looked in
    let left : ℕ = c.within-visible.result - 1 - l.looked in
    let seen = recall_keys a.h.now a.installs left _ c.recall_slot-slot.ensures in
    let lacks = rw seen at (sym c.wrote_key_in.ensures ∙ c.if-wrote_key_in.false) in
    let more : c.within-visible.result - l.looked ≡ suc left = omega (arith, c.loop-looked-test.true) in
    let fewer : c.within-visible.result - (l.looked + 1) ≡ left = omega arith in
    rw fewer
    (rw more at l.invariant ∙ walk_on (recall (history_of a.h.now) a.installs) a.k (base_value a.base.now a.k) left l.looked lacks)

pub returns : goal.returns
unfolding search_in
returns c =
    let a = c.args in
    let l = c.loop-looked in
    let none : c.within-visible.result - l.looked ≡ 0 = omega (arith, c.loop-looked-test.false) in
    let all : l.looked ≡ c.within-visible.result = omega (arith, c.loop-looked-test.false) in
    let end = walk_end (recall (history_of a.h.now) a.installs) a.k (base_value a.base.now a.k) l.looked in
    rw (← c.within-visible.ensures, c.value_at.ensures) (sym (rw all at (rw none at l.invariant ∙ end)))
