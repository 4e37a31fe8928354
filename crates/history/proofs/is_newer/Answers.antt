-- What the words of a slot say of the key is what the install in it says.
use Rattle.std.proofs.Common.{◌<◌, sym, ◌∙◌, arith, below_more, le-leb}
use borrow.Author.Tests.{lt-leb}
use Rattle.laws.specs.Scan.{any_below_lem, any_end}
use Rattle.kinds.specs.Sizes as sizes
use Rattle.rules.specs.History.{is_newer}
use Rattle.rules.specs.HistoryLaws.{remembered_few}
use Rattle.lent.specs.Read.{recall_keys, slot_lies, slot_few}
use Rattle.history.proofs.is_newer.Goals as goal

pub loop-i-init : goal.loop-i-init
loop-i-init c = λ j l. rw (lt-leb _ j l)

pub recall_slot-slot-requires : goal.recall_slot-slot-requires
recall_slot-slot-requires c = omega (arith, remembered_few c.args.installs, c.remembered-i-end.ensures)

pub wrote_key_in-requires : goal.wrote_key_in-requires
wrote_key_in-requires c =
    let low : c.recall_slot-slot.result < sizes.history = omega (arith, c.recall_slot-slot.ensures) in
    (slot_lies c.args.h.now _ c.requires low, slot_few c.args.h.now _ c.requires low)

pub returns-then-wrote_key_in : goal.returns-then-wrote_key_in
unfolding is_newer
returns-then-wrote_key_in c =
    let a = c.args in
    let l = c.loop-i in
    let told = rw (recall_keys a.h.now a.installs l.i _ c.recall_slot-slot.ensures) at c.wrote_key_in.ensures in
    rw (← c.within-i.ensures, ← c.remembered-i-end.ensures)
    (any_below_lem _ _ l.i c.loop-i-test.true (rw (le-leb _ _ l.auto.i) (sym told ∙ c.if-wrote_key_in.true)))

pub loop-i-preserved : goal.loop-i-preserved
loop-i-preserved c =
    let a = c.args in
    let l = c.loop-i in
    let told = rw (recall_keys a.h.now a.installs l.i _ c.recall_slot-slot.ensures) at c.wrote_key_in.ensures in
    below_more _ _ l.invariant (rw (le-leb _ _ l.auto.i) (sym told ∙ c.if-wrote_key_in.false))

pub returns : goal.returns
unfolding is_newer
returns c = rw (← c.within-i.ensures, ← c.remembered-i-end.ensures) (any_end _ _ _ c.loop-i-test.false c.loop-i.invariant)
