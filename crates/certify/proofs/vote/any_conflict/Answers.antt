-- The install in a slot is the one recalled from it.
use Rattle.std.proofs.Common.{sym, ◌∙◌, arith, below_more}
use Rattle.laws.specs.Scan.{any_below_lem, any_end, none_none}
use Rattle.rules.specs.HistoryLaws.{within_few}
use Rattle.certify.specs.Asks.{recalled}
use Rattle.certify.proofs.vote.any_conflict.Goals as goal

pub loop-k-init : goal.loop-k-init
loop-k-init c = none_none _

pub recall_slot-slot-requires : goal.recall_slot-slot-requires
recall_slot-slot-requires c = omega (arith, c.within-seen.ensures, within_few c.args.installs c.args.p)

pub conflicts_with-requires : goal.conflicts_with-requires
conflicts_with-requires c =
    let pre = c.requires in
    let slot = c.recall_slot-slot in
    record { entries = pre.entries; keys_in = (pre.part, pre.slots slot.result (omega (arith, slot.ensures))) }

pub returns-then-conflicts_with : goal.returns-then-conflicts_with
returns-then-conflicts_with c =
    let asked = rw (recalled c.args.history.now c.args.installs c.loop-k.k _ c.recall_slot-slot.ensures) at c.conflicts_with.ensures in
    rw (← c.within-seen.ensures)
    (any_below_lem _ _ c.loop-k.k c.loop-k-test.true (sym asked ∙ c.if-conflicts_with.true))

pub loop-k-preserved : goal.loop-k-preserved
loop-k-preserved c =
    let asked = rw (recalled c.args.history.now c.args.installs c.loop-k.k _ c.recall_slot-slot.ensures) at c.conflicts_with.ensures in
    below_more _ _ c.loop-k.invariant (sym asked ∙ c.if-conflicts_with.false)

pub returns : goal.returns
returns c = rw (← c.within-seen.ensures) (any_end _ _ _ c.loop-k-test.false c.loop-k.invariant)
