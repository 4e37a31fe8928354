-- The install read from the words of a slot is that of its place.
use Rattle.std.proofs.Common.{sym, ◌∙◌, arith, below_more}
use Rattle.laws.specs.Scan.{each_none, not_all_below, all_end}
use Rattle.rules.specs.Valid.{history_ok}
use Rattle.lent.specs.Laws.{history_at}
use Rattle.valid.proofs.history_ok.Goals as goal

pub loop-i-init : goal.loop-i-init
loop-i-init c = each_none _

pub slot_ok-requires : goal.slot_ok-requires
slot_ok-requires c = (c.requires.0, omega (arith, c.loop-i-test.true, c.requires.1))

pub returns-then-not-slot_ok : goal.returns-then-not-slot_ok
unfolding history_ok
returns-then-not-slot_ok c =
    let slot = history_at c.args.h.now c.loop-i.i c.loop-i-test.true in
    not_all_below _ _ c.loop-i.i c.loop-i-test.true
    (rw (← c.remembered-n.ensures, slot) (sym c.slot_ok.ensures ∙ c.if-not-slot_ok.true))

pub loop-i-preserved : goal.loop-i-preserved
loop-i-preserved c =
    let slot = history_at c.args.h.now c.loop-i.i c.loop-i-test.true in
    below_more _ _ c.loop-i.invariant
    (rw (← c.remembered-n.ensures, slot) (sym c.slot_ok.ensures ∙ c.if-not-slot_ok.false))

pub returns : goal.returns
unfolding history_ok
returns c = all_end _ _ _ c.loop-i-test.false c.loop-i.invariant
