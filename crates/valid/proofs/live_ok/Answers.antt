-- The part of a seat is that of its place.
use Rattle.std.proofs.Common.{sym, ◌∙◌, arith, below_more}
use Rattle.laws.specs.Scan.{each_none, not_all_below, all_end}
use Rattle.rules.specs.Valid.{live_ok}
use Rattle.lent.specs.Laws.{live_at}
use Rattle.valid.proofs.live_ok.Goals as goal

pub loop-i-init : goal.loop-i-init
loop-i-init c = each_none _

pub part_ok-requires : goal.part_ok-requires
part_ok-requires c = (c.requires.0, omega (arith, c.loop-i-test.true, c.requires.1))

pub returns-then-not-part_ok : goal.returns-then-not-part_ok
unfolding live_ok
returns-then-not-part_ok c =
    let part = live_at c.args.seats c.args.w.now c.loop-i.i c.loop-i-test.true in
    not_all_below _ _ c.loop-i.i c.loop-i-test.true (rw part (sym c.part_ok.ensures ∙ c.if-not-part_ok.true))

pub loop-i-preserved : goal.loop-i-preserved
loop-i-preserved c =
    let part = live_at c.args.seats c.args.w.now c.loop-i.i c.loop-i-test.true in
    below_more _ _ c.loop-i.invariant (rw part (sym c.part_ok.ensures ∙ c.if-not-part_ok.false))

pub returns : goal.returns
unfolding live_ok
returns c = all_end _ _ _ c.loop-i-test.false c.loop-i.invariant
