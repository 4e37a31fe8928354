-- Each head is one more of the table.
use Rattle.std.proofs.Common.{◌≡◌, refl, sym, arith}
use Rattle.laws.specs.Scan.{fold_below}
use Rattle.merger.specs.Order.{order_of}
use Rattle.rules.specs.Merger.{heads_of}
use Rattle.rules.specs.MergerLaws.{heads_more}
use Rattle.merger.proofs.heads.Heads.read.Goals as goal

pub loop-i-init : goal.loop-i-init
unfolding heads_of fold_below
loop-i-init c = rw c.no_head-heads.ensures refl

pub loop-i-preserved : goal.loop-i-preserved
loop-i-preserved c = rw (c.loop-i.invariant, c.read_head.ensures) (sym (heads_more c.args.queues.now c.loop-i.i))

pub returns : goal.returns
unfolding order_of
returns c =
    let e : c.loop-i.i ≡ c.args.g.house.sites = omega arith in
    rw (← e, c.loop-i.invariant) refl
