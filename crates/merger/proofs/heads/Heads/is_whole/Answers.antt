-- Each site is tested as the definition tests it.
use Rattle.std.proofs.Common.{sym, ◌∙◌, arith, below_more}
use Rattle.laws.specs.Scan.{all_end, each_none, not_all_below}
use Rattle.rules.specs.Merger.{is_whole}
use Rattle.merger.proofs.heads.Heads.is_whole.Goals as goal

pub loop-i-init : goal.loop-i-init
loop-i-init c = each_none _

pub returns-then-not-is_whole_at : goal.returns-then-not-is_whole_at
unfolding is_whole
returns-then-not-is_whole_at c =
    not_all_below _ _ c.loop-i.i (omega arith) (sym c.is_whole_at.ensures ∙ c.if-not-is_whole_at.true)

pub loop-i-preserved : goal.loop-i-preserved
loop-i-preserved c = below_more _ _ c.loop-i.invariant (sym c.is_whole_at.ensures ∙ c.if-not-is_whole_at.false)

pub returns : goal.returns
unfolding is_whole
returns c = all_end _ _ c.loop-i.i (omega arith) c.loop-i.invariant
