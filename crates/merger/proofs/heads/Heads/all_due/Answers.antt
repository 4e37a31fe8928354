-- Each site is tested as the definition tests it.
use Rattle.std.proofs.Common.{sym, ◌∙◌, arith, below_more}
use Rattle.laws.specs.Scan.{all_end, each_none, not_all_below}
use Rattle.merger.proofs.heads.Heads.all_due.Goals as goal

pub loop-i-init : goal.loop-i-init
loop-i-init c = each_none _

pub returns-then-not-is_due_at : goal.returns-then-not-is_due_at
returns-then-not-is_due_at c =
    not_all_below _ _ c.loop-i.i (omega arith) (sym c.is_due_at.ensures ∙ c.if-not-is_due_at.true)

pub loop-i-preserved : goal.loop-i-preserved
loop-i-preserved c = below_more _ _ c.loop-i.invariant (sym c.is_due_at.ensures ∙ c.if-not-is_due_at.false)

pub returns : goal.returns
returns c = all_end _ _ c.loop-i.i (omega arith) c.loop-i.invariant
