use Rattle.std.proofs.Common.{sym, ◌∙◌, below_more}
use Rattle.laws.specs.Scan.{each_none, not_all_below, all_end}
use Rattle.messages.proofs.entries.entries_ok.Goals as goal

pub loop-i-init : goal.loop-i-init
loop-i-init c = each_none _

pub returns-then-not-entry_ok : goal.returns-then-not-entry_ok
returns-then-not-entry_ok c = not_all_below _ _ _ c.loop-i-test.true (sym c.entry_ok.ensures ∙ c.if-not-entry_ok.true)

pub loop-i-preserved : goal.loop-i-preserved
loop-i-preserved c = below_more _ _ c.loop-i.invariant (sym c.entry_ok.ensures ∙ c.if-not-entry_ok.false)

pub returns : goal.returns
returns c = all_end _ _ _ c.loop-i-test.false c.loop-i.invariant
