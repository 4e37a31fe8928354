-- Each entry is tested as the definition tests it.
use Rattle.std.proofs.Common.{sym, ◌∙◌, below_more}
use Rattle.laws.specs.Scan.{any_below_lem, any_end, none_none}
use Rattle.certify.proofs.vote.any_unrecorded.Goals as goal

pub loop-i-init : goal.loop-i-init
loop-i-init c = none_none _

pub returns-then-is_unrecorded : goal.returns-then-is_unrecorded
returns-then-is_unrecorded c =
    any_below_lem _ _ c.loop-i.i c.loop-i-test.true (sym c.is_unrecorded.ensures ∙ c.if-is_unrecorded.true)

pub loop-i-preserved : goal.loop-i-preserved
loop-i-preserved c = below_more _ _ c.loop-i.invariant (sym c.is_unrecorded.ensures ∙ c.if-is_unrecorded.false)

pub returns : goal.returns
returns c = any_end _ _ _ c.loop-i-test.false c.loop-i.invariant
