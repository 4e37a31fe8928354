-- Named by the mask, and not heard.
use Rattle.std.proofs.Common.{sym, ◌∙◌}
use Rattle.laws.specs.Choice.{pick_self}
use Rattle.rules.specs.Course.{is_outstanding}
use Rattle.course.proofs.turn.is_outstanding.Goals as goal

pub returns-then-in_mask : goal.returns-then-in_mask
unfolding is_outstanding
returns-then-in_mask c =
    simp (sym c.in_mask.ensures ∙ c.if-in_mask.true, ← c.in_mask-then-in_mask.ensures, pick_self)

pub returns-else-in_mask : goal.returns-else-in_mask
unfolding is_outstanding
returns-else-in_mask c = c.if-in_mask.false ∙ simp (sym c.in_mask.ensures ∙ c.if-in_mask.false)
