-- The two tests of the definition.
use Rattle.std.proofs.Common.{sym, ◌∙◌}
use Rattle.rules.specs.Merger.{is_due_at}
use Rattle.merger.proofs.heads.Heads.is_due_at.Goals as goal

pub returns-then-has_head : goal.returns-then-has_head
unfolding is_due_at
returns-then-has_head c = c.if-has_head.true ∙ simp (sym c.has_head.ensures ∙ c.if-has_head.true)

pub returns-else-has_head : goal.returns-else-has_head
unfolding is_due_at
returns-else-has_head c = simp (sym c.has_head.ensures ∙ c.if-has_head.false)
