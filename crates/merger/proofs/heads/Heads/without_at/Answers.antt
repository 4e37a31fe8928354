-- Where the mask names the site one part fewer is queued, and there is one.
use Rattle.std.proofs.Common.{sym, ◌∙◌}
use Rattle.merger.specs.Order.{without_at}
use Rattle.rules.specs.Merger.{pop_merger_at}
use Rattle.merger.proofs.heads.Heads.without_at.Goals as goal

pub returns-then-not-in_mask : goal.returns-then-not-in_mask
unfolding without_at pop_merger_at
returns-then-not-in_mask c = simp (sym c.in_mask.ensures ∙ c.if-not-in_mask.true)

pub returns : goal.returns
unfolding without_at pop_merger_at
returns c = simp (sym c.in_mask.ensures ∙ c.if-not-in_mask.false)
