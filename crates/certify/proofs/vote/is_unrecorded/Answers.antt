-- Both tests: it names this site, and is not among those on record.
use Rattle.std.proofs.Common.{sym, ◌∙◌}
use Rattle.laws.specs.Choice.{pick_self}
use Rattle.certify.proofs.vote.is_unrecorded.Goals as goal

pub returns-then-in_mask : goal.returns-then-in_mask
returns-then-in_mask c = rw (sym c.in_mask.ensures ∙ c.if-in_mask.true, ← c.is_among.ensures) (sym (pick_self _))

pub returns-else-in_mask : goal.returns-else-in_mask
returns-else-in_mask c = c.if-in_mask.false ∙ rw (sym c.in_mask.ensures ∙ c.if-in_mask.false)
