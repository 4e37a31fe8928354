-- Refusals leave all as it was.
use Rattle.rules.proofs.Refusals.Unaltered.{refused_leaves}
use Rattle.rules.proofs.refused_leaves.Goals as goal

pub returns : goal.returns
returns c = refused_leaves
