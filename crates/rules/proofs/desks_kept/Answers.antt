-- The claim is the theorem.
use Rattle.rules.proofs.Desks.DeskLists.{desks_kept}
use Rattle.rules.proofs.desks_kept.Goals as goal

pub returns : goal.returns
returns c = desks_kept
