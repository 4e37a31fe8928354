-- The claim is the theorem.
use Rattle.rules.proofs.Readers.ReadersFollow.{readers_follow}
use Rattle.rules.proofs.readers_follow.Goals as goal

pub returns : goal.returns
returns c = readers_follow
