-- The claim is the theorem.
use Rattle.rules.proofs.Readers.ReadersRight.{readers_right}
use Rattle.rules.proofs.readers_right.Goals as goal

pub returns : goal.returns
returns c = readers_right
