-- The claim is the theorem.
use Rattle.rules.proofs.Readers.ReadersRefused.{readers_refused}
use Rattle.rules.proofs.readers_refused.Goals as goal

pub returns : goal.returns
returns c = readers_refused
