-- The claim is the theorem.
use Rattle.rules.proofs.Possible.Possible.{possible}
use Rattle.rules.proofs.states_possible.Goals as goal

pub returns : goal.returns
returns c = possible
