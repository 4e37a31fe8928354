-- Keys live in their ranges.
use Rattle.rules.proofs.Houses.Placed.{keys_placed}
use Rattle.rules.proofs.keys_placed.Goals as goal

pub returns : goal.returns
returns c = keys_placed
