-- Houses stay.
use Rattle.rules.proofs.Houses.Stay.{houses_stay}
use Rattle.rules.proofs.houses_stay.Goals as goal

pub returns : goal.returns
returns c = houses_stay
