-- The two kinds of wrong moment.
use Rattle.rules.proofs.Refusals.Moments.{wrong_moments}
use Rattle.rules.proofs.wrong_moments.Goals as goal

pub returns : goal.returns
returns c = wrong_moments
