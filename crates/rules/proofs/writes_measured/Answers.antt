-- The claim is the theorem.
use Rattle.rules.proofs.Lengths.Measured.{writes_measured}
use Rattle.rules.proofs.writes_measured.Goals as goal

pub returns : goal.returns
returns c = writes_measured
