-- Demand 3 is the theorem.
use Rattle.rules.proofs.Demand.Theorem.{demand3}
use Rattle.rules.proofs.demand3_holds.Goals as goal

pub returns : goal.returns
returns c = demand3
