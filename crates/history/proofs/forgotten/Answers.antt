-- What is above the history's length.
use Rattle.std.proofs.Common.{arith}
use Rattle.rules.specs.History.{forgotten}
use Rattle.history.proofs.forgotten.Goals as goal

pub returns : goal.returns
unfolding forgotten
returns c = omega arith
