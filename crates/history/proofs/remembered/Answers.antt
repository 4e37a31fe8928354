-- The lesser of the installs and the history's length.
use Rattle.std.proofs.Common.{arith}
use Rattle.rules.specs.History.{remembered}
use Rattle.history.proofs.remembered.Goals as goal

pub returns : goal.returns
unfolding remembered
returns c = omega arith
