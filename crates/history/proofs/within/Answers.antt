-- The snapshot's installs less what is forgotten.
use Rattle.std.proofs.Common.{arith}
use Rattle.rules.specs.History.{within}
use Rattle.history.proofs.within.Goals as goal

pub returns : goal.returns
unfolding within
returns c = omega (arith, c.saturating_sub.ensures, c.forgotten.ensures)
