-- One test.
use Rattle.rules.specs.History.{is_forgotten}
use Rattle.history.proofs.is_forgotten.Goals as goal

pub returns : goal.returns
unfolding is_forgotten
returns c = rw c.forgotten.ensures
