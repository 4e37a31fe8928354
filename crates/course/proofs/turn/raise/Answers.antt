-- The larger clock.
use Rattle.rules.specs.Course.{raise}
use Rattle.course.proofs.turn.raise.Goals as goal

pub returns : goal.returns
unfolding raise
returns c = rw c.max.ensures
