-- An active part with nothing used.
use Rattle.kinds.specs.State.{no_sub}
use Rattle.rules.specs.Course.{new_sub}
use Rattle.course.proofs.turn.new_sub.Goals as goal

pub returns : goal.returns
unfolding new_sub no_sub
returns c = rw c.no_sub-free.ensures
