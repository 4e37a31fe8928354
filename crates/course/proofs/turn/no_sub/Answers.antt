-- All zeros.
use Rattle.kinds.specs.State.{no_sub}
use Rattle.course.proofs.turn.no_sub.Goals as goal

pub returns : goal.returns
unfolding no_sub
returns c = rw c.no_keys.ensures
