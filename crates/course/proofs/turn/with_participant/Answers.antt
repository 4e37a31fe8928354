-- The fields that change, and those that stay.
use Rattle.rules.specs.Course.{with_participant}
use Rattle.course.proofs.turn.with_participant.Goals as goal

pub returns : goal.returns
unfolding with_participant
returns c = rw c.mask_of.ensures
