-- The fields that change, and those that stay.
use Rattle.rules.specs.Course.{with_reply}
use Rattle.course.proofs.turn.with_reply.Goals as goal

pub returns : goal.returns
unfolding with_reply
returns c = rw c.with_heard.ensures
