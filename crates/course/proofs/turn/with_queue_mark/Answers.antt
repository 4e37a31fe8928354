-- The fields that change, and those that stay.
use Rattle.std.proofs.Common.{refl}
use Rattle.rules.specs.Course.{with_queue_mark}
use Rattle.course.proofs.turn.with_queue_mark.Goals as goal

pub returns : goal.returns
unfolding with_queue_mark
returns c = refl
