-- The fields that change, and those that stay.
use Rattle.std.proofs.Common.{refl}
use Rattle.rules.specs.Course.{with_stage}
use Rattle.course.proofs.turn.with_stage.Goals as goal

pub returns : goal.returns
unfolding with_stage
returns c = refl
