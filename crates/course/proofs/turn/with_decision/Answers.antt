-- The fields that change, and those that stay.
use Rattle.std.proofs.Common.{refl}
use Rattle.rules.specs.Course.{with_decision}
use Rattle.course.proofs.turn.with_decision.Goals as goal

pub returns : goal.returns
unfolding with_decision
returns c = refl
