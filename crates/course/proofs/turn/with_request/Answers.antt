-- The fields that change, and those that stay.
use Rattle.std.proofs.Common.{refl}
use Rattle.rules.specs.Course.{with_request}
use Rattle.course.proofs.turn.with_request.Goals as goal

pub returns : goal.returns
unfolding with_request
returns c = refl
