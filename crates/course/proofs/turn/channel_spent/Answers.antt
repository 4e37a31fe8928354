-- The test of the count.
use Rattle.std.proofs.Common.{refl}
use Rattle.rules.specs.Course.{channel_spent}
use Rattle.course.proofs.turn.channel_spent.Goals as goal

pub returns : goal.returns
unfolding channel_spent
returns c = refl
