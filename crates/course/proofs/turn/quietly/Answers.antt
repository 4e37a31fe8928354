-- No words.
use mathlib.Core.Path.{refl}
use Rattle.rules.specs.Course.{quietly}
use Rattle.rules.specs.Effect.{taken_of}
use Rattle.course.proofs.turn.quietly.Goals as goal

pub returns : goal.returns
unfolding quietly taken_of
returns c = refl
