-- All zeros.
use mathlib.Core.Path.{refl}
use Rattle.kinds.specs.State.{no_keys}
use Rattle.course.proofs.turn.no_keys.Goals as goal

pub returns : goal.returns
unfolding no_keys
returns c = refl
