-- One test.
use mathlib.Core.Path.{refl}
use Rattle.live.proofs.is_prepared.Goals as goal

pub returns : goal.returns
returns c = refl
