-- By definition.
use mathlib.Core.Path.{refl}
use Rattle.rules.specs.Merger.{fresh_merger}
use Rattle.merger.proofs.fresh.Goals as goal

pub returns : goal.returns
unfolding fresh_merger
returns c = refl
