-- By definition.
use mathlib.Core.Path.{refl}
use Rattle.rules.specs.Merger.{has_head}
use Rattle.merger.proofs.heads.Heads.has_head.Goals as goal

pub returns : goal.returns
unfolding has_head
returns c = refl
