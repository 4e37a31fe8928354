-- By definition.
use mathlib.Core.Path.{refl}
use Rattle.rules.specs.Merger.{merger_out_of}
use Rattle.merger.proofs.with_source.Goals as goal

pub returns : goal.returns
unfolding merger_out_of
returns c = refl
