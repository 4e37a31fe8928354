-- By definition; the number is the cause's.
use Rattle.rules.specs.Merger.{merger_out_of}
use Rattle.merger.proofs.refused.Goals as goal

pub returns : goal.returns
unfolding merger_out_of
returns c = rw c.into.ensures
