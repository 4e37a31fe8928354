-- The header has the part's words and the count that was handed in.
use Rattle.rules.specs.Install.{part_head}
use Rattle.installs.proofs.part.part_head.Goals as goal

pub returns : goal.returns
unfolding part_head
returns c = simp (c.coordinator_of.ensures, c.requires)
