-- The claim is the theorem.
use Rattle.rules.proofs.Reading.ReadsRight.{reads_right}
use Rattle.rules.proofs.reads_right.Goals as goal

pub returns : goal.returns
returns c = reads_right
