-- The claim is the theorem.
use Rattle.rules.proofs.Records.Records.{records_progress}
use Rattle.rules.proofs.records_progress.Goals as goal

pub returns : goal.returns
returns c = records_progress
