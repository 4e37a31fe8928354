-- The claim is the theorem.
use Rattle.rules.proofs.Messages.Progress.{messages_progress}
use Rattle.rules.proofs.messages_progress.Goals as goal

pub returns : goal.returns
returns c = messages_progress
