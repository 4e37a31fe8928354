-- Each call says what is defined for it.
use Rattle.said.proofs.Calls.{calls_say}
use Rattle.said.proofs.calls_say.Goals as goal

pub returns : goal.returns
returns c = calls_say
