-- The first cause, as every call and every start returns it.
use Rattle.rules.proofs.Refusals.FirstCause.{first_cause}
use Rattle.rules.proofs.first_cause.Goals as goal

pub returns : goal.returns
returns c = first_cause
