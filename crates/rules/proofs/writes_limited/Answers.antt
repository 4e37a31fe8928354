-- The claim is the theorem.
use Rattle.rules.proofs.Desks.WriteLimits.{writes_limited}
use Rattle.rules.proofs.writes_limited.Goals as goal

pub returns : goal.returns
returns c = writes_limited
