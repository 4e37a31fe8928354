-- A bad table is refused 22.
use Rattle.rules.proofs.Houses.Refused22.{tables_refused}
use Rattle.rules.proofs.tables_refused.Goals as goal

pub returns : goal.returns
returns c = tables_refused
