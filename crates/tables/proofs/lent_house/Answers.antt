-- The house, or none.
use mathlib.Core.Path.{sym, ◌∙◌}
use Rattle.lent.specs.Lent.{lent_house}
use Rattle.tables.proofs.lent_house.Goals as goal

pub returns-then-lent_ok : goal.returns-then-lent_ok
unfolding lent_house
returns-then-lent_ok c = rw (sym c.lent_ok.ensures ∙ c.if-lent_ok.true)

pub returns-else-lent_ok : goal.returns-else-lent_ok
unfolding lent_house
returns-else-lent_ok c = rw (sym c.lent_ok.ensures ∙ c.if-lent_ok.false) c.no_house.ensures
