-- The number of sites, or 0.
use mathlib.Core.Path.{sym, ◌∙◌}
use Rattle.lent.specs.Lent.{lent_sites}
use Rattle.tables.proofs.lent_sites.Goals as goal

pub returns-then-lent_ok : goal.returns-then-lent_ok
unfolding lent_sites
returns-then-lent_ok c = rw (sym c.lent_ok.ensures ∙ c.if-lent_ok.true)

pub returns-else-lent_ok : goal.returns-else-lent_ok
unfolding lent_sites
returns-else-lent_ok c = rw (sym c.lent_ok.ensures ∙ c.if-lent_ok.false)
