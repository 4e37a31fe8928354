-- The site, then the serial.
use Rattle.std.proofs.Common.{sym, ◌∙◌}
use Rattle.laws.specs.Choice.{pick_self}
use Rattle.rules.specs.Valid.{counters_ok}
use Rattle.valid.proofs.counters_ok.Goals as goal

pub returns-then-is_site : goal.returns-then-is_site
unfolding counters_ok
returns-then-is_site c = simp (sym c.is_site.ensures ∙ c.if-is_site.true, pick_self)

pub returns-else-is_site : goal.returns-else-is_site
unfolding counters_ok
returns-else-is_site c = c.if-is_site.false ∙ simp (sym c.is_site.ensures ∙ c.if-is_site.false)
