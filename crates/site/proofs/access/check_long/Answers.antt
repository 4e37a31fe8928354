-- The cause is the value's.
use Rattle.std.proofs.Common.{rules}
use Rattle.rules.specs.Access.{long_code}
use Rattle.site.proofs.access.check_long.Goals as goal

pub returns-then-not-fits : goal.returns-then-not-fits
unfolding long_code
returns-then-not-fits c = search (← c.fits.ensures, rules)

pub returns : goal.returns
unfolding long_code
returns c = search (← c.fits.ensures, rules)
