-- After i sites those of the mask have one part fewer; the sites to come are as they were.
use mathlib.Core.Path.{◌≡◌}
use Rattle.merger.specs.Order.{without_to}
use Rattle.merger.proofs.heads.Heads.without.Given as goal

abbrev pub invariant-loop-i : goal.invariant-loop-i
invariant-loop-i l = (l.h ≡ without_to l.mask l.initial.h l.i)
