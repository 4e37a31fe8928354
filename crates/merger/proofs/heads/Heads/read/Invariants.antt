-- After i sites the first i heads stand in the table.
use mathlib.Core.Path.{◌≡◌}
use Rattle.rules.specs.Merger.{heads_of}
use Rattle.merger.proofs.heads.Heads.read.Given as goal

abbrev pub invariant-loop-i : goal.invariant-loop-i
invariant-loop-i l = (l.heads ≡ heads_of l.queues l.i)
