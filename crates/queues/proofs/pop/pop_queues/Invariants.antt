-- After i sites those of the mask are without their heads.
use lib.ListN.{length}
use mathlib.Core.Path.{◌≡◌}
use Rattle.rules.specs.Merger.{pop_queues}
use Rattle.queues.proofs.pop.pop_queues.Given as goal

abbrev pub invariant-loop-i : goal.invariant-loop-i
invariant-loop-i l = record {
  size : length l.queues ≡ length l.initial.queues;
  popped : l.queues ≡ pop_queues l.initial.queues l.mask l.i;
}
