-- After i sites their writes stand behind one another, at most 32 words each.
use lib.ListN.{length}
use mathlib.Core.Path.{◌≡◌}
use Rattle.laws.specs.Overlay.{overlay}
use Rattle.rules.specs.Merger.{joined_writes}
use Rattle.queues.proofs.joined.join_writes.Given as goal

abbrev pub invariant-loop-i : goal.invariant-loop-i
invariant-loop-i l = record {
  size : length l.out ≡ length l.initial.out;
  written : l.at ≡ length (joined_writes l.queues l.mask l.i);
  laid : l.out ≡ overlay l.initial.out (joined_writes l.queues l.mask l.i);
}
