-- After i writes the copy is the fold over them.
use lib.ListN.{length}
use mathlib.Core.Path.{◌≡◌}
use Rattle.rules.specs.Copy.{put_writes}
use Rattle.copy.proofs.writes.put_writes.Given as goal

abbrev pub invariant-loop-i : goal.invariant-loop-i
invariant-loop-i l = record {
  size : length l.copy ≡ length l.initial.copy;
  laid : l.copy ≡ put_writes l.initial.copy l.ws l.i;
}
