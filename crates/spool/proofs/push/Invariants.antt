-- No more words are copied than there are.
use Rattle.std.proofs.Common.{◌-◌, ◌≤◌, length}
use Rattle.spool.proofs.push.Given as goal

abbrev pub invariant-loop-r : goal.invariant-loop-r
invariant-loop-r l = l.r.done ≤ length l.words

abbrev pub decreases-loop-r : goal.decreases-loop-r
decreases-loop-r l = length l.words - l.r.done
