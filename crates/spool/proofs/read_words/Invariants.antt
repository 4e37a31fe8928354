-- No more words are copied than asked for.
use Rattle.std.proofs.Common.{◌-◌, ◌≤◌}
use Rattle.spool.proofs.read_words.Given as goal

abbrev pub invariant-loop-r : goal.invariant-loop-r
invariant-loop-r l = l.r.done ≤ l.n

abbrev pub decreases-loop-r : goal.decreases-loop-r
decreases-loop-r l = l.n - l.r.done
