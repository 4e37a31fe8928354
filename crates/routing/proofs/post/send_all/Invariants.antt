-- Each turn sends at least a word, and none past the last.
use Rattle.std.proofs.Common.{◌-◌, ◌≤◌, length}
use Rattle.routing.proofs.post.send_all.Given as goal

abbrev pub invariant-loop-at : goal.invariant-loop-at
invariant-loop-at l = l.at ≤ length l.words

abbrev pub decreases-loop-at : goal.decreases-loop-at
decreases-loop-at l = length l.words - l.at
