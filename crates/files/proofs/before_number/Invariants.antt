-- No more than there is.
use Rattle.std.proofs.Common.{◌≤◌, length}
use Rattle.files.proofs.before_number.Given as goal

abbrev pub invariant-loop-i : goal.invariant-loop-i
invariant-loop-i l = l.n ≤ length l.text
