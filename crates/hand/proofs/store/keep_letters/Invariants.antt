-- The messages that are left are among those lent, and each turn leaves fewer.
use Rattle.std.proofs.Common.{◌≤◌, length}
use Rattle.hand.proofs.store.keep_letters.Given as goal

abbrev pub invariant-loop-rest : goal.invariant-loop-rest
invariant-loop-rest l = length l.rest ≤ length l.ws

abbrev pub decreases-loop-rest : goal.decreases-loop-rest
decreases-loop-rest l = length l.rest
