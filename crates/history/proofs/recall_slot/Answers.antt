-- The sum is at most the installs, or 32.
use native.Mathlib.Omega.{arith}
use Rattle.rules.specs.History.{forgotten}
use Rattle.history.proofs.recall_slot.Goals as goal

pub overflow_add-result : goal.overflow_add-result
unfolding forgotten
overflow_add-result c = omega (arith, c.forgotten-first.ensures)

pub returns : goal.returns
returns c = rw c.forgotten-first.ensures
