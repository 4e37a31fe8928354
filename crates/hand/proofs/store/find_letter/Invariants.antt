-- Each turn goes on.
use Rattle.std.proofs.Common.{◌-◌}
use Rattle.hand.proofs.store.find_letter.Given as goal

abbrev pub decreases-loop-at : goal.decreases-loop-at
decreases-loop-at l = 131072 - l.at
