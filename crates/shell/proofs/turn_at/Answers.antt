-- The part that stands at the place, with the core's counters and channels.
use Rattle.rules.specs.Effect.{turn_at}
use Rattle.shell.proofs.turn_at.Goals as goal

pub returns : goal.returns
unfolding turn_at
returns c = λ h. rw c.part_at-sub.ensures
