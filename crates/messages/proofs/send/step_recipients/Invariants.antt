-- After i sites the counts are those of the rule at i; the next site's is still as it was sent.
use mathlib.Core.Path.{◌≡◌}
use Rattle.rules.specs.Send.{step_recipients}
use Rattle.messages.proofs.send.step_recipients.Given as goal

abbrev pub invariant-loop-i : goal.invariant-loop-i
invariant-loop-i l = l.counts ≡ step_recipients l.initial.counts l.mask l.sender l.i
