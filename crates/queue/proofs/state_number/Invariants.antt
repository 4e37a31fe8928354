-- After i places `least` is the fold over them.
use mathlib.Core.Path.{◌≡◌}
use Rattle.rules.specs.Queue.{state_number}
use Rattle.lent.specs.Layout.{live_of}
use Rattle.queue.proofs.state_number.Given as goal

abbrev pub invariant-loop-i : goal.invariant-loop-i
invariant-loop-i l = l.least ≡ state_number (live_of l.seats l.live) l.clock l.i
