-- The least so far is that of the places passed.
use Rattle.lent.specs.Layout.{live_of}
use Rattle.queue.specs.Best.{IsLeast}
use Rattle.queue.proofs.least_queued.Given as goal

abbrev pub invariant-loop-place : goal.invariant-loop-place
invariant-loop-place l = IsLeast (live_of l.seats l.live) l.place l.least
