-- The tests in order: not queued, the first that is, and the order of the two.
use borrow.Author.Tests.{lt-leb}
use Rattle.laws.specs.Choice.{pick_self}
use Rattle.kinds.specs.Sizes as sizes
use Rattle.rules.specs.Live.{is_queued}
use Rattle.rules.specs.Queue.{queued_before, comes_first}
use Rattle.queue.proofs.comes_first.Goals as goal

pub returns-else-is_queued : goal.returns-else-is_queued
unfolding comes_first is_queued
returns-else-is_queued c = rw (← c.is_queued.ensures, c.if-is_queued.false)

pub returns-in-None : goal.returns-in-None
unfolding comes_first is_queued
returns-in-None c = rw (c.in-None.is, ← c.is_queued.ensures, c.if-is_queued.true)

pub returns-in-Some : goal.returns-in-Some
unfolding comes_first queued_before is_queued
returns-in-Some c =
    let low = rw c.in-Some.is at c.requires in
    rw (c.in-Some.is, ← c.is_queued.ensures, c.if-is_queued.true, lt-leb sizes.live _ low, ← c.precedes.ensures, pick_self, pick_self)
