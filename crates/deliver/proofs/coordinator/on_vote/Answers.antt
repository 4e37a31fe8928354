-- A VOTE of a transaction that is held goes to its handler; for any other only the count is stepped.
use borrow.Author.Tests.{lt-ltb}
use Rattle.laws.specs.Overlay.{overlay_none}
use Rattle.kinds.specs.Sizes as sizes
use Rattle.rules.specs.Deliver.{passed}
use Rattle.rules.specs.DispatchLaws.{or_passed}
use Rattle.handlers.specs.Held.{counts, holds}
use Rattle.deliver.proofs.coordinator.on_vote.Goals as goal

pub passed-requires : goal.passed-requires
passed-requires c = counts c.requires.reached.0

pub returns-in-None : goal.returns-in-None
unfolding or_passed passed
returns-in-None c =
    let a = c.args in
    record { replied = rw c.in-None.is (c.passed.ensures a.live.now a.history.now); out_after = rw c.in-None.is (overlay_none a.out.now) }

pub take_vote-requires : goal.take_vote-requires
take_vote-requires c =
    let pre = c.requires.reached in
    record { held = holds pre.0 (rw c.in-Some.is at c.requires.place); outgoing_in_bounds = pre.1 }

pub returns-in-Some : goal.returns-in-Some
unfolding or_passed
returns-in-Some c =
    let low = lt-ltb c.in-Some.place sizes.live (rw c.in-Some.is at c.requires.place) in
    rw (c.in-Some.is, low) c.take_vote.ensures
