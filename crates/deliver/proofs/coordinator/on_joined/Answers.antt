-- A JOINED of a transaction that is held goes to its handler; for any other only the count is stepped.
use borrow.Author.Tests.{lt-ltb}
use Rattle.kinds.specs.Sizes as sizes
use Rattle.rules.specs.DispatchLaws.{or_passed}
use Rattle.handlers.specs.Held.{counts, holds}
use Rattle.deliver.proofs.coordinator.on_joined.Goals as goal

pub passed-requires : goal.passed-requires
passed-requires c = counts c.requires.reached

pub returns-in-None : goal.returns-in-None
unfolding or_passed
returns-in-None c = let a = c.args in rw c.in-None.is (c.passed.ensures a.live.now a.history.now)

pub take_joined-requires : goal.take_joined-requires
take_joined-requires c = holds c.requires.reached (rw c.in-Some.is at c.requires.place)

pub returns-in-Some : goal.returns-in-Some
unfolding or_passed
returns-in-Some c =
    let low = lt-ltb c.in-Some.place sizes.live (rw c.in-Some.is at c.requires.place) in
    rw (c.in-Some.is, low) c.take_joined.ensures
