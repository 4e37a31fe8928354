-- A PREPARE of a transaction that is held goes to its handler; any other is voted 5.
use borrow.Author.Tests.{lt-ltb}
use Rattle.kinds.specs.Sizes as sizes
use Rattle.rules.specs.DispatchLaws.{prepared_or}
use Rattle.handlers.specs.Held.{holds}
use Rattle.deliver.proofs.participant.on_prepare.Goals as goal

pub pass_prepare-requires : goal.pass_prepare-requires
pass_prepare-requires c = c.requires.reached

pub returns-in-None : goal.returns-in-None
unfolding prepared_or
returns-in-None c = rw c.in-None.is c.pass_prepare.ensures

pub take_prepare-requires : goal.take_prepare-requires
take_prepare-requires c =
    let pre = c.requires.reached in
    (holds pre.0 (rw c.in-Some.is at c.requires.place), pre.1)

pub returns-in-Some : goal.returns-in-Some
unfolding prepared_or
returns-in-Some c =
    let low = lt-ltb c.in-Some.place sizes.live (rw c.in-Some.is at c.requires.place) in
    rw (c.in-Some.is, low) c.take_prepare.ensures
