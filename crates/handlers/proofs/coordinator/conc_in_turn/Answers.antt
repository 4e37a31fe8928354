-- The stage, and whether the reply is awaited.
use borrow.Author.Rules.{rules}
use borrow.Author.Tests.{tests}
use Rattle.laws.specs.Choice.{pick_self}
use Rattle.rules.specs.Deliver.{conc_in_turn}
use Rattle.handlers.proofs.coordinator.conc_in_turn.Goals as goal

pub returns-then-c-eq-PREPARED : goal.returns-then-c-eq-PREPARED
unfolding conc_in_turn
returns-then-c-eq-PREPARED c = search (← c.is_outstanding.ensures, pick_self, tests, rules)

pub returns-else-c-eq-PREPARED : goal.returns-else-c-eq-PREPARED
unfolding conc_in_turn
returns-else-c-eq-PREPARED c = search (tests, rules)
