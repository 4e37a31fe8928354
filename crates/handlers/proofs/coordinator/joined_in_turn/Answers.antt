-- The stage, and whether the reply is awaited.
use borrow.Author.Rules.{rules}
use borrow.Author.Tests.{tests}
use Rattle.laws.specs.Choice.{pick_self}
use Rattle.rules.specs.Deliver.{joined_in_turn}
use Rattle.handlers.proofs.coordinator.joined_in_turn.Goals as goal

pub returns-then-c-eq-ACTIVE : goal.returns-then-c-eq-ACTIVE
unfolding joined_in_turn
returns-then-c-eq-ACTIVE c = search (← c.is_outstanding.ensures, pick_self, tests, rules)

pub returns-else-c-eq-ACTIVE : goal.returns-else-c-eq-ACTIVE
unfolding joined_in_turn
returns-else-c-eq-ACTIVE c = search (tests, rules)
