-- The stage, the vote and the reply that is wanted are the rule's tests.
use borrow.Author.Rules.{rules}
use borrow.Author.Tests.{tests}
use Rattle.laws.specs.Choice.{pick_self}
use Rattle.rules.specs.Deliver.{vote_in_turn}
use Rattle.handlers.proofs.coordinator.vote_in_turn.Goals as goal

pub returns-in-3 : goal.returns-in-3
unfolding vote_in_turn
returns-in-3 c = search (← c.is_outstanding-wanted.ensures, pick_self, tests, rules)

pub returns-then-vote-ne0 : goal.returns-then-vote-ne0
unfolding vote_in_turn
returns-then-vote-ne0 c = search (← c.is_outstanding-wanted.ensures, pick_self, tests, rules)

pub returns-else-vote-ne0 : goal.returns-else-vote-ne0
unfolding vote_in_turn
returns-else-vote-ne0 c = search (tests, rules)

pub returns-in_default : goal.returns-in_default
unfolding vote_in_turn
returns-in_default c = search (tests, rules)
