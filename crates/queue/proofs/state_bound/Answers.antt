-- A bound by stage.
use borrow.Author.Rules.{rules}
use borrow.Author.Tests.{tests}
use Rattle.rules.specs.Queue.{state_bound}
use Rattle.queue.proofs.state_bound.Goals as goal

pub returns-in-3 : goal.returns-in-3
unfolding state_bound
returns-in-3 c = search (tests, rules)

pub returns-in-4 : goal.returns-in-4
unfolding state_bound
returns-in-4 c = search (tests, rules)

pub returns-in_default : goal.returns-in_default
unfolding state_bound
returns-in_default c = search (tests, rules)
