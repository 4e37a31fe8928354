-- The two tests in order.
use borrow.Author.Rules.{rules}
use borrow.Author.Tests.{tests}
use Rattle.laws.specs.Choice.{pick_self}
use Rattle.lent.specs.Seats.{is_seat_of}
use Rattle.live.proofs.is_seat_of.Goals as goal

pub returns-then-a-ne-FREE : goal.returns-then-a-ne-FREE
unfolding is_seat_of
returns-then-a-ne-FREE c = search (pick_self, tests, rules)

pub returns-else-a-ne-FREE : goal.returns-else-a-ne-FREE
unfolding is_seat_of
returns-else-a-ne-FREE c = search (tests, rules)
