-- Each return is the first cause, or none.
use borrow.Author.Tests.{tests}
use Rattle.std.proofs.Common.{rules}
use Rattle.rules.specs.Commit.{abandon_code}
use Rattle.saves.proofs.abandon.check_abandon.Goals as goal

pub returns-then-course-eq-DECIDED : goal.returns-then-course-eq-DECIDED
unfolding abandon_code
returns-then-course-eq-DECIDED c = search (rules, tests)

pub returns-then-not-counts_low : goal.returns-then-not-counts_low
unfolding abandon_code
returns-then-not-counts_low c = search (← c.counts_low.ensures, rules, tests)

pub returns : goal.returns
unfolding abandon_code
returns c = search (← c.counts_low.ensures, rules, tests)
