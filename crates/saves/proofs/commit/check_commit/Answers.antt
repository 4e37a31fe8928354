-- Each return is the first cause, or none.
use borrow.Author.Tests.{tests}
use Rattle.std.proofs.Common.{rules}
use Rattle.rules.specs.Commit.{commit_code}
use Rattle.saves.proofs.commit.check_commit.Goals as goal

pub returns-then-course-ne-ACTIVE : goal.returns-then-course-ne-ACTIVE
unfolding commit_code
returns-then-course-ne-ACTIVE c = search (rules, tests)

pub returns-then-not-all_heard : goal.returns-then-not-all_heard
unfolding commit_code
returns-then-not-all_heard c = search (← c.all_heard.ensures, rules, tests)

pub returns-then-not-counts_low : goal.returns-then-not-counts_low
unfolding commit_code
returns-then-not-counts_low c = search (← c.all_heard.ensures, ← c.counts_low.ensures, rules, tests)

pub returns : goal.returns
unfolding commit_code
returns c = search (← c.all_heard.ensures, ← c.counts_low.ensures, rules, tests)
