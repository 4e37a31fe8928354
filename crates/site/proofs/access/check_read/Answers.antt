-- Each return is the first cause, or none.
use Rattle.std.proofs.Common.{rules}
use borrow.Author.Tests.{tests}
use Rattle.rules.specs.Access.{read_code}
use Rattle.site.proofs.access.check_read.Goals.{else-not-has-via-then-not-has+else-read-ge-READS as room}
use Rattle.site.proofs.access.check_read.Goals.{else-not-has-via-else-not-has as again}
use Rattle.site.proofs.access.check_read.Goals as goal

pub returns-then-lost : goal.returns-then-lost
unfolding read_code
returns-then-lost c = search rules

pub returns-then-read-ge-READS : goal.returns-then-read-ge-READS
unfolding read_code
returns-then-read-ge-READS c = search (rules, tests)

pub returns : goal.returns
unfolding read_code
returns c =
    elim c.else-not-has.branch [
      | room w ↦ search (rules, tests)
      | again w ↦ search (rules, tests)
    ]
