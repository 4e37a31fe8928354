-- Each return is the first cause, or none.
use borrow.Author.Tests.{tests}
use Rattle.std.proofs.Common.{rules}
use Rattle.rules.specs.Enlist.{joiner_code}
use Rattle.site.proofs.enlist.check_joiner.Goals.{then-course-ne-ACTIVE-via-then-course-ne-ACTIVE as late}
use Rattle.site.proofs.enlist.check_joiner.Goals.{then-course-ne-ACTIVE-via-else-course-ne-ACTIVE+then-site-t as own}
use Rattle.site.proofs.enlist.check_joiner.Goals.{then-course-ne-ACTIVE-via-else-course-ne-ACTIVE+else-site-t+then-in_mask as there}
use Rattle.site.proofs.enlist.check_joiner.Goals as goal

pub returns-then-course-ne-ACTIVE : goal.returns-then-course-ne-ACTIVE
unfolding joiner_code
returns-then-course-ne-ACTIVE c =
    elim c.then-course-ne-ACTIVE.branch [
      | late w ↦ search (rules, tests)
      | own w ↦ search (rules, tests)
      | there w ↦ search (← w.in_mask.ensures, rules, tests)
    ]

pub returns-then-channel_spent : goal.returns-then-channel_spent
unfolding joiner_code
returns-then-channel_spent c = search (← c.in_mask.ensures, ← c.channel_spent.ensures, rules, tests)

pub returns : goal.returns
unfolding joiner_code
returns c = search (← c.in_mask.ensures, ← c.channel_spent.ensures, rules, tests)
