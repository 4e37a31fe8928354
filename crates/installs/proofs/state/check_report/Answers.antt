-- Each return is the first cause, or none.
use borrow.Author.Tests.{tests}
use Rattle.std.proofs.Common.{rules}
use Rattle.rules.specs.Install.{report_code}
use Rattle.installs.proofs.state.check_report.Goals as goal

pub returns-then-room-lt-PART : goal.returns-then-room-lt-PART
unfolding report_code
returns-then-room-lt-PART c = search (rules, tests)

pub returns-then-not-site_ok : goal.returns-then-not-site_ok
unfolding report_code
returns-then-not-site_ok c = search (← c.site_ok.ensures, rules, tests)

pub returns : goal.returns
unfolding report_code
returns c = search (← c.site_ok.ensures, rules, tests)
