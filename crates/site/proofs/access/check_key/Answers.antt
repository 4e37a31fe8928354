-- Each return is the first cause, or none.
use borrow.Author.Tests.{tests}
use Rattle.std.proofs.Common.{rules}
use Rattle.rules.specs.Access.{key_code}
use Rattle.site.proofs.access.check_key.Goals.{then-room-ne-BASE-via-then-room-ne-BASE as short}
use Rattle.site.proofs.access.check_key.Goals.{then-room-ne-BASE-via-else-room-ne-BASE+then-not-site_ok as impossible}
use Rattle.site.proofs.access.check_key.Goals.{then-room-ne-BASE-via-else-room-ne-BASE+else-not-site_ok+then-not-is_key as no_key}
use Rattle.site.proofs.access.check_key.Goals as goal

pub returns-then-room-ne-BASE : goal.returns-then-room-ne-BASE
unfolding key_code
returns-then-room-ne-BASE c =
    elim c.then-room-ne-BASE.branch [
      | short w ↦ search (rules, tests)
      | impossible w ↦ search (← w.site_ok.ensures, rules, tests)
      | no_key w ↦ search (← w.site_ok.ensures, ← w.is_key.ensures, rules, tests)
    ]

pub returns-then-home_of-p : goal.returns-then-home_of-p
unfolding key_code
returns-then-home_of-p c =
    search (← c.site_ok.ensures, ← c.is_key.ensures, ← c.lent_house-house.ensures, ← c.home_of.ensures, rules, tests)

pub returns : goal.returns
unfolding key_code
returns c =
    search (← c.site_ok.ensures, ← c.is_key.ensures, ← c.lent_house-house.ensures, ← c.home_of.ensures, rules, tests)
