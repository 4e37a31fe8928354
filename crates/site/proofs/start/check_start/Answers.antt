-- Each return is the first cause, or none.
use borrow.Author.Tests.{tests}
use Rattle.std.proofs.Common.{◌∙◌, sym, arith, rules}
use Rattle.rules.specs.HouseLaws.{count_clear}
use Rattle.rules.specs.Install.{start_code}
use Rattle.site.proofs.start.check_start.Goals.{then-not-count_ok-via-then-not-count_ok as uncounted}
use Rattle.site.proofs.start.check_start.Goals.{then-not-count_ok-via-else-not-count_ok+then-firsts-sites as short}
use Rattle.site.proofs.start.check_start.Goals.{then-not-is_site-via-then-not-is_site as strange}
use Rattle.site.proofs.start.check_start.Goals.{then-not-is_site-via-else-not-is_site+then-base-ne-BASE as no_base}
use Rattle.site.proofs.start.check_start.Goals.{then-not-is_site-via-else-not-is_site+else-base-ne-BASE+then-lists-ne-LISTS as no_lists}
use Rattle.site.proofs.start.check_start.Goals as goal

pub returns-then-not-count_ok-clause-code : goal.returns-then-not-count_ok-clause-code
unfolding start_code
returns-then-not-count_ok-clause-code c =
    elim c.then-not-count_ok.branch [
      | uncounted w ↦ search (← c.count_ok.ensures, rules, tests)
      | short w ↦ search (← c.count_ok.ensures, rules, tests)
    ]

pub house_of-house-requires : goal.house_of-house-requires
house_of-house-requires c =
    omega (arith, count_clear c.args.sites (sym c.count_ok.ensures ∙ c.if-not-count_ok.false), c.if-firsts-sites.false)

pub returns-then-not-is_site-clause-code : goal.returns-then-not-is_site-clause-code
unfolding start_code
returns-then-not-is_site-clause-code c =
    elim c.then-not-is_site.branch [
      | strange w ↦ search (← c.count_ok.ensures, ← c.house_of-house.ensures, ← c.is_site.ensures, rules, tests)
      | no_base w ↦ search (← c.count_ok.ensures, ← c.house_of-house.ensures, ← c.is_site.ensures, rules, tests)
      | no_lists w ↦ search (← c.count_ok.ensures, ← c.house_of-house.ensures, ← c.is_site.ensures, rules, tests)
    ]

pub table_ok-requires : goal.table_ok-requires
table_ok-requires c =
    let (some, few) = count_clear c.args.sites (sym c.count_ok.ensures ∙ c.if-not-count_ok.false) in
    (some, few, omega (arith, c.if-firsts-sites.false))

pub returns-then-not-table_ok-clause-code : goal.returns-then-not-table_ok-clause-code
unfolding start_code
returns-then-not-table_ok-clause-code c =
    search (← c.count_ok.ensures, ← c.house_of-house.ensures, ← c.is_site.ensures, ← c.table_ok.ensures, rules, tests)

pub returns-clause-code : goal.returns-clause-code
unfolding start_code
returns-clause-code c =
    search (← c.count_ok.ensures, ← c.house_of-house.ensures, ← c.is_site.ensures, ← c.table_ok.ensures, rules, tests)
