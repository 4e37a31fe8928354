-- Each return is the first cause, or none.
use borrow.Author.Tests.{tests, lt-leb}
use Rattle.std.proofs.Common.{◌∙◌, ap, rules}
use Rattle.kinds.specs.Sizes as sizes
use Rattle.kinds.specs.Refusal.{number_of}
use Rattle.rules.specs.Enlist.{enlist_code}
use Rattle.shell.proofs.Refusals.{passed_on, placed, unplaced}
use Rattle.site.proofs.enlist.check_enlist.Goals.{then-not-site_ok-via-then-not-site_ok as impossible}
use Rattle.site.proofs.enlist.check_enlist.Goals.{then-not-site_ok-via-else-not-site_ok+then-not-is_site as no_site}
use Rattle.site.proofs.enlist.check_enlist.Goals as goal

pub returns-then-room-lt-OUTGOING-clause-code : goal.returns-then-room-lt-OUTGOING-clause-code
unfolding enlist_code
returns-then-room-lt-OUTGOING-clause-code c = search (rules, tests)

pub returns-then-not-site_ok-clause-code : goal.returns-then-not-site_ok-clause-code
unfolding enlist_code
returns-then-not-site_ok-clause-code c =
    elim c.then-not-site_ok.branch [
      | impossible w ↦ search (← c.site_ok.ensures, rules, tests)
      | no_site w ↦ search (← c.lent_house-house.ensures, ← c.site_ok.ensures, ← w.is_site.ensures, rules, tests)
    ]

pub returns-in_err-place-clause-code : goal.returns-in_err-place-clause-code
unfolding enlist_code
returns-in_err-place-clause-code c =
    let (at, told) = unplaced _ _ _ _ _ c.in_err-place.ensures.value (c.place_of.ensures.first c.args.live.now) in
    passed_on _ _ _ c.from_residual.ensures.1
    (ap number_of told
    ∙ rw (← at) (search (← c.lent_house-house.ensures, ← c.site_ok.ensures, ← c.is_site.ensures, rules, tests)))

pub returns-then-coordinator_of-p-clause-code : goal.returns-then-coordinator_of-p-clause-code
unfolding enlist_code
returns-then-coordinator_of-p-clause-code c =
    let (at, low) = placed _ _ _ _ _ c.in_ok-place.ensures.value (c.place_of.ensures.first c.args.live.now) c.place_of.ensures.bound in
    let told = c.coordinator_of.ensures in
    rw (← at, lt-leb sizes.live _ low)
    (search (← c.lent_house-house.ensures, ← c.site_ok.ensures, ← c.is_site.ensures, ← told, rules, tests))

pub returns-clause-code : goal.returns-clause-code
unfolding enlist_code
returns-clause-code c =
    let (at, low) = placed _ _ _ _ _ c.in_ok-place.ensures.value (c.place_of.ensures.first c.args.live.now) c.place_of.ensures.bound in
    let told = c.coordinator_of.ensures in
    rw (← at, lt-leb sizes.live _ low)
    (search (← c.lent_house-house.ensures, ← c.site_ok.ensures, ← c.is_site.ensures, ← told, rules, tests))
