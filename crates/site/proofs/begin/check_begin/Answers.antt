-- Each return is the first cause, or none.
use borrow.Author.Tests.{tests, lt-leb}
use Rattle.std.proofs.Common.{◌∙◌, ap, rules}
use Rattle.kinds.specs.Sizes as sizes
use Rattle.kinds.specs.Refusal.{number_of}
use Rattle.rules.specs.Begin.{begin_code}
use Rattle.shell.proofs.Refusals.{passed_on, placed, unplaced}
use Rattle.site.proofs.begin.check_begin.Goals.{then-not-site_ok-via-then-not-site_ok as impossible}
use Rattle.site.proofs.begin.check_begin.Goals.{then-not-site_ok-via-else-not-site_ok+then-not-is_desk as no_desk}
use Rattle.site.proofs.begin.check_begin.Goals as goal

pub returns-then-not-site_ok-clause-code : goal.returns-then-not-site_ok-clause-code
unfolding begin_code
returns-then-not-site_ok-clause-code c =
    elim c.then-not-site_ok.branch [
      | impossible w ↦ search (← c.site_ok.ensures, rules, tests)
      | no_desk w ↦ search (← c.site_ok.ensures, ← w.is_desk.ensures, rules, tests)
    ]

pub returns-in_err-place-clause-code : goal.returns-in_err-place-clause-code
unfolding begin_code
returns-in_err-place-clause-code c =
    let (at, told) = unplaced _ _ _ _ _ c.in_err-place.ensures.value (c.free_place.ensures.first c.args.live.now) in
    passed_on _ _ _ c.from_residual.ensures.1
    (ap number_of told ∙ rw (← at) (search (← c.site_ok.ensures, ← c.is_desk.ensures, rules, tests)))

pub returns-then-p-ge-LAST_SERIAL-clause-code : goal.returns-then-p-ge-LAST_SERIAL-clause-code
unfolding begin_code
returns-then-p-ge-LAST_SERIAL-clause-code c =
    let (at, low) = placed _ _ _ _ _ c.in_ok-place.ensures.value (c.free_place.ensures.first c.args.live.now) c.free_place.ensures.bound in
    rw (← at, lt-leb sizes.live _ low) (search (← c.site_ok.ensures, ← c.is_desk.ensures, rules, tests))

pub returns-clause-code : goal.returns-clause-code
unfolding begin_code
returns-clause-code c =
    let (at, low) = placed _ _ _ _ _ c.in_ok-place.ensures.value (c.free_place.ensures.first c.args.live.now) c.free_place.ensures.bound in
    rw (← at, lt-leb sizes.live _ low) (search (← c.site_ok.ensures, ← c.is_desk.ensures, rules, tests))
