-- Each return is the first cause, or none; that something is due is tested before the count.
use borrow.Author.Tests.{tests}
use Rattle.std.proofs.Common.{◌≡◌, ◌∙◌, sym, ap, List, false, arith, rules}
use Rattle.laws.specs.Choice.{unset}
use Rattle.kinds.specs.Sizes as sizes
use Rattle.kinds.specs.Refusal.{number_of}
use Rattle.kinds.specs.declared.Sub.{Sub}
use Rattle.rules.specs.Install.{install_code}
use Rattle.rules.specs.InstallLaws.{due_low}
use Rattle.rules.specs.Queue.{is_installable}
use Rattle.lent.specs.Laws.{lent_lengths}
use Rattle.shell.proofs.Refusals.{passed_on, placed, unplaced}
use Rattle.installs.proofs.part.check_install.Goals.{then-given-ne-BASE-via-then-given-ne-BASE as short}
use Rattle.installs.proofs.part.check_install.Goals.{then-given-ne-BASE-via-else-given-ne-BASE+then-not-site_ok as impossible}
use Rattle.installs.proofs.part.check_install.Goals as goal

-- nothing is due past the table
none_due : (live : List Sub) → is_installable live sizes.live ≡ false
none_due live = unset _ (λ t. let h = due_low live sizes.live t in omega arith)

pub returns-then-room-lt-PART-clause-code : goal.returns-then-room-lt-PART-clause-code
unfolding install_code
returns-then-room-lt-PART-clause-code c = search (rules, tests)

pub returns-then-given-ne-BASE-clause-code : goal.returns-then-given-ne-BASE-clause-code
unfolding install_code
returns-then-given-ne-BASE-clause-code c =
    elim c.then-given-ne-BASE.branch [
      | short w ↦ search (rules, tests)
      | impossible w ↦ search (← w.site_ok.ensures, rules, tests)
    ]

pub least_queued-requires : goal.least_queued-requires
least_queued-requires c = (lent_lengths c.args.p _ c.args.history.now (sym c.site_ok.ensures ∙ c.if-not-site_ok.false)).live

pub returns-in_err-place-clause-code : goal.returns-in_err-place-clause-code
unfolding install_code
returns-in_err-place-clause-code c =
    let (at, told) = unplaced _ _ _ _ _ c.in_err-place.ensures.value c.least_queued.ensures.first in
    passed_on _ _ _ c.from_residual.ensures.1
    (ap number_of told ∙ rw (← at, none_due _) (search (← c.site_ok.ensures, rules, tests)))

pub returns-then-not-is_installable-clause-code : goal.returns-then-not-is_installable-clause-code
unfolding install_code
returns-then-not-is_installable-clause-code c =
    let (at, low) = placed _ _ _ _ _ c.in_ok-place.ensures.value c.least_queued.ensures.first c.least_queued.ensures.bound in
    rw (← at) (search (← c.site_ok.ensures, ← c.is_installable.ensures c.args.live.now, rules, tests))

pub returns-then-p-ge-LAST-clause-code : goal.returns-then-p-ge-LAST-clause-code
unfolding install_code
returns-then-p-ge-LAST-clause-code c =
    let (at, low) = placed _ _ _ _ _ c.in_ok-place.ensures.value c.least_queued.ensures.first c.least_queued.ensures.bound in
    rw (← at) (search (← c.site_ok.ensures, ← c.is_installable.ensures c.args.live.now, rules, tests))

pub returns-clause-code : goal.returns-clause-code
unfolding install_code
returns-clause-code c =
    let (at, low) = placed _ _ _ _ _ c.in_ok-place.ensures.value c.least_queued.ensures.first c.least_queued.ensures.bound in
    rw (← at) (search (← c.site_ok.ensures, ← c.is_installable.ensures c.args.live.now, rules, tests))
