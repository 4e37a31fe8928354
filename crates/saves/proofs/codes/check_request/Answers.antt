-- Each return is the first cause, or none.
use borrow.Author.Tests.{tests, lt-leb}
use Rattle.std.proofs.Common.{◌∙◌, ap, rules}
use Rattle.kinds.specs.Sizes as sizes
use Rattle.kinds.specs.Refusal.{number_of}
use Rattle.rules.specs.Commit.{request_code}
use Rattle.shell.proofs.Refusals.{passed_on, placed, unplaced}
use Rattle.saves.proofs.codes.check_request.Goals as goal

pub returns-then-room-lt-OUTGOING-clause-code : goal.returns-then-room-lt-OUTGOING-clause-code
unfolding request_code
returns-then-room-lt-OUTGOING-clause-code c = λ w h. search (rules, tests)

pub returns-then-not-ok-clause-code : goal.returns-then-not-ok-clause-code
unfolding request_code
returns-then-not-ok-clause-code c = λ w h. search (rules, tests)

pub returns-in_err-place-clause-code : goal.returns-in_err-place-clause-code
unfolding request_code
returns-in_err-place-clause-code c =
    λ w h.
    let (at, told) = unplaced _ _ _ _ _ c.in_err-place.ensures.value (c.place_of.ensures.first w) in
    passed_on _ _ _ c.from_residual.ensures.1 (ap number_of told ∙ rw (← at) (search (rules, tests)))

pub returns-then-coordinator_of-p-clause-code : goal.returns-then-coordinator_of-p-clause-code
unfolding request_code
returns-then-coordinator_of-p-clause-code c =
    λ w h.
    let (at, low) = placed _ _ _ _ _ c.in_ok-place.ensures.value (c.place_of.ensures.first w) c.place_of.ensures.bound in
    rw (← at, lt-leb sizes.live _ low) (search (← c.coordinator_of.ensures, rules, tests))

pub returns-clause-code : goal.returns-clause-code
unfolding request_code
returns-clause-code c =
    λ w h.
    let (at, low) = placed _ _ _ _ _ c.in_ok-place.ensures.value (c.place_of.ensures.first w) c.place_of.ensures.bound in
    rw (← at, lt-leb sizes.live _ low) (search (← c.coordinator_of.ensures, rules, tests))

pub returns-clause-place : goal.returns-clause-place
returns-clause-place c =
    λ w h. (placed _ _ _ _ _ c.in_ok-place.ensures.value (c.place_of.ensures.first w) c.place_of.ensures.bound).0
