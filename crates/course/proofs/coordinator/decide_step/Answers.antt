-- At the last clock the abort, else the commit.
use borrow.Author.Tests.{le-leb, lt-leb}
use Rattle.rules.specs.Course.{decide_step}
use Rattle.kinds.specs.Sizes as sizes
use Rattle.course.proofs.coordinator.decide_step.Goals as goal

pub returns-then-clock-ge-LAST : goal.returns-then-clock-ge-LAST
unfolding decide_step
returns-then-clock-ge-LAST c =
    let e = le-leb sizes.last c.args.t.counters.clock c.if-clock-ge-LAST.true in
    record { value = rw e c.abort_step.ensures.value; out_after = rw e c.abort_step.ensures.out_after }

pub returns : goal.returns
unfolding decide_step
returns c =
    let e = lt-leb sizes.last c.args.t.counters.clock c.if-clock-ge-LAST.false in
    record { value = rw e c.commit_step.ensures.value; out_after = rw e c.commit_step.ensures.out_after }
