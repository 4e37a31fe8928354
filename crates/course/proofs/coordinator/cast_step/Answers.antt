-- Its vote: yes, or the abort.
use borrow.Author.Tests.{ne_eqb}
use Rattle.rules.specs.Course.{cast_step}
use Rattle.course.proofs.coordinator.cast_step.Goals as goal

pub returns-then-vote-eq0 : goal.returns-then-vote-eq0
unfolding cast_step
returns-then-vote-eq0 c =
    let e = c.if-vote-eq0.true in
    record { value = rw e c.cast_yes.ensures.value; out_after = rw e c.cast_yes.ensures.out_after }

pub returns : goal.returns
unfolding cast_step
returns c =
    let e = ne_eqb c.args.vote 0 c.if-vote-eq0.false in
    record { value = rw e c.abort_step.ensures.value; out_after = rw e c.abort_step.ensures.out_after }
