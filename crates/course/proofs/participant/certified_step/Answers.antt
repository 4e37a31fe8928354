-- Yes enters the queue; a no keeps the part.
use borrow.Author.Tests.{ne_eqb}
use Rattle.rules.specs.Course.{certified_step}
use Rattle.rules.specs.CourseLaws.{no_entries, to_course}
use Rattle.course.proofs.participant.certified_step.Goals as goal

pub send_to-requires : goal.send_to-requires
send_to-requires c =
    let sendable = to_course c.args.t c.with_course-u.result c.with_queue_mark-c.result c.args.to _ c.with_course-u.ensures c.requires in
    (sendable, no_entries)

pub returns-then-vote-eq0 : goal.returns-then-vote-eq0
unfolding certified_step
returns-then-vote-eq0 c =
    let v = c.if-vote-eq0.true in
    record {
      value = rw (v, c.send_to.ensures.value, c.with_course-u.ensures, c.with_queue_mark-c.ensures);
      out_after = rw (v, c.send_to.ensures.out_after, c.with_course-u.ensures, c.with_queue_mark-c.ensures);
    }

pub send_to-requires-2 : goal.send_to-requires-2
send_to-requires-2 c =
    let sendable = to_course c.args.t c.with_course-u-2.result c.with_stage-c.result c.args.to _ c.with_course-u-2.ensures c.requires in
    (sendable, no_entries)

pub returns : goal.returns
unfolding certified_step
returns c =
    let v = ne_eqb c.args.vote 0 c.if-vote-eq0.false in
    record {
      value = rw (v, c.send_to-2.ensures.value, c.with_course-u-2.ensures, c.with_stage-c.ensures);
      out_after = rw (v, c.send_to-2.ensures.out_after, c.with_course-u-2.ensures, c.with_stage-c.ensures);
    }
