-- CONC, or the vote of 19.
use Rattle.rules.specs.Course.{prepared_step}
use Rattle.rules.specs.CourseLaws.{no_entries, to_course}
use Rattle.course.proofs.participant.prepared_step.Goals as goal

pub send_to-requires : goal.send_to-requires
send_to-requires c =
    let sendable = to_course c.args.t c.with_course-u.result c.with_stage-c.result c.args.to _ c.with_course-u.ensures c.requires.0 in
    (sendable, no_entries)

pub returns-then-lost : goal.returns-then-lost
unfolding prepared_step
returns-then-lost c =
    let v = c.if-lost.true in
    record {
      value = rw (v, c.send_to.ensures.value, c.with_course-u.ensures, c.with_stage-c.ensures);
      out_after = rw (v, c.send_to.ensures.out_after, c.with_course-u.ensures, c.with_stage-c.ensures);
    }

pub send_to-requires-2 : goal.send_to-requires-2
send_to-requires-2 c =
    let sendable = to_course c.args.t c.with_course-u-2.result c.with_stage-c-2.result c.args.to _ c.with_course-u-2.ensures c.requires.0 in
    (sendable, c.requires.1)

pub returns : goal.returns
unfolding prepared_step
returns c =
    let v = c.if-lost.false in
    record {
      value = rw (v, c.send_to-2.ensures.value, c.with_course-u-2.ensures, c.with_stage-c-2.ensures);
      out_after = rw (v, c.send_to-2.ensures.out_after, c.with_course-u-2.ensures, c.with_stage-c-2.ensures);
    }
