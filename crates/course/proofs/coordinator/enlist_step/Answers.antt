-- The site joined to the mask, and JOIN sent.
use Rattle.rules.specs.Course.{enlist_step}
use Rattle.rules.specs.CourseLaws.{no_entries, to_course}
use Rattle.course.proofs.coordinator.enlist_step.Goals as goal

pub send_to-requires : goal.send_to-requires
send_to-requires c =
    let sendable = to_course c.args.t c.with_course-u.result c.with_participant-c.result c.args.site _ c.with_course-u.ensures c.requires in
    (sendable, no_entries)

pub returns : goal.returns
unfolding enlist_step
returns c =
    record {
      value = rw (c.send_to.ensures.value, c.with_course-u.ensures, c.with_participant-c.ensures);
      out_after = rw (c.send_to.ensures.out_after, c.with_course-u.ensures, c.with_participant-c.ensures);
    }
