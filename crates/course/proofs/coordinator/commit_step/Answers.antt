-- Decided, and COMMIT sent to the others.
use mathlib.Core.Path.{◌≡◌, ap}
use Rattle.kinds.specs.declared.Course.{Course}
use Rattle.rules.specs.Course.{commit_step, with_decision}
use Rattle.rules.specs.CourseLaws.{all_course, no_entries}
use Rattle.course.proofs.coordinator.commit_step.Goals as goal

pub send_all-requires : goal.send_all-requires
unfolding with_decision
send_all-requires c =
    let m : c.with_decision-c.result.mask ≡ c.args.t.sub.course.mask = ap (λ (d : Course). d.mask) c.with_decision-c.ensures in
    let q = all_course c.args.t c.with_course-u.result c.with_decision-c.result _ c.with_course-u.ensures m c.requires in
    (record { long = q.long; first = q.first; last = q.last; low = q.low }, no_entries)

pub returns : goal.returns
unfolding commit_step
returns c =
    record {
      value = rw (c.send_all.ensures.value, c.with_course-u.ensures, c.with_decision-c.ensures);
      out_after = rw (c.send_all.ensures.out_after, c.with_course-u.ensures, c.with_decision-c.ensures);
    }
