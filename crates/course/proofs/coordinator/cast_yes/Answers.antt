-- Alone it decides; else CERT goes out.
use mathlib.Core.Path.{◌∙◌, ◌≡◌, ap, sym}
use Rattle.kinds.specs.declared.Course.{Course}
use Rattle.rules.specs.Course.{cast_step, with_queue_mark}
use Rattle.rules.specs.CourseLaws.{all_course}
use Rattle.course.proofs.coordinator.cast_yes.Goals as goal

pub decide_step-requires : goal.decide_step-requires
unfolding with_queue_mark
decide_step-requires c =
    let m : c.with_queue_mark-c.result.mask ≡ c.args.t.sub.course.mask = ap (λ (d : Course). d.mask) c.with_queue_mark-c.ensures in
    all_course c.args.t c.with_course-u.result c.with_queue_mark-c.result _ c.with_course-u.ensures m c.requires.0

pub returns-then-all_heard : goal.returns-then-all_heard
unfolding cast_step
returns-then-all_heard c =
    let e = sym c.all_heard.ensures ∙ c.if-all_heard.true in
    record {
      value = rw (e, c.decide_step.ensures.value, c.with_course-u.ensures, c.with_queue_mark-c.ensures);
      out_after = rw (e, c.decide_step.ensures.out_after, c.with_course-u.ensures, c.with_queue_mark-c.ensures);
    }

pub send_all-requires : goal.send_all-requires
unfolding with_queue_mark
send_all-requires c =
    let m : c.with_queue_mark-c.result.mask ≡ c.args.t.sub.course.mask = ap (λ (d : Course). d.mask) c.with_queue_mark-c.ensures in
    (all_course c.args.t c.with_course-u.result c.with_queue_mark-c.result _ c.with_course-u.ensures m c.requires.0, c.requires.1)

pub returns : goal.returns
unfolding cast_step
returns c =
    let e = sym c.all_heard.ensures ∙ c.if-all_heard.false in
    record {
      value = rw (e, c.send_all.ensures.value, c.with_course-u.ensures, c.with_queue_mark-c.ensures);
      out_after = rw (e, c.send_all.ensures.out_after, c.with_course-u.ensures, c.with_queue_mark-c.ensures);
    }
