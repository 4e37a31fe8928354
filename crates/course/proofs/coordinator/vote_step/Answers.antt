-- A no aborts; a yes is counted, and the last one decides.
use borrow.Author.Tests.{eq-eqb, ne_eqb}
use mathlib.Core.Path.{◌∙◌, ◌≡◌, ap, sym}
use Rattle.kinds.specs.declared.Course.{Course}
use Rattle.laws.specs.Overlay.{overlay_none}
use Rattle.rules.specs.Course.{quietly, vote_decides, vote_step, with_reply}
use Rattle.rules.specs.CourseLaws.{all_course}
use Rattle.course.proofs.coordinator.vote_step.Goals as goal

pub abort_step-requires : goal.abort_step-requires
unfolding vote_decides
abort_step-requires c = c.requires.can_send_all (rw (ne_eqb c.args.vote 0 c.if-vote-ne0.true))

pub returns-then-vote-ne0 : goal.returns-then-vote-ne0
unfolding vote_step
returns-then-vote-ne0 c =
    let e = ne_eqb c.args.vote 0 c.if-vote-ne0.true in
    record { value = rw e c.abort_step.ensures.value; out_after = rw e c.abort_step.ensures.out_after }

pub decide_step-requires : goal.decide_step-requires
unfolding with_reply vote_decides
decide_step-requires c =
    let m : c.with_heard-c.result.mask ≡ c.args.t.sub.course.mask = ap (λ (d : Course). d.mask) c.with_heard-c.ensures in
    let e = sym c.all_heard.ensures ∙ c.if-all_heard.true in
    let f = rw c.with_heard-c.ensures at e in
    let q = c.requires.can_send_all (rw (eq-eqb c.args.vote 0 c.if-vote-ne0.false, f)) in
    all_course c.args.t c.with_course-u.result c.with_heard-c.result _ c.with_course-u.ensures m q

pub returns-then-all_heard : goal.returns-then-all_heard
unfolding vote_step
returns-then-all_heard c =
    let v = c.if-vote-ne0.false in
    let e = sym c.all_heard.ensures ∙ c.if-all_heard.true in
    let f = rw c.with_heard-c.ensures at e in
    record {
      value = rw (v, f, c.decide_step.ensures.value, c.with_course-u.ensures, c.with_heard-c.ensures);
      out_after = rw (v, f, c.decide_step.ensures.out_after, c.with_course-u.ensures, c.with_heard-c.ensures);
    }

pub returns : goal.returns
unfolding vote_step quietly
returns c =
    let v = c.if-vote-ne0.false in
    let e = sym c.all_heard.ensures ∙ c.if-all_heard.false in
    let f = rw c.with_heard-c.ensures at e in
    record {
      value = rw (v, f, c.quietly.ensures, c.with_course-u.ensures, c.with_heard-c.ensures);
      out_after = rw (v, f) (overlay_none c.args.out.now);
    }
