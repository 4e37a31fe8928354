use mathlib.Core.Path.{◌≡◌, sym, ◌∙◌}
use native.Mathlib.Omega.{arith}
use lib.ListN.{get_or}
use Rattle.rules.specs.SendLaws.{steps_none, steps_more, steps_behind}
use Rattle.messages.proofs.send.step_recipients.Goals as goal
use Rattle.messages.proofs.send.step_recipients.Goals.{then-is_recipient, else-is_recipient}

pub loop-i-init : goal.loop-i-init
loop-i-init c = sym (steps_none c.args.sent c.args.mask c.args.sender)

pub overflow_add-counts : goal.overflow_add-counts
overflow_add-counts c =
    let a = c.args in
    let l = c.loop-i in
    let same : get_or l.counts l.i 0 ≡ get_or a.sent l.i 0 = rw l.invariant (steps_behind a.sent a.mask a.sender l.i l.i (omega arith)) in
    let low = c.requires l.i c.loop-i-test.true (sym c.is_recipient.ensures ∙ c.if-is_recipient.true) in
    omega arith

pub loop-i-preserved : goal.loop-i-preserved
loop-i-preserved c =
    let a = c.args in
    let l = c.loop-i in
    rw steps_more (elim c.if-is_recipient.branch [
      | then-is_recipient w ↦ rw (← c.is_recipient.ensures, w.if-is_recipient.true, ← l.invariant) w.counts-is
      | else-is_recipient w ↦ rw (← c.is_recipient.ensures, w.if-is_recipient.false, ← l.invariant) w.counts-is
    ])
