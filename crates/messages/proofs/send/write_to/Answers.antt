-- The message to a recipient is that of the rule; to another, no words.
use mathlib.Core.Path.{sym, ap, ◌∙◌}
use native.Mathlib.Omega.{arith}
use borrow.Author.Rules.{rules}
use lib.ListN.{length}
use Rattle.laws.specs.Overlay.{overlay_none}
use Rattle.rules.specs.MessageLaws.{length_message}
use Rattle.rules.specs.Send.{head_to}
use Rattle.rules.specs.SendLaws.{words_to_some, words_to_none}
use Rattle.messages.proofs.send.write_to.Goals as goal

pub returns-then-not-is_recipient : goal.returns-then-not-is_recipient
returns-then-not-is_recipient c =
    let a = c.args in
    let e = words_to_none a.h a.sent a.mask a.es.now a.i (sym c.is_recipient.ensures ∙ c.if-not-is_recipient.true) in
    (rw e, rw e (overlay_none a.out.now))

pub overflow_add-g-2 : goal.overflow_add-g-2
overflow_add-g-2 c =
    let recipient = sym c.is_recipient.ensures ∙ c.if-not-is_recipient.false in
    omega (arith, c.requires.counts_low c.args.i c.requires.i_lt_sites.0 recipient)

pub write_message-requires : goal.write_message-requires
unfolding head_to
write_message-requires c =
    let recipient = sym c.is_recipient.ensures ∙ c.if-not-is_recipient.false in
    let a = c.args in
    let e = words_to_some a.h a.sent a.mask a.es.now a.i recipient in
    (search rules, (search rules, omega (arith, ap length e, length_message (head_to a.h a.sent a.i) a.es.now (omega arith))))

pub returns : goal.returns
unfolding head_to
returns c =
    let recipient = sym c.is_recipient.ensures ∙ c.if-not-is_recipient.false in
    let a = c.args in
    let e = words_to_some a.h a.sent a.mask a.es.now a.i recipient in
    rw e c.write_message.ensures
