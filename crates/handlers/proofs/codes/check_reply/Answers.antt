-- Each return is the first cause, or none.
use Rattle.rules.specs.Deliver.{reply_code}
use Rattle.handlers.proofs.codes.check_reply.Goals as goal

pub returns-then-not-in_turn : goal.returns-then-not-in_turn
unfolding reply_code
returns-then-not-in_turn c = simp c.if-not-in_turn.true

pub returns-then-spent : goal.returns-then-spent
unfolding reply_code
returns-then-spent c = simp (c.if-not-in_turn.false, c.if-spent.true)

pub returns : goal.returns
unfolding reply_code
returns c = simp (c.if-not-in_turn.false, c.if-spent.false)
