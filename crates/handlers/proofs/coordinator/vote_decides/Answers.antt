-- A no decides, and the last yes.
use borrow.Author.Tests.{eq-eqb, ne_eqb}
use Rattle.laws.specs.Choice.{pick_self}
use Rattle.rules.specs.Course.{vote_decides}
use Rattle.handlers.proofs.coordinator.vote_decides.Goals as goal

pub returns-then-vote-ne0 : goal.returns-then-vote-ne0
unfolding vote_decides
returns-then-vote-ne0 c = simp (ne_eqb c.args.vote 0 c.if-vote-ne0.true)

pub returns-else-vote-ne0 : goal.returns-else-vote-ne0
unfolding vote_decides
returns-else-vote-ne0 c = simp (eq-eqb c.args.vote 0 c.if-vote-ne0.false, ← c.with_heard-next.ensures, ← c.all_heard.ensures, pick_self)
