-- The two lengths.
use borrow.Author.Tests.{eq-eqb, ne_eqb}
use Rattle.laws.specs.Choice.{pick_self}
use Rattle.lent.specs.Lent.{lent_ok}
use Rattle.tables.proofs.lent_ok.Goals as goal

pub returns-then-live-eq-LIVE_WORDS : goal.returns-then-live-eq-LIVE_WORDS
unfolding lent_ok
returns-then-live-eq-LIVE_WORDS c = simp (eq-eqb _ _ c.if-live-eq-LIVE_WORDS.true, pick_self)

pub returns-else-live-eq-LIVE_WORDS : goal.returns-else-live-eq-LIVE_WORDS
unfolding lent_ok
returns-else-live-eq-LIVE_WORDS c = simp (ne_eqb _ _ c.if-live-eq-LIVE_WORDS.false)
