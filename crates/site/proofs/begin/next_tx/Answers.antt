-- The own number and the next serial.
use Rattle.rules.specs.Begin.{next_tx}
use Rattle.site.proofs.begin.next_tx.Goals as goal

pub returns : goal.returns
unfolding next_tx
returns c = c.tx_of.ensures
