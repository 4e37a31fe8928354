-- The entry of a slot is read from the words of the slot.
use Rattle.lent.specs.Layout.{entry_from}
use Rattle.lent.specs.Laws.{history_at}
use Rattle.tables.proofs.entry_at.Goals as goal

pub returns : goal.returns
unfolding entry_from
returns c = rw (history_at c.args.h.now c.args.slot c.requires.1, c.keys_at.ensures)
