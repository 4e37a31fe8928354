-- The part of a place is read from its seat and the words of the place.
use Rattle.lent.specs.Layout.{sub_from}
use Rattle.lent.specs.Laws.{live_at}
use Rattle.tables.proofs.part_at.Goals as goal

pub returns : goal.returns
unfolding sub_from
returns c = rw (live_at c.args.seats c.args.w.now c.args.place c.requires.1, c.keys_at.ensures)
