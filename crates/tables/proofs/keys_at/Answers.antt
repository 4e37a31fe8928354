-- Each field is read from its word or words.
use Rattle.lent.specs.Layout.{keys_from}
use Rattle.tables.proofs.keys_at.Goals as goal

pub returns : goal.returns
unfolding keys_from
returns c = rw (c.sixteen.ensures, c.sixteen-2.ensures, c.sixteen_values.ensures)
