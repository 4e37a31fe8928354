-- The key and the value are read at the positions that the layout gives them.
use Rattle.copy.proofs.writes.put_write.Goals as goal

pub returns : goal.returns
returns c = rw (← c.value_at-v.ensures) c.put_value.ensures
