-- The key and the value are read at the positions that the layout gives them; the value is two words.
use Rattle.rules.specs.Value.{put_value}
use Rattle.reader.proofs.replay.put_write.Goals as goal

pub returns : goal.returns
unfolding put_value
returns c = rw (← c.value_at-v.ensures) c.set_two.ensures
