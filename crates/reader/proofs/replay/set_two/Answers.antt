-- What the bytes hold after the first store is what the second one changes.
use Rattle.reader.proofs.replay.set_two.Goals as goal

pub returns : goal.returns
returns c = rw c.set_word.ensures.words at c.set_word-2.ensures
