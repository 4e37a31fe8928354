-- The four words are read where they stand.
use Rattle.rules.specs.Reader.{standing_words}
use Rattle.rules.specs.Value.{value_at}
use Rattle.reader.proofs.standing.Goals as goal

pub returns : goal.returns
unfolding standing_words value_at
returns c = rw (c.word_at-start.ensures, c.word_at-length.ensures, c.word_at-number.ensures, c.word_at-coordinator.ensures)
