-- The library's word of eight bytes is that of the rules.
use Rattle.std.proofs.Common.{arith}
use Rattle.laws.specs.Bytes.{word_from}
use Rattle.words.proofs.eight.get_word.Goals as goal

pub returns : goal.returns
unfolding word_from
returns c = omega (arith, c.from_le_bytes.ensures)
