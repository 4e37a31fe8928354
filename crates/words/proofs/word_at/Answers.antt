-- The word is read from the eight bytes where it stands.
use mathlib.Core.Path.{◌∙◌}
use Rattle.laws.specs.ByteLaws.{word_at}
use Rattle.laws.specs.Overlay.{rest_is}
use Rattle.words.proofs.word_at.Goals as goal

pub returns : goal.returns
returns c = c.get_word.ensures ∙ rw rest_is (word_at c.args.i c.args.b.now c.requires)
