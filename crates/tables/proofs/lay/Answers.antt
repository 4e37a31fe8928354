-- The words are laid over what lies from `at` on.
use borrow.Author.Rules.{rules}
use Rattle.laws.specs.Overlay.{put_part}
use Rattle.tables.proofs.lay.Goals as goal

pub returns : goal.returns
returns c = (search rules, put_part c.args.out.now _ c.args.a c.args.at c.copy_words.ensures)
