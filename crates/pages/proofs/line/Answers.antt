-- The event, its outcome and the end of the line, one behind the other.
use Rattle.std.proofs.Common.{rules}
use Rattle.pages.specs.Line.{line_of}
use Rattle.pages.proofs.Behind.{laid_behind}
use Rattle.pages.proofs.line.Goals as goal

pub returns : goal.returns
unfolding line_of
returns c = search (laid_behind, rules)
