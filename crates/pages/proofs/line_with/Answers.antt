-- The event, its outcome, the numbers and the end of the line, one behind the other.
use Rattle.std.proofs.Common.{rules}
use Rattle.pages.specs.Line.{line_with}
use Rattle.pages.proofs.Behind.{laid_behind}
use Rattle.pages.proofs.line_with.Goals as goal

pub returns : goal.returns
unfolding line_with
returns c = search (laid_behind, rules)
