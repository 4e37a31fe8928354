-- A space, then the digits.
use Rattle.std.proofs.Common.{rules}
use Rattle.pages.proofs.Behind.{laid_number}
use Rattle.pages.proofs.text.number.Goals as goal

pub returns-clause-laid : goal.returns-clause-laid
returns-clause-laid c = search (laid_number, rules)
