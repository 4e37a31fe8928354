-- Each call's own numbers.
use Rattle.rules.proofs.Refusals.OwnNumbers.{own_numbers}
use Rattle.rules.proofs.own_numbers.Goals as goal

pub returns : goal.returns
returns c = own_numbers
