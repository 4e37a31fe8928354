-- The claim is the theorem.
use Rattle.rules.proofs.Reading.SearchesRight.{searches_right}
use Rattle.rules.proofs.searches_right.Goals as goal

pub returns : goal.returns
returns c = searches_right
