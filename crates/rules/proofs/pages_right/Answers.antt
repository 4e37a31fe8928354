-- The claim is the theorem.
use Rattle.rules.proofs.Pages.PagesRight.{pages_right}
use Rattle.rules.proofs.pages_right.Goals as goal

pub returns : goal.returns
returns c = pages_right
