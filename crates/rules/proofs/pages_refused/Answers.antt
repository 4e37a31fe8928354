-- The claim is the theorem.
use Rattle.rules.proofs.Pages.PagesRefused.{pages_refused}
use Rattle.rules.proofs.pages_refused.Goals as goal

pub returns : goal.returns
returns c = pages_refused
