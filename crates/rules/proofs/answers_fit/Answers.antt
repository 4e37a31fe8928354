-- The claim is the theorem.
use Rattle.rules.proofs.Lengths.AnswersFit.{answers_fit}
use Rattle.rules.proofs.answers_fit.Goals as goal

pub returns : goal.returns
returns c = answers_fit
