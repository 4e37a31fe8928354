-- The first script, computed.
use mathlib.Core.Path.{refl}
use Rattle.played.specs.First.{first_script, first_calls}
use Rattle.played.proofs.Open.{Open}
use Rattle.played.proofs.Plays.{first_lawful, first_answers}
use Rattle.played.proofs.first_script_plays.Goals as goal

pub returns : goal.returns
unfolding Open first_calls first_script
returns c = (first_lawful, first_answers, refl)
