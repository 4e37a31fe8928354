-- The fourth script, computed.
use Rattle.played.proofs.Plays.{uneven_good, fourth_lawful, fourth_answers}
use Rattle.played.proofs.fourth_script_plays.Goals as goal

pub returns : goal.returns
returns c = (uneven_good, fourth_lawful, fourth_answers)
