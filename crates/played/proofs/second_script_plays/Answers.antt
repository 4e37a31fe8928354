-- The second script, computed.
use mathlib.Core.Path.{refl}
use Rattle.played.specs.Second.{second_script, second_calls}
use Rattle.played.proofs.Open.{Open}
use Rattle.played.proofs.Plays.{second_lawful, second_answers, second_mail_lem, second_book_lem}
use Rattle.played.proofs.second_script_plays.Goals as goal

pub returns : goal.returns
unfolding Open second_calls second_script
returns c = (second_lawful, second_answers, second_mail_lem, second_book_lem, refl, refl, refl, refl, refl)
