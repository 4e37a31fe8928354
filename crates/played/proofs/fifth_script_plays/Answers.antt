-- The fifth script, computed.
use Rattle.played.proofs.Plays.{fifth_lawful, fifth_answers, fifth_log_lem}
use Rattle.played.proofs.fifth_script_plays.Goals as goal

pub returns : goal.returns
returns c = (fifth_lawful, fifth_answers, fifth_log_lem)
