-- The third script, computed.
use Rattle.played.proofs.Plays.{third_lawful, third_answers, third_mail_lem, third_proofing, third_whole}
use Rattle.played.proofs.third_script_plays.Goals as goal

pub returns : goal.returns
returns c = (third_lawful, third_answers, third_mail_lem, third_proofing, third_whole)
