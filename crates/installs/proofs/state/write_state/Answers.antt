-- A record with no writes.
use Rattle.rules.specs.Install.{state_words}
use Rattle.installs.proofs.state.write_state.Goals as goal

pub returns : goal.returns
unfolding state_words
returns c = c.write_record.ensures
