-- The entry has the part's transaction, participants, number and keys.
use mathlib.Core.Path.{refl}
use Rattle.rules.specs.Install.{entry_of}
use Rattle.installs.proofs.part.entry_of.Goals as goal

pub returns : goal.returns
unfolding entry_of
returns c = refl
