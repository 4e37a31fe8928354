-- The entries passed are possible, and one that is not ends the loop.
use Rattle.laws.specs.Scan.{EachBelow}
use Rattle.rules.specs.Message.{entry_possible}
use Rattle.messages.proofs.entries.entries_possible.Given as goal

abbrev pub invariant-loop-i : goal.invariant-loop-i
invariant-loop-i l = EachBelow (entry_possible l.o l.es) l.i
