-- The entries passed are good, and one that is not ends the loop.
use Rattle.laws.specs.Scan.{EachBelow}
use Rattle.rules.specs.Message.{entry_ok}
use Rattle.messages.proofs.entries.entries_ok.Given as goal

abbrev pub invariant-loop-i : goal.invariant-loop-i
invariant-loop-i l = EachBelow (entry_ok l.o l.es) l.i
