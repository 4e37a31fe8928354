-- The entries passed are good, and one that is not ends the loop.
use lib.Dec.{ltb}
use lib.ListN.{get_or}
use Rattle.laws.specs.Scan.{EachBelow}
use Rattle.kinds.specs.State.{past_entry}
use Rattle.rules.specs.History.{remembered}
use Rattle.rules.specs.Valid.{slot_ok}
use Rattle.lent.specs.Layout.{history_of}
use Rattle.valid.proofs.history_ok.Given as goal

abbrev pub invariant-loop-i : goal.invariant-loop-i
invariant-loop-i l =
    EachBelow (λ j. slot_ok l.s.house l.s.own (ltb j (remembered l.installs)) (get_or (history_of l.h) j past_entry)) l.i
