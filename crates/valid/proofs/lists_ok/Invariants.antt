-- The lists passed are possible, and one that is not ends the loop.
use lib.ListN.{get_or}
use Rattle.laws.specs.Scan.{EachBelow}
use Rattle.kinds.specs.State.{past_sub}
use Rattle.rules.specs.Valid.{list_at, gathered_ok}
use Rattle.lent.specs.Layout.{live_of}
use Rattle.valid.proofs.lists_ok.Given as goal

abbrev pub invariant-loop-i : goal.invariant-loop-i
invariant-loop-i l = EachBelow (λ j. gathered_ok l.o (get_or (live_of l.seats l.w) j past_sub) (list_at l.lists j)) l.i
