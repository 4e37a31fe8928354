-- The sites passed are whole, and one that is not ends the loop.
use Rattle.laws.specs.Scan.{EachBelow}
use Rattle.rules.specs.Merger.{is_whole_at}
use Rattle.merger.proofs.heads.Heads.is_whole.Given as goal

abbrev pub invariant-loop-i : goal.invariant-loop-i
invariant-loop-i l = EachBelow (is_whole_at l.self.merger l.self.heads l.r) l.i
