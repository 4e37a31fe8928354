-- The sites passed have a part or reached the number, and one that did neither ends the loop.
use Rattle.laws.specs.Scan.{EachBelow}
use Rattle.rules.specs.Merger.{is_due_at}
use Rattle.merger.proofs.heads.Heads.all_due.Given as goal

abbrev pub invariant-loop-i : goal.invariant-loop-i
invariant-loop-i l = EachBelow (is_due_at l.self.merger l.number) l.i
