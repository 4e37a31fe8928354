-- No entry passed names this site without a record, and one that does ends the loop.
use Rattle.laws.specs.Scan.{NoneBelow}
use Rattle.rules.specs.Message.{entry_mask, entry_tx}
use Rattle.certify.specs.Leaves.{unrecorded}
use Rattle.certify.proofs.vote.any_unrecorded.Given as goal

abbrev pub invariant-loop-i : goal.invariant-loop-i
invariant-loop-i l = NoneBelow (λ j. unrecorded l.txs l.m l.own (entry_tx l.es j) (entry_mask l.es j)) l.i
