-- No install passed is in conflict with an entry, and one that is ends the loop.
use Rattle.laws.specs.Scan.{NoneBelow}
use Rattle.rules.specs.History.{recall}
use Rattle.lent.specs.Layout.{keys_from, history_of}
use Rattle.certify.specs.Asks.{any_conflicts}
use Rattle.certify.proofs.vote.any_conflict.Given as goal

abbrev pub invariant-loop-k : goal.invariant-loop-k
invariant-loop-k l = NoneBelow (λ j. any_conflicts (keys_from l.live l.own) l.es l.n (recall (history_of l.history) l.installs j)) l.k
