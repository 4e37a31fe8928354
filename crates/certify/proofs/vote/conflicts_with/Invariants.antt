-- No entry passed is for the install and in conflict: it is for another, or neither marked nor dependent.
use Prim.Native.Nat.{◌*◌}
use Rattle.laws.specs.Scan.{NoneBelow}
use Rattle.kinds.specs.Sizes as sizes
use Rattle.rules.specs.Certify.{conflicts_at}
use Rattle.lent.specs.Layout.{keys_from, entry_from}
use Rattle.certify.proofs.vote.conflicts_with.Given as goal

abbrev pub invariant-loop-i : goal.invariant-loop-i
invariant-loop-i l = NoneBelow (λ j. conflicts_at (keys_from l.live l.own) l.es j (entry_from l.history (sizes.slot * l.slot))) l.i
