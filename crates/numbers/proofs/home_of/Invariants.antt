-- The sites passed end at or below the key, and the first that does not ends the loop.
use Prim.Native.Nat.{◌-◌}
use Rattle.laws.specs.Scan.{NoneBelow}
use Rattle.rules.specs.House.{ends_above}
use Rattle.numbers.proofs.home_of.Given as goal

abbrev pub invariant-loop-i : goal.invariant-loop-i
invariant-loop-i l = NoneBelow (ends_above l.h l.key) (l.i - 1)
