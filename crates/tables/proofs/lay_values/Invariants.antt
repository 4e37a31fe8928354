-- After i turns the words of the first i values are laid.
use Prim.Native.Nat.{◌*◌}
use lib.ListN.{take}
use Rattle.kinds.specs.Sizes as sizes
use Rattle.rules.specs.Value.{value_words}
use Rattle.lent.specs.Rows.{flat}
use Rattle.tables.proofs.Laid.{Laid}
use Rattle.tables.proofs.lay_values.Given as goal

abbrev pub invariant-loop-i : goal.invariant-loop-i
invariant-loop-i l = Laid l.initial.out l.at (sizes.value * l.i) (flat value_words (take l.i l.a)) l.out
