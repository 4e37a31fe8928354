-- The values passed fit.
use Rattle.std.proofs.Common.{get_or}
use Rattle.laws.specs.Scan.{EachBelow}
use Rattle.kinds.specs.Sizes as sizes
use Rattle.kinds.specs.State.{fresh}
use Rattle.rules.specs.Value.{fits}
use Rattle.lent.specs.Layout.{values_from}
use Rattle.keys.proofs.words.values_fit_in.Given as goal

abbrev pub invariant-loop-i : goal.invariant-loop-i
invariant-loop-i l = EachBelow (λ j. fits (get_or (values_from l.w l.at sizes.writes) j fresh)) l.i
