-- No install from the snapshot on that was passed wrote the key.
use Rattle.std.proofs.Common.{false, leb}
use Rattle.laws.specs.Choice.{pick}
use Rattle.laws.specs.Scan.{NoneBelow}
use Rattle.rules.specs.History.{recall}
use Rattle.rules.specs.Keys.{wrote_key}
use Rattle.lent.specs.Layout.{history_of}
use Rattle.history.proofs.is_newer.Given as goal

abbrev pub invariant-loop-i : goal.invariant-loop-i
invariant-loop-i l =
    NoneBelow (λ j. pick (leb l.initial.i j) (wrote_key (recall (history_of l.h) l.installs j).keys l.k) false) l.i
