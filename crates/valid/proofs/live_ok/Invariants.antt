-- The parts passed are good, and one that is not ends the loop.
use Rattle.laws.specs.Scan.{EachBelow}
use Rattle.rules.specs.Live.{part_at}
use Rattle.rules.specs.Valid.{sub_ok}
use Rattle.lent.specs.Layout.{live_of}
use Rattle.valid.proofs.live_ok.Given as goal

abbrev pub invariant-loop-i : goal.invariant-loop-i
invariant-loop-i l = EachBelow (λ j. sub_ok l.s.house l.s.own (part_at (live_of l.seats l.w) j)) l.i
