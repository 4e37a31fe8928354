-- None of the places passed holds the key, and one that does ends the loop.
use Rattle.laws.specs.Scan.{NoneBelow}
use Rattle.rules.specs.Live.{part_at, other_holds}
use Rattle.lent.specs.Layout.{live_of}
use Rattle.live.proofs.key_held.Given as goal

abbrev pub invariant-loop-i : goal.invariant-loop-i
invariant-loop-i l = NoneBelow (λ j. other_holds l.place l.k j (part_at (live_of l.seats l.live) j)) l.i
