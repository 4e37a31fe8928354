-- After i places the words are those of the prepared among them, each behind the ones before.
use Rattle.std.proofs.Common.{◌≡◌, ◌≤◌, length}
use Rattle.rules.specs.Certify.{prepared_list}
use Rattle.lent.specs.Layout.{live_of}
use Rattle.certify.specs.Asks.{Entered}
use Rattle.certify.proofs.list.prepared_list.Given as goal

abbrev pub invariant-loop-i : goal.invariant-loop-i
invariant-loop-i l =
    (l.n ≤ l.i)
    × (length l.out ≡ length l.initial.out)
    × Entered l.initial.out (prepared_list (live_of l.seats l.live) l.place l.i) l.n l.out
