-- After i installs the words are theirs, each behind the ones before.
use Rattle.std.proofs.Common.{◌≡◌, length}
use Rattle.laws.specs.Overlay.{overlay}
use Rattle.rules.specs.Certify.{installed_list}
use Rattle.lent.specs.Layout.{history_of}
use Rattle.certify.proofs.list.installed_list.Given as goal

abbrev pub invariant-loop-i : goal.invariant-loop-i
invariant-loop-i l =
    (length l.out ≡ length l.initial.out)
    × (l.out ≡ overlay l.initial.out (installed_list (history_of l.history) l.installs l.own l.seen l.i))
