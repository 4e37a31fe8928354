-- After i installs the transactions gathered are those at the start and theirs.
use Rattle.std.proofs.Common.{◌≡◌, ℕ, ◌+◌, true, length}
use Rattle.laws.specs.Choice.{pick}
use Rattle.lent.specs.Layout.{history_of}
use Rattle.certify.specs.Leaves.{among, any_recalled}
use Rattle.certify.proofs.recorded.remembered_txs.Given as goal

abbrev pub invariant-loop-i : goal.invariant-loop-i
invariant-loop-i l =
    (length l.txs ≡ length l.initial.txs)
    × ((tx : ℕ) → among l.txs (l.n + l.i) tx
    ≡ pick (among l.initial.txs l.n tx) true (any_recalled (history_of l.history) l.installs tx l.i))
