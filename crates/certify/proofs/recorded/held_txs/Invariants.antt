-- After i seats the transactions gathered are those that have one among them.
use Rattle.std.proofs.Common.{◌≡◌, ℕ, ◌≤◌, length}
use Rattle.laws.specs.Scan.{any_below}
use Rattle.lent.specs.Seats.{seat_at, is_seat_of}
use Rattle.certify.specs.Leaves.{among}
use Rattle.certify.proofs.recorded.held_txs.Given as goal

abbrev pub invariant-loop-a : goal.invariant-loop-a
invariant-loop-a l =
    (l.n ≤ l.a-index)
    × (length l.txs ≡ length l.initial.txs)
    × ((tx : ℕ) → among l.txs l.n tx ≡ any_below (λ j. is_seat_of (seat_at l.a-items j) tx) l.a-index)
