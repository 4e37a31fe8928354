-- Held or remembered: some seat, or some remembered install, is of the transaction.
use mathlib.Core.Path.{◌∙◌}
use Rattle.laws.specs.Scan.{any_below}
use Rattle.kinds.specs.Sizes as sizes
use Rattle.rules.specs.History.{recall_place, remembered}
use Rattle.lent.specs.Layout.{history_of}
use Rattle.lent.specs.Seats.{seat_at, is_seat_of}
use Rattle.certify.specs.Leaves.{any_recalled, first_any, or_two}
use Rattle.certify.specs.Asks.{seats_hold}
use Rattle.certify.proofs.recorded.recorded_txs.Goals as goal

pub returns : goal.returns
unfolding recall_place
returns c =
    let a = c.args in
    let e = c.remembered_txs.ensures in
    record {
      upper_bound = e.upper_bound;
      by_index = λ w tx.
          let past = any_recalled (history_of a.history.now) a.installs tx (remembered a.installs) in
          e.by_index tx
          ∙ rw (c.held_txs-n.ensures.by_index tx, seats_hold a.seats w tx, first_any)
          (or_two (any_below (λ i. is_seat_of (seat_at a.seats i) tx) sizes.live) past);
    }
