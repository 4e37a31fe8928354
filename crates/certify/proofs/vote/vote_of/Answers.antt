-- Conflicts are sought by install instead of by entry, doubts against the gathered transactions: both find the same.
use Rattle.std.proofs.Common.{sym, ◌∙◌, arith}
use Rattle.rules.specs.Certify.{is_recorded, vote_of}
use Rattle.rules.specs.ValidLaws.{valid_own}
use Rattle.lent.specs.Laws.{lent_lengths}
use Rattle.lent.specs.Lent.{site_of}
use Rattle.certify.specs.Leaves.{none_uncertain, uncertain_by_record}
use Rattle.certify.specs.Asks.{conflicts_in, part_in, slot_in}
use Rattle.certify.proofs.vote.vote_of.Goals as goal

pub overflow_mul-at : goal.overflow_mul-at
overflow_mul-at c = omega (arith, c.requires.low)

pub overflow_add-keys : goal.overflow_add-keys
overflow_add-keys c = omega (arith, c.requires.low)

pub overflow_add-snapshot : goal.overflow_add-snapshot
overflow_add-snapshot c = omega (arith, c.requires.low)

pub offset_bounds-live-at : goal.offset_bounds-live-at
offset_bounds-live-at c = omega (arith, c.requires.low)

pub bounds-live-at : goal.bounds-live-at
bounds-live-at c =
    omega (arith, c.requires.low, (lent_lengths c.args.p c.args.live.now c.args.history.now c.requires.valid).live)

pub any_conflict-requires : goal.any_conflict-requires
any_conflict-requires c =
    let a = c.args in
    let pre = c.requires in
    record {
      entries = pre.entries;
      part = part_in a.p a.live.now a.history.now pre.valid a.place pre.low;
      slots = slot_in a.p a.live.now a.history.now pre.valid;
    }

pub returns-then-any_conflict : goal.returns-then-any_conflict
unfolding vote_of
returns-then-any_conflict c =
    let a = c.args in
    let conflicts = conflicts_in a.p a.live.now a.history.now a.place a.es.now a.n c.requires.low in
    rw (conflicts ∙ sym c.any_conflict.ensures ∙ c.if-any_conflict.true)

pub returns-then-forgotten-eq0 : goal.returns-then-forgotten-eq0
unfolding vote_of
returns-then-forgotten-eq0 c =
    let a = c.args in
    let site = site_of a.p a.live.now a.history.now in
    let conflicts = conflicts_in a.p a.live.now a.history.now a.place a.es.now a.n c.requires.low in
    let none = none_uncertain site a.es.now a.n (sym c.forgotten.ensures ∙ c.if-forgotten-eq0.true) in
    rw (conflicts ∙ sym c.any_conflict.ensures ∙ c.if-any_conflict.false, none)

pub recorded_txs-m-requires : goal.recorded_txs-m-requires
recorded_txs-m-requires c =
    let long = (lent_lengths c.args.p c.args.live.now c.args.history.now c.requires.valid).history in
    record { room = omega arith; long = long }

pub any_unrecorded-requires : goal.any_unrecorded-requires
any_unrecorded-requires c =
    let own = valid_own (site_of c.args.p c.args.live.now c.args.history.now) c.requires.valid in
    record {
      entries = c.requires.entries;
      recorded = omega (arith, c.recorded_txs-m.ensures.upper_bound, c.recorded_txs-m.auto.txs);
      own_low = own.0;
      own_high = own.1;
    }

pub returns-then-any_unrecorded : goal.returns-then-any_unrecorded
unfolding vote_of is_recorded
returns-then-any_unrecorded c =
    let a = c.args in
    let site = site_of a.p a.live.now a.history.now in
    let conflicts = conflicts_in a.p a.live.now a.history.now a.place a.es.now a.n c.requires.low in
    let m = c.recorded_txs-m in
    let some = λ (z : _). c.if-forgotten-eq0.false (c.forgotten.ensures ∙ z) in
    let doubts = uncertain_by_record site a.es.now a.n m.new.txs m.result some (m.ensures.by_index a.live.now) in
    rw (
      conflicts ∙ sym c.any_conflict.ensures ∙ c.if-any_conflict.false,
      doubts ∙ sym c.any_unrecorded.ensures ∙ c.if-any_unrecorded.true,
    )

pub returns : goal.returns
unfolding vote_of is_recorded
returns c =
    let a = c.args in
    let site = site_of a.p a.live.now a.history.now in
    let conflicts = conflicts_in a.p a.live.now a.history.now a.place a.es.now a.n c.requires.low in
    let m = c.recorded_txs-m in
    let some = λ (z : _). c.if-forgotten-eq0.false (c.forgotten.ensures ∙ z) in
    let doubts = uncertain_by_record site a.es.now a.n m.new.txs m.result some (m.ensures.by_index a.live.now) in
    rw (
      conflicts ∙ sym c.any_conflict.ensures ∙ c.if-any_conflict.false,
      doubts ∙ sym c.any_unrecorded.ensures ∙ c.if-any_unrecorded.false,
    )
