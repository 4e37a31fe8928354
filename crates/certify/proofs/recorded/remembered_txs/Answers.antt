-- An install adds its own transaction behind those gathered.
use Rattle.std.proofs.Common.{◌≡◌, ◌+◌, ◌<◌, Bool, eqb, length, length-set, refl, sym, ◌∙◌, arith}
use Rattle.laws.specs.Choice.{pick_self}
use Rattle.rules.specs.History.{recall}
use Rattle.rules.specs.HistoryLaws.{remembered_few}
use Rattle.lent.specs.Layout.{history_of}
use Rattle.certify.specs.Leaves.{among, among_put, any_more, any_none, any_recalled, or_swap}
use Rattle.certify.specs.Asks.{recalled_tx}
use Rattle.certify.proofs.recorded.remembered_txs.Goals as goal

pub loop-i-init : goal.loop-i-init
loop-i-init c =
    let q : c.args.n + 0 ≡ c.args.n = omega arith in
    (refl, λ tx. rw (q, any_none) (sym (pick_self _)))

pub recall_slot-slot-requires : goal.recall_slot-slot-requires
recall_slot-slot-requires c = omega (arith, c.remembered-m.ensures, remembered_few c.args.installs)

pub bounds-history-slot : goal.bounds-history-slot
bounds-history-slot c = omega (arith, c.recall_slot-slot.ensures, c.requires.1.long)

pub overflow_add-txs-in-loop-i : goal.overflow_add-txs-in-loop-i
overflow_add-txs-in-loop-i c = omega (arith, c.remembered-m.ensures, remembered_few c.args.installs, c.requires.0)

pub offset_bounds-txs-n : goal.offset_bounds-txs-n
offset_bounds-txs-n c = omega (arith, c.remembered-m.ensures, remembered_few c.args.installs, c.requires.0)

pub bounds-txs-n : goal.bounds-txs-n
bounds-txs-n c = omega (arith, c.remembered-m.ensures, remembered_few c.args.installs, c.requires.0, c.requires.1.room)

pub loop-i-preserved : goal.loop-i-preserved
loop-i-preserved c =
    let a = c.args in
    let l = c.loop-i in
    let past = history_of a.history.now in
    let room : a.n + l.i < length l.txs =
    omega (arith, c.remembered-m.ensures, remembered_few a.installs, c.requires.0, c.requires.1.room) in
    let word = recalled_tx a.history.now a.installs l.i _ c.recall_slot-slot.ensures in
    let p : a.n + (l.i + 1) ≡ a.n + l.i + 1 = omega arith in (
      simp length-set l.invariant.0,
      λ tx.
          let is : Bool = eqb (recall past a.installs l.i).tx tx in
          let was : Bool = any_recalled past a.installs tx l.i in
          rw (p, any_more)
          (among_put l.txs (a.n + l.i) _ tx room ∙ rw (l.invariant.1 tx, word) (or_swap is (among a.txs.now a.n tx) was)),
    )

pub overflow_add-result : goal.overflow_add-result
overflow_add-result c = omega (arith, c.remembered-m.ensures, remembered_few c.args.installs, c.requires.0)

pub returns : goal.returns
returns c =
    let l = c.loop-i in
    let q : l.i ≡ c.remembered-m.result = omega arith in
    record {
      upper_bound = omega (arith, c.remembered-m.ensures, remembered_few c.args.installs, c.requires.0);
      by_index = λ tx. rw (← c.remembered-m.ensures, ← q) (l.invariant.1 tx);
    }
