-- Refused by the code, else what the order read from the queues emits.
use Rattle.std.proofs.Common.{refl, sym}
use Rattle.laws.specs.Overlay.{overlay_none}
use Rattle.merger.specs.Order.{least_in, order_of}
use Rattle.rules.specs.Merger.{emit_of, merger_out_of}
use Rattle.rules.specs.MergerClear.{emit_clear}
use Rattle.merger.proofs.Causes.{refused_by, passed_by}
use Rattle.merger.proofs.emit.Goals as goal

pub returns-in-Err : goal.returns-in-Err
unfolding emit_of merger_out_of
returns-in-Err c =
    let code = c.in-Err.ensures in
    rw (refused_by c.in-Err.cause _ code)
    (record { value = rw code at c.refused.ensures; queues_after = refl; out_after = overlay_none _ })

pub read-requires : goal.read-requires
read-requires c =
    let k = (emit_clear _ _ _ (sym c.in_default.ensures)).1 in
    record { sites_le_sites = k.few; queues_len = k.size }

pub emit_due-requires : goal.emit_due-requires
unfolding order_of
emit_due-requires c =
    let k = emit_clear _ _ _ (sym c.in_default.ensures) in
    (rw c.read.ensures k.1, k.0)

pub returns : goal.returns
unfolding emit_of order_of least_in
returns c = rw (passed_by _ c.in_default.ensures) (rw c.read.ensures at c.emit_due.ensures)
