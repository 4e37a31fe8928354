-- Refused as the order says, else the due record is written and its parts are popped.
use Rattle.std.proofs.Common.{refl, sym}
use Rattle.laws.specs.Overlay.{overlay_none}
use Rattle.merger.specs.Order.{least_in, refused_due, taken_due}
use Rattle.rules.specs.Merger.{emit_due, merger_out_of}
use Rattle.rules.specs.MergerLaws.{due_fits}
use Rattle.merger.proofs.Causes.{refused_by, passed_by}
use Rattle.merger.proofs.emit_due.Goals as goal

pub returns-in-Err : goal.returns-in-Err
unfolding emit_due merger_out_of
returns-in-Err c =
    let r = refused_due c.args.h _ c.in-Err.ensures in
    rw (refused_by c.in-Err.undue.cause _ r.code)
    (record { value = rw (r.code, r.same) at c.refused.ensures; queues_after = refl; out_after = overlay_none _ })

pub write_merged-words-requires-clause-heads_fit : goal.write_merged-words-requires-clause-heads_fit
write_merged-words-requires-clause-heads_fit c =
    let h = c.args.h in
    let t = taken_due h c.in-Ok.due c.in-Ok.ensures in
    rw (c.sites-n.ensures, t.head) (due_fits h.merger c.args.queues.now h.heads (least_in h) c.requires.0 t.code)

pub returns : goal.returns
unfolding emit_due merger_out_of
returns c =
    let t = taken_due c.args.h c.in-Ok.due c.in-Ok.ensures in
    let write = c.write_merged-words.ensures in
    rw (passed_by _ (sym t.code), ← t.merger, ← t.head, ← c.sites-n.ensures, ← write.value)
    (record { value = refl; queues_after = c.pop_queues.ensures; out_after = write.out_after })
