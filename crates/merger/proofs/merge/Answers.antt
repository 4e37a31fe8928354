-- Refused by the code, else the kind decides.
use Rattle.std.proofs.Common.{refl, sym, ap, ◌∙◌}
use borrow.Author.Tests.{eq-eqb, ne_eqb}
use Rattle.kinds.specs.declared.RecordHead.{RecordHead}
use Rattle.rules.specs.Merger.{merge_of, merger_out_of}
use Rattle.rules.specs.MergerClear.{part_ready, state_ready}
use Rattle.rules.specs.MergerLaws.{state_out, state_queues}
use Rattle.merger.proofs.Causes.{refused_by, passed_by}
use Rattle.merger.proofs.merge.Goals as goal

pub returns-in-Err : goal.returns-in-Err
unfolding merge_of merger_out_of
returns-in-Err c =
    let code = c.in-Err.ensures in
    rw (refused_by c.in-Err.cause _ code) (record { value = rw code at c.refused.ensures; queues_after = refl })

pub read_record-r-requires : goal.read_record-r-requires
read_record-r-requires c = (state_ready _ _ _ (sym c.in_default.ensures)).long

pub merge_part-requires : goal.merge_part-requires
merge_part-requires c =
    part_ready _ _ _ (sym c.in_default.ensures)
    (sym (ap (λ (r : RecordHead). r.kind) c.read_record-r.ensures) ∙ c.if-r-eq-PART.true)

pub returns-then-r-eq-PART : goal.returns-then-r-eq-PART
unfolding merge_of
returns-then-r-eq-PART c =
    rw (passed_by _ c.in_default.ensures, ← c.read_record-r.ensures, eq-eqb _ _ c.if-r-eq-PART.true) c.merge_part.ensures

pub merge_state-requires : goal.merge_state-requires
merge_state-requires c = state_ready _ _ _ (sym c.in_default.ensures)

pub returns : goal.returns
unfolding merge_of
returns c =
    rw (passed_by _ c.in_default.ensures, ← c.read_record-r.ensures, ne_eqb _ _ c.if-r-eq-PART.false)
    (record { value = c.merge_state.ensures ∙ state_out _ _ _; queues_after = state_queues _ _ _ })
