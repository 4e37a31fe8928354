-- The shape gives the bounds of the reads.
use mathlib.Core.Path.{◌≡◌, sym, ap, ◌∙◌}
use native.Mathlib.Omega.{arith}
use lib.ListN.{get_or}
use Rattle.laws.specs.Choice.{pick_self}
use Rattle.laws.specs.Overlay.{length_rest, rest_is}
use Rattle.kinds.specs.Sizes as sizes
use Rattle.kinds.specs.Word as word
use Rattle.kinds.specs.declared.RecordHead.{RecordHead}
use Rattle.rules.specs.Record.{record_head, record_writes, merged_ok}
use Rattle.rules.specs.RecordLaws.{shape_clear, merged_clear}
use Rattle.records.proofs.layout.merged_ok.Goals as goal

pub read_record-r-requires : goal.read_record-r-requires
read_record-r-requires c =
    let s = shape_clear c.args.m.now (sym c.shape_ok.ensures ∙ c.if-not-shape_ok.false) in
    omega arith

pub slice_bounds-merged_writes_ok-count : goal.slice_bounds-merged_writes_ok-count
slice_bounds-merged_writes_ok-count c =
    let s = shape_clear c.args.m.now (sym c.shape_ok.ensures ∙ c.if-not-shape_ok.false) in
    omega arith

pub slice_bounds-merged_writes_ok-start : goal.slice_bounds-merged_writes_ok-start
slice_bounds-merged_writes_ok-start c =
    let s = shape_clear c.args.m.now (sym c.shape_ok.ensures ∙ c.if-not-shape_ok.false) in
    omega arith

pub merged_writes_ok-requires : goal.merged_writes_ok-requires
unfolding record_head
merged_writes_ok-requires c =
    let m = c.args.m.now in
    let s = shape_clear m (sym c.shape_ok.ensures ∙ c.if-not-shape_ok.false) in
    let h = merged_clear c.read_record-r.result (sym c.merged_head_ok.ensures ∙ c.if-merged_head_ok.true) in
    let n : c.read_record-r.result.count ≡ get_or m word.write_count 0 = ap (λ (r : RecordHead). r.count) c.read_record-r.ensures in
    omega (arith, length_rest m sizes.record_header)

pub returns-then-merged_head_ok : goal.returns-then-merged_head_ok
unfolding merged_ok record_writes
returns-then-merged_head_ok c =
    let head = c.merged_head_ok.ensures in
    simp (← c.shape_ok.ensures, c.if-not-shape_ok.false, ← c.read_record-r.ensures, ← head, c.if-merged_head_ok.true, pick_self)
    (c.merged_writes_ok.ensures ∙ rw rest_is)
