-- The shape gives the bounds of the reads.
use mathlib.Core.Path.{◌≡◌, sym, ap, ◌∙◌}
use native.Mathlib.Omega.{arith}
use lib.ListN.{get_or}
use Rattle.laws.specs.Choice.{pick_self}
use Rattle.laws.specs.Overlay.{length_rest, rest_is}
use Rattle.kinds.specs.Sizes as sizes
use Rattle.kinds.specs.Word as word
use Rattle.kinds.specs.declared.RecordHead.{RecordHead}
use Rattle.rules.specs.Record.{record_head, record_writes, part_ok}
use Rattle.rules.specs.HouseLaws.{house_passed}
use Rattle.rules.specs.ValidLaws.{valid_house}
use Rattle.rules.specs.RecordLaws.{shape_clear, part_clear}
use Rattle.records.proofs.layout.part_ok.Goals as goal

pub read_record-r-requires : goal.read_record-r-requires
read_record-r-requires c =
    let s = shape_clear c.args.m.now (sym c.shape_ok.ensures ∙ c.if-not-shape_ok.false) in
    omega arith

pub part_head_ok-requires : goal.part_head_ok-requires
part_head_ok-requires c = (house_passed _ c.requires).1

pub slice_bounds-part_writes_ok-count : goal.slice_bounds-part_writes_ok-count
slice_bounds-part_writes_ok-count c =
    let s = shape_clear c.args.m.now (sym c.shape_ok.ensures ∙ c.if-not-shape_ok.false) in
    omega arith

pub slice_bounds-part_writes_ok-start : goal.slice_bounds-part_writes_ok-start
slice_bounds-part_writes_ok-start c =
    let s = shape_clear c.args.m.now (sym c.shape_ok.ensures ∙ c.if-not-shape_ok.false) in
    omega arith

pub part_writes_ok-requires : goal.part_writes_ok-requires
unfolding record_head
part_writes_ok-requires c =
    let m = c.args.m.now in
    let s = shape_clear m (sym c.shape_ok.ensures ∙ c.if-not-shape_ok.false) in
    let h = part_clear c.args.o c.read_record-r.result (sym c.part_head_ok.ensures ∙ c.if-part_head_ok.true) in
    let n : c.read_record-r.result.count ≡ get_or m word.write_count 0 = ap (λ (r : RecordHead). r.count) c.read_record-r.ensures in
    let v = valid_house c.args.o _ c.requires h.site in
    record { valid_house = v; n_le_merged_writes = omega (arith, length_rest m sizes.record_header) }

pub returns-then-part_head_ok : goal.returns-then-part_head_ok
unfolding part_ok record_writes
returns-then-part_head_ok c =
    let head = c.part_head_ok.ensures in
    simp (← c.shape_ok.ensures, c.if-not-shape_ok.false, ← c.read_record-r.ensures, ← head, c.if-part_head_ok.true, pick_self)
    (c.part_writes_ok.ensures ∙ rw rest_is)
