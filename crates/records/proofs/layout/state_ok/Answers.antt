-- The shape gives the bound of the header.
use mathlib.Core.Path.{sym, ◌∙◌}
use native.Mathlib.Omega.{arith}
use Rattle.rules.specs.RecordLaws.{shape_clear}
use Rattle.records.proofs.layout.state_ok.Goals as goal

pub read_record-requires : goal.read_record-requires
read_record-requires c =
    let s = shape_clear c.args.m.now (sym c.shape_ok.ensures ∙ c.if-shape_ok.true) in
    omega arith
