-- Nine stores from word 0 on lay nine words over the slice.
use native.Mathlib.Omega.{arith}
use Rattle.laws.specs.Overlay.{overlay_sets}
use Rattle.rules.specs.Record.{record_head_words}
use Rattle.records.proofs.write.write_head.Goals as goal

pub returns : goal.returns
returns c =
    let a = c.args in
    rw c.write_offset.ensures (overlay_sets a.out.now (record_head_words a.r) (omega arith))
