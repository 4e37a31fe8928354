-- Ten stores from word 0 on lay ten words over the slice.
use native.Mathlib.Omega.{arith}
use lib.ListN.{length-set}
use Rattle.laws.specs.Overlay.{overlay_sets}
use Rattle.rules.specs.Message.{head_words}
use Rattle.messages.proofs.write.write_head.Goals as goal

pub shape_of-out : goal.shape_of-out
shape_of-out c = simp length-set

pub returns : goal.returns
returns c =
    let a = c.args in
    rw c.entry_offset.ensures (overlay_sets a.out.now (head_words a.h) (omega arith))
