-- The word's bytes are laid where they stand; the rest stays.
use borrow.Author.Rules.{rules}
use lib.ListN.{length}
use native.Mathlib.Omega.{arith}
use Prim.Native.Nat.{◌*◌, ◌/◌}
use Rattle.laws.specs.ByteLaws.{hold_set}
use Rattle.laws.specs.Bytes.{word_bytes}
use Rattle.laws.specs.Overlay.{put_part}
use Rattle.words.proofs.set_word.Goals as goal

pub returns : goal.returns
returns c =
    let a = c.args in
    let pre = c.requires in
    let b = a.b.now in
    let p = put_part b c.put_word.new.b (word_bytes a.x) (8 * a.i) c.put_word.ensures in
    rw p (hold_set (length b / 8) b a.i a.x (λ i. search rules) pre.1 pre.0 (omega arith))
