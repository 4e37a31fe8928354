-- The library's bytes of a word are those of the rules: a quotient of a quotient is one by the product.
use Rattle.std.proofs.Math.Nat.{div-div-eq-div-mul}
use Rattle.laws.specs.Overlay.{overlay}
use Rattle.words.proofs.eight.put_word.Goals as goal

pub returns : goal.returns
unfolding overlay
returns c = rw (c.copy_from_slice.ensures.after, c.to_le_bytes-bytes.ensures) (simp div-div-eq-div-mul)
