-- Refused where the count is another, else all bytes are 0, which are the bytes of words of 0.
use borrow.Author.Tests.{eq-eqb, ne_eqb}
use lib.ListN.{length, replicate}
use mathlib.Core.List.{List}
use mathlib.Core.Path.{◌≡◌, ◌∙◌, ap, refl}
use native.Mathlib.Omega.{arith}
use Prim.Native.Nat.{ℕ, ◌*◌}
use Rattle.kinds.specs.Sizes as sizes
use Rattle.laws.specs.ByteLaws.{bytes_zero, length_words}
use Rattle.laws.specs.Bytes.{bytes_of, words_of}
use Rattle.rules.specs.Copy.{copy_start_of}
use Rattle.rules.specs.Reader.{copy_bytes, reader_start_code, reader_start_of}
use Rattle.rules.specs.ReaderLaws.{words_copy}
use Rattle.said.specs.Said.{returned_of, said_of}
use Rattle.reader.proofs.reader_start.Goals as goal

-- the bytes of a started copy
zeros : (b : List ℕ) → length b ≡ copy_bytes → bytes_of (replicate (length (words_of b)) 0) ≡ replicate (length b) 0
zeros b e =
    let n : 8 * length (words_of b) ≡ length b = omega (arith, length_words b) in
    bytes_zero (length (words_of b)) ∙ ap (λ (k : ℕ). replicate k 0) n

pub returns-then-copy-ne-COPY_BYTES : goal.returns-then-copy-ne-COPY_BYTES
unfolding reader_start_of reader_start_code said_of returned_of
returns-then-copy-ne-COPY_BYTES c = rw (ne_eqb _ _ c.if-copy-ne-COPY_BYTES.true) (record { value = c.into.ensures; copy_after = refl })

pub returns : goal.returns
unfolding reader_start_of reader_start_code copy_start_of said_of returned_of
returns c =
    let b = c.args.copy.now in
    let e = c.if-copy-ne-COPY_BYTES.false in
    rw (eq-eqb _ _ e, eq-eqb (length (words_of b)) sizes.copy (words_copy b e), zeros b e)
    (record { value = refl; copy_after = c.fill_bytes.ensures })
