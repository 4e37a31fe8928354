-- A copy's bytes hold as many words as a copy has.
use borrow.Author.Tests.{eq-eqb, lt-leb}
use lib.ListN.{length}
use mathlib.Core.Path.{◌≡◌}
use native.Mathlib.Omega.{arith}
use Rattle.kinds.specs.Sizes as sizes
use Rattle.laws.specs.Bytes.{words_of}
use Rattle.rules.specs.Reader.{answer_bytes, reader_value_code}
use Rattle.rules.specs.ReaderLaws.{words_copy}
use Rattle.reader.proofs.check_value.Goals as goal

pub returns : goal.returns
unfolding reader_value_code
returns c =
    let e = c.if-copy-ne-COPY_BYTES.false in
    let b = c.args.copy.now in
    let long = words_copy b e in
    let whole : c.args.room ≡ answer_bytes = omega arith in
    simp (eq-eqb _ _ e, eq-eqb _ _ whole, eq-eqb (length (words_of b)) sizes.copy long, lt-leb _ _ c.if-key.false)
