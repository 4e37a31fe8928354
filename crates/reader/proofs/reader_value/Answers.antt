-- Where the check finds no cause, the four words are written to the answer.
use lib.ListN.{length}
use mathlib.Core.List.{List}
use mathlib.Core.Path.{◌∙◌, ap, refl, sym}
use native.Mathlib.Omega.{arith}
use Prim.Native.Nat.{ℕ}
use Rattle.laws.specs.Bytes.{bytes_of}
use Rattle.rules.specs.CopyLaws.{value_ready}
use Rattle.rules.specs.Reader.{reader_value_of, standing_words}
use Rattle.rules.specs.ReaderLaws.{value_bytes_ready, value_taken}
use Rattle.said.specs.Said.{returned_of, said_of}
use Rattle.reader.proofs.reader_value.Goals as goal

pub standing-requires : goal.standing-requires
standing-requires c =
    let r = value_bytes_ready c.args.copy.now c.args.key (length c.args.answer.now) (sym c.in_default.ensures) in
    (r.size, (value_ready _ _ r.words).low)

pub write_words-requires : goal.write_words-requires
unfolding standing_words
write_words-requires c =
    let r = value_bytes_ready c.args.copy.now c.args.key (length c.args.answer.now) (sym c.in_default.ensures) in
    let four = ap (λ (l : List ℕ). length l) c.standing.ensures in
    omega (arith, r.room, four)

pub returns : goal.returns
unfolding reader_value_of said_of returned_of
returns c =
    let a = c.args in
    let taken = value_taken a.copy.now a.key (length a.answer.now) (sym c.in_default.ensures) in
    rw (← c.in_default.ensures, taken)
    (record { value = refl; answer_after = c.write_words.ensures ∙ ap bytes_of c.standing.ensures })
