-- Refused where a count is wrong, else the record's words are read and replayed. No merged record has more words than the longest.
use borrow.Author.Tests.{eq-eqb, ne_eqb}
use borrow.Author.Rules.{rules}
use lib.Dec.{eqb}
use lib.ListN.{length, take}
use mathlib.Core.Bool.{false, true}
use mathlib.Core.List.{List}
use mathlib.Core.Path.{◌≡◌, ◌∙◌, ap, refl, sym}
use native.Mathlib.Omega.{arith}
use Prim.Native.Nat.{ℕ, ◌*◌, ◌/◌, ◌<◌}
use Rattle.kinds.specs.Sizes as sizes
use Rattle.laws.specs.ByteLaws.{bytes_back, length_words}
use Rattle.laws.specs.Bytes.{Below, bytes_of, word_from, words_of}
use Rattle.laws.specs.Choice.{by_test, unset}
use Rattle.laws.specs.Overlay.{overlay, overlay_back}
use Rattle.rules.specs.Copy.{replay_code, replay_of}
use Rattle.rules.specs.CopyLaws.{merged_ready}
use Rattle.rules.specs.Reader.{copy_bytes, reader_replay_code, reader_replay_of}
use Rattle.rules.specs.ReaderLaws.{counted, words_copy}
use Rattle.rules.specs.Record.{merged_ok}
use Rattle.said.specs.Said.{returned_of, said_of}
use Rattle.reader.proofs.reader_replay.Goals as goal
use Rattle.reader.proofs.reader_replay.Goals.{then-copy-ne-COPY_BYTES-via-then-copy-ne-COPY_BYTES}
use Rattle.reader.proofs.reader_replay.Goals.{then-copy-ne-COPY_BYTES-via-else-copy-ne-COPY_BYTES+then-not-is_counted}
use Rattle.reader.proofs.reader_replay.Goals.{then-copy-ne-COPY_BYTES-via-else-copy-ne-COPY_BYTES+else-not-is_counted+then-n-gt-MERGED}

-- more words than the longest record has are none
too_long : (m : List ℕ) → sizes.merged < length m → merged_ok m ≡ false
too_long m h = unset (merged_ok m) (λ t. let r = merged_ready m t in omega (arith, r.fits, r.few))

-- with the right counts it is the call on words, and its words in bytes; where that is refused, the bytes that were there
as_words : (b m : List ℕ) → Below 256 b → length b ≡ copy_bytes → eqb (length m) (8 * word_from m) ≡ true
    → reader_replay_of b m
    ≡ record {
      answer = (replay_of (words_of b) (words_of m)).answer;
      bytes = bytes_of (replay_of (words_of b) (words_of m)).copy;
    }
unfolding reader_replay_of replay_of
as_words b m h e t =
    let same = counted b m (eq-eqb (length b) copy_bytes e) t in
    let code = replay_code (words_of b) (words_of m) in
    by_test (eqb code 0)
    (λ z. rw (same, z) refl)
    (λ z. rw (same, z, bytes_back sizes.copy b h e) refl)

-- the words that are handed on are those of the bytes
handed : (d ws m : List ℕ) → ws ≡ overlay d (words_of m) → take (length m / 8) ws ≡ words_of m
handed d ws m e = ap (λ (l : List ℕ). take (length m / 8) l) e ∙ overlay_back d (words_of m) (length m / 8) (length_words m)

pub returns-then-copy-ne-COPY_BYTES : goal.returns-then-copy-ne-COPY_BYTES
unfolding reader_replay_of reader_replay_code said_of returned_of
returns-then-copy-ne-COPY_BYTES c =
    let a = c.args in
    elim c.then-copy-ne-COPY_BYTES.branch [
      | then-copy-ne-COPY_BYTES-via-then-copy-ne-COPY_BYTES w ↦
          rw (ne_eqb (length a.copy.now) copy_bytes w.if-copy-ne-COPY_BYTES.true) (record { value = c.into.ensures; copy_after = refl })
      | then-copy-ne-COPY_BYTES-via-else-copy-ne-COPY_BYTES+then-not-is_counted w ↦
          let size = eq-eqb (length a.copy.now) copy_bytes w.if-copy-ne-COPY_BYTES.false in
          rw (size, ← w.is_counted.ensures, w.if-not-is_counted.true) (record { value = c.into.ensures; copy_after = refl })
      | then-copy-ne-COPY_BYTES-via-else-copy-ne-COPY_BYTES+else-not-is_counted+then-n-gt-MERGED w ↦
          let e = w.if-copy-ne-COPY_BYTES.false in
          let size = eq-eqb (length a.copy.now) copy_bytes e in
          let long = eq-eqb (length (words_of a.copy.now)) sizes.copy (words_copy a.copy.now e) in
          let none = too_long (words_of a.m.now) (omega (arith, length_words a.m.now, w.if-n-gt-MERGED.true)) in
          rw (size, ← w.is_counted.ensures, w.if-not-is_counted.false, long, none) (record { value = c.into.ensures; copy_after = refl })
    ]

pub slice_bounds-replay_words-end : goal.slice_bounds-replay_words-end
slice_bounds-replay_words-end c =
    let m = c.args.m.now in
    sym (ap (λ (l : List ℕ). length l) (handed _ c.read_words.new.ws m c.read_words.ensures) ∙ length_words m)

pub returns-in-Err : goal.returns-in-Err
returns-in-Err c =
    let a = c.args in
    let count = sym c.is_counted.ensures ∙ c.if-not-is_counted.false in
    let words = as_words a.copy.now a.m.now (λ i. search rules) c.if-copy-ne-COPY_BYTES.false count in
    rw (words, ← handed _ c.read_words.new.ws a.m.now c.read_words.ensures)
    (record { value = c.into-in-Err.ensures ∙ c.in-Err.ensures.value; copy_after = c.in-Err.ensures.copy_after })

pub returns-in-Ok : goal.returns-in-Ok
returns-in-Ok c =
    let a = c.args in
    let count = sym c.is_counted.ensures ∙ c.if-not-is_counted.false in
    let words = as_words a.copy.now a.m.now (λ i. search rules) c.if-copy-ne-COPY_BYTES.false count in
    rw (words, ← handed _ c.read_words.new.ws a.m.now c.read_words.ensures)
    (record { value = c.in-Ok.ensures.value; copy_after = c.in-Ok.ensures.copy_after })
