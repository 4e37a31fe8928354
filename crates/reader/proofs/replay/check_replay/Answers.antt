-- The copy's pair is read from its first two words.
use borrow.Author.Tests.{eq-eqb}
use lib.ListN.{length}
use mathlib.Core.Path.{◌∙◌, sym}
use Rattle.kinds.specs.Sizes as sizes
use Rattle.laws.specs.Bytes.{words_of}
use Rattle.rules.specs.Copy.{replay_code}
use Rattle.rules.specs.CopyLaws.{merged_ready}
use Rattle.rules.specs.ReaderLaws.{words_copy}
use Rattle.reader.proofs.replay.check_replay.Goals as goal

pub read_record-r-requires : goal.read_record-r-requires
read_record-r-requires c = (merged_ready _ (sym c.merged_ok.ensures ∙ c.if-not-merged_ok.false)).long

pub returns-then-not-precedes-clause-refusal : goal.returns-then-not-precedes-clause-refusal
unfolding replay_code
returns-then-not-precedes-clause-refusal c =
    let b = c.args.copy.now in
    let long = eq-eqb (length (words_of b)) sizes.copy (words_copy b c.requires) in
    let merged = sym c.merged_ok.ensures ∙ c.if-not-merged_ok.false in
    let p = sym c.precedes.ensures ∙ c.if-not-precedes.true in
    simp (long, merged, ← c.read_record-r.ensures, ← c.word_at-number.ensures, ← c.word_at-coordinator.ensures, p)

pub returns-clause-refusal : goal.returns-clause-refusal
unfolding replay_code
returns-clause-refusal c =
    let b = c.args.copy.now in
    let long = eq-eqb (length (words_of b)) sizes.copy (words_copy b c.requires) in
    let merged = sym c.merged_ok.ensures ∙ c.if-not-merged_ok.false in
    let p = sym c.precedes.ensures ∙ c.if-not-precedes.false in
    simp (long, merged, ← c.read_record-r.ensures, ← c.word_at-number.ensures, ← c.word_at-coordinator.ensures, p)
