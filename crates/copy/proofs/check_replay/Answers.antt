-- A merged record has a header to read the pair from. The return for a pair that is not above the last has its answer here for the edit
-- takes-the-last-pair-again, which keeps that return true.
use borrow.Author.Tests.{eq-eqb}
use mathlib.Core.Path.{◌∙◌, sym}
use Rattle.rules.specs.Copy.{replay_code}
use Rattle.rules.specs.CopyLaws.{merged_ready}
use Rattle.copy.proofs.check_replay.Goals as goal

pub read_record-r-requires : goal.read_record-r-requires
read_record-r-requires c = (merged_ready _ (sym c.merged_ok.ensures ∙ c.if-not-merged_ok.false)).long

pub returns-then-not-precedes-clause-refusal : goal.returns-then-not-precedes-clause-refusal
unfolding replay_code
returns-then-not-precedes-clause-refusal c =
    let p = sym c.precedes.ensures ∙ c.if-not-precedes.true in
    simp (eq-eqb _ _ c.if-copy-ne-COPY.false, ← c.merged_ok.ensures, c.if-not-merged_ok.false, ← c.read_record-r.ensures, p)
