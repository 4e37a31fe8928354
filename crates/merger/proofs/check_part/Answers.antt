-- Each return is a cause of the list.
use Rattle.std.proofs.Common.{sym, ◌∙◌, le-leb}
use borrow.Author.Tests.{lt-leb}
use Rattle.rules.specs.Merger.{merge_part_code}
use Rattle.merger.proofs.check_part.Goals as goal
use Rattle.merger.proofs.check_part.Goals.{then-not-precedes-via-then-not-precedes}
use Rattle.merger.proofs.check_part.Goals.{then-not-precedes-via-else-not-precedes+then-r-c}

pub returns-then-not-precedes : goal.returns-then-not-precedes
unfolding merge_part_code
returns-then-not-precedes c =
    elim c.then-not-precedes.branch [
      | then-not-precedes-via-then-not-precedes w ↦ simp (sym c.precedes.ensures ∙ w.if-not-precedes.true)
      | then-not-precedes-via-else-not-precedes+then-r-c w ↦
          simp (sym c.precedes.ensures ∙ w.if-not-precedes.false, le-leb _ _ w.if-r-c.true)
    ]

pub returns-then-c-ge-QUEUE : goal.returns-then-c-ge-QUEUE
unfolding merge_part_code
returns-then-c-ge-QUEUE c =
    simp (
      sym c.precedes.ensures ∙ c.if-not-precedes.false,
      lt-leb _ _ c.if-r-c.false,
      le-leb _ _ c.if-c-ge-QUEUE.true,
    )

pub returns : goal.returns
unfolding merge_part_code
returns c =
    simp (
      sym c.precedes.ensures ∙ c.if-not-precedes.false,
      lt-leb _ _ c.if-r-c.false,
      lt-leb _ _ c.if-c-ge-QUEUE.false,
    )
