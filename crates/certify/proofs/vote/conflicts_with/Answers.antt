-- An entry for the install is in conflict, or not; another is none.
use Rattle.std.proofs.Common.{below_more}
use borrow.Author.Tests.{eq-eqb, ne_eqb}
use Rattle.laws.specs.Scan.{any_below_lem, any_end, none_none}
use Rattle.rules.specs.Certify.{conflicts_at}
use Rattle.lent.specs.Layout.{entry_from}
use Rattle.certify.proofs.vote.conflicts_with.Goals as goal
use Rattle.certify.proofs.vote.conflicts_with.Goals.{else-es-at-via-then-es-at+else-is_conflict, else-es-at-via-else-es-at}

pub loop-i-init : goal.loop-i-init
loop-i-init c = none_none _

pub returns-then-is_conflict : goal.returns-then-is_conflict
unfolding conflicts_at entry_from
returns-then-is_conflict c =
    any_below_lem _ _ c.loop-i.i c.loop-i-test.true
    (rw (eq-eqb _ _ c.if-es-at.true, ← c.is_conflict.ensures, c.if-is_conflict.true))

pub loop-i-preserved : goal.loop-i-preserved
unfolding conflicts_at entry_from
loop-i-preserved c =
    below_more _ _ c.loop-i.invariant (elim c.else-es-at.branch [
      | else-es-at-via-then-es-at+else-is_conflict w ↦
          rw (eq-eqb _ _ w.if-es-at.true, ← w.is_conflict.ensures, w.if-is_conflict.false)
      | else-es-at-via-else-es-at w ↦ rw (ne_eqb _ _ w.if-es-at.false)
    ])

pub returns : goal.returns
returns c = any_end _ _ _ c.loop-i-test.false c.loop-i.invariant
