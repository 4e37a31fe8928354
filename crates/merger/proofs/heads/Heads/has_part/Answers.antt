-- Each return is the test that failed, or the last.
use borrow.Author.Tests.{eq-eqb, ne_eqb}
use Rattle.laws.specs.Choice.{pick_self}
use Rattle.rules.specs.Merger.{has_part}
use Rattle.merger.proofs.heads.Heads.has_part.Goals as goal

pub returns-then-not-has_head : goal.returns-then-not-has_head
unfolding has_part
returns-then-not-has_head c = simp (← c.has_head.ensures, c.if-not-has_head.true)

pub returns-then-a-r : goal.returns-then-a-r
unfolding has_part
returns-then-a-r c =
    let has-head = c.has_head in
    simp (← has-head.ensures, c.if-not-has_head.false, ne_eqb _ _ c.if-a-r.true)

pub returns : goal.returns
unfolding has_part
returns c =
    let has-head = c.has_head in
    simp (← has-head.ensures, c.if-not-has_head.false, eq-eqb _ _ c.if-a-r.false, pick_self)
