-- Each return is the test that failed, or the last.
use borrow.Author.Tests.{eq-eqb, ne_eqb}
use Rattle.laws.specs.Choice.{pick_self}
use Rattle.rules.specs.Merger.{is_whole_at}
use Rattle.merger.proofs.heads.Heads.is_whole_at.Goals as goal

pub returns-then-not-in_mask : goal.returns-then-not-in_mask
unfolding is_whole_at
returns-then-not-in_mask c = simp (← c.in_mask.ensures, c.if-not-in_mask.true, ← c.has_part-here.ensures)

pub returns-then-not-here : goal.returns-then-not-here
unfolding is_whole_at
returns-then-not-here c =
    let if1 = c.if-not-in_mask in
    let in-mask = c.in_mask in
    let has_part_lem = c.has_part-here in
    simp (← in-mask.ensures, if1.false, ← has_part_lem.ensures, c.if-not-here.true)

pub returns-then-a-r : goal.returns-then-a-r
unfolding is_whole_at
returns-then-a-r c =
    let if2 = c.if-not-here in
    let if1 = c.if-not-in_mask in
    let in-mask = c.in_mask in
    let has_part_lem = c.has_part-here in
    simp (← in-mask.ensures, if1.false, ← has_part_lem.ensures, if2.false, ne_eqb _ _ c.if-a-r.true)

pub returns : goal.returns
unfolding is_whole_at
returns c =
    let if3 = c.if-a-r in
    let if2 = c.if-not-here in
    let if1 = c.if-not-in_mask in
    let in-mask = c.in_mask in
    let has_part_lem = c.has_part-here in
    simp (← in-mask.ensures, if1.false, ← has_part_lem.ensures, if2.false, eq-eqb _ _ if3.false, pick_self)
