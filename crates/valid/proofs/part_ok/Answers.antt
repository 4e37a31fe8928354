-- The course, the keys, the desk, and the transaction of a held part.
use Rattle.std.proofs.Common.{sym, ◌∙◌}
use borrow.Author.Tests.{eq-eqb, ne_eqb}
use Rattle.laws.specs.Choice.{pick_self}
use Rattle.rules.specs.Valid.{held_ok, sub_ok}
use Rattle.lent.specs.Layout.{sub_from}
use Rattle.valid.proofs.part_ok.Goals as goal

pub returns-then-not-course_ok : goal.returns-then-not-course_ok
unfolding sub_ok
returns-then-not-course_ok c = simp (sym c.course_ok.ensures ∙ c.if-not-course_ok.true)

pub returns-then-not-keys_ok_in : goal.returns-then-not-keys_ok_in
unfolding sub_ok sub_from
returns-then-not-keys_ok_in c =
    simp (
      sym c.course_ok.ensures ∙ c.if-not-course_ok.false,
      sym (c.keys_ok_in.ensures _ _ c.requires.0.range) ∙ c.if-not-keys_ok_in.true,
    )

pub returns-then-not-desk_ok : goal.returns-then-not-desk_ok
unfolding sub_ok sub_from
returns-then-not-desk_ok c =
    simp (
      sym c.course_ok.ensures ∙ c.if-not-course_ok.false,
      sym (c.keys_ok_in.ensures _ _ c.requires.0.range) ∙ c.if-not-keys_ok_in.false,
      sym c.desk_ok.ensures ∙ c.if-not-desk_ok.true,
    )

pub returns-then-seat-eq-FREE : goal.returns-then-seat-eq-FREE
unfolding sub_ok sub_from
returns-then-seat-eq-FREE c =
    simp (
      sym c.course_ok.ensures ∙ c.if-not-course_ok.false,
      sym (c.keys_ok_in.ensures _ _ c.requires.0.range) ∙ c.if-not-keys_ok_in.false,
      sym c.desk_ok.ensures ∙ c.if-not-desk_ok.false,
      eq-eqb c.args.seat.stage 0 c.if-seat-eq-FREE.true,
    )

pub returns-else-seat-eq-FREE : goal.returns-else-seat-eq-FREE
unfolding sub_ok held_ok sub_from
returns-else-seat-eq-FREE c =
    simp (
      sym c.course_ok.ensures ∙ c.if-not-course_ok.false,
      sym (c.keys_ok_in.ensures _ _ c.requires.0.range) ∙ c.if-not-keys_ok_in.false,
      sym c.desk_ok.ensures ∙ c.if-not-desk_ok.false,
      ne_eqb _ _ c.if-seat-eq-FREE.false,
      ← c.is_tx.ensures,
      pick_self,
    )
