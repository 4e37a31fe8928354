-- The tests in order; a mask of the house is below 256, so that the product fits.
use Rattle.std.proofs.Common.{◌≡◌, ℕ, ◌+◌, ◌*◌, ◌≤◌, Bool, true, get_or, sym, ◌∙◌, arith, le-leb}
use borrow.Author.Tests.{lt-leb}
use Rattle.laws.specs.Choice.{pick_self}
use Rattle.kinds.specs.Sizes as sizes
use Rattle.kinds.specs.Word as word
use Rattle.kinds.specs.declared.House.{House}
use Rattle.rules.specs.House.{is_mask, participants}
use Rattle.rules.specs.Valid.{course_ok}
use Rattle.rules.specs.ValidLaws.{mask_low, participants_few}
use Rattle.lent.specs.Layout.{sub_from}
use Rattle.valid.proofs.course_ok.Goals as goal

-- replies from sites of a house come from few sites
few : (o : House) (heard n : ℕ) (r : Bool) → o.sites ≤ sizes.sites → r ≡ is_mask o heard → r ≡ true → n ≡ participants heard
    → n ≤ sizes.sites
few o heard n r low told t e = omega (arith, e, participants_few heard (mask_low o heard low (sym told ∙ t)))

pub returns-then-seat-gt-REJECTED : goal.returns-then-seat-gt-REJECTED
unfolding course_ok sub_from
returns-then-seat-gt-REJECTED c = simp (lt-leb _ _ c.if-seat-gt-REJECTED.true)

pub returns-then-not-is_mask : goal.returns-then-not-is_mask
unfolding course_ok sub_from
returns-then-not-is_mask c = simp (le-leb _ _ c.if-seat-gt-REJECTED.false, sym c.is_mask.ensures ∙ c.if-not-is_mask.true)

pub returns-then-not-is_mask-2 : goal.returns-then-not-is_mask-2
unfolding course_ok sub_from
returns-then-not-is_mask-2 c =
    simp (
      le-leb _ _ c.if-seat-gt-REJECTED.false,
      sym c.is_mask.ensures ∙ c.if-not-is_mask.false,
      sym c.is_mask-2.ensures ∙ c.if-not-is_mask-2.true,
    )

pub returns-then-in_mask : goal.returns-then-in_mask
unfolding course_ok sub_from
returns-then-in_mask c =
    simp (
      le-leb _ _ c.if-seat-gt-REJECTED.false,
      sym c.is_mask.ensures ∙ c.if-not-is_mask.false,
      sym c.is_mask-2.ensures ∙ c.if-not-is_mask-2.false,
      sym c.in_mask.ensures ∙ c.if-in_mask.true,
    )

-- no entry is at most as many as any
pub returns-then-listed-eq0 : goal.returns-then-listed-eq0
unfolding course_ok sub_from
returns-then-listed-eq0 c =
    let w = c.args.w.now in
    let room = sizes.conc_entries * (participants (get_or w (c.args.at + word.place_heard) 0) + 1) in
    simp (
      le-leb _ _ c.if-seat-gt-REJECTED.false,
      sym c.is_mask.ensures ∙ c.if-not-is_mask.false,
      sym c.is_mask-2.ensures ∙ c.if-not-is_mask-2.false,
      sym c.in_mask.ensures ∙ c.if-in_mask.false,
      le-leb (get_or w (c.args.at + word.place_listed) 0) room (omega (arith, c.if-listed-eq0.true)),
    )

pub overflow_add-lists : goal.overflow_add-lists
overflow_add-lists c =
    omega (arith, few _ _ _ _ c.requires.0.few_sites c.is_mask-2.ensures c.if-not-is_mask-2.false c.participants.ensures)

pub overflow_mul-result : goal.overflow_mul-result
overflow_mul-result c =
    omega (arith, few _ _ _ _ c.requires.0.few_sites c.is_mask-2.ensures c.if-not-is_mask-2.false c.participants.ensures)

pub returns : goal.returns
unfolding course_ok sub_from
returns c =
    simp (
      le-leb _ _ c.if-seat-gt-REJECTED.false,
      sym c.is_mask.ensures ∙ c.if-not-is_mask.false,
      sym c.is_mask-2.ensures ∙ c.if-not-is_mask-2.false,
      sym c.in_mask.ensures ∙ c.if-in_mask.false,
      ← c.participants.ensures,
      pick_self,
    )
