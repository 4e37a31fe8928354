-- Not due is 17, due and not whole 16.
use Rattle.std.proofs.Common.{◌≡◌, ℕ, ◌<◌, true, false, sym, ◌∙◌, lt-ltb}
use Rattle.laws.specs.Choice.{pick_same}
use Rattle.laws.specs.Scan.{all_below}
use Rattle.kinds.specs.Reason as reason
use Rattle.kinds.specs.Sizes as sizes
use Rattle.merger.specs.declared.heads.Heads.{Heads}
use Rattle.merger.specs.Order.{code_in, least_in, sites_in}
use Rattle.rules.specs.Merger.{due_code, head_in, is_due, is_due_at, is_whole}
use Rattle.merger.proofs.heads.Heads.check_due.Goals as goal

none : (h : Heads) → sizes.sites ≡ least_in h → reason.nothing ≡ code_in h
unfolding code_in due_code is_due
none h e = rw (← e)

module _ (h : Heads) (least : ℕ) (e : least ≡ least_in h) where
  late : all_below (is_due_at h.merger (head_in h.heads least).number) (sites_in h) ≡ false → reason.nothing ≡ code_in h
  unfolding code_in due_code is_due
  late t = rw (← e, t, pick_same)

  parted : least < sizes.sites → all_below (is_due_at h.merger (head_in h.heads least).number) (sites_in h) ≡ true
      → is_whole h.merger h.heads (head_in h.heads least) ≡ false → reason.not_whole ≡ code_in h
  unfolding code_in due_code is_due
  parted low t w = rw (← e, lt-ltb _ _ low, t, w)

  whole : least < sizes.sites → all_below (is_due_at h.merger (head_in h.heads least).number) (sites_in h) ≡ true
      → is_whole h.merger h.heads (head_in h.heads least) ≡ true → 0 ≡ code_in h
  unfolding code_in due_code is_due
  whole low t w = rw (← e, lt-ltb _ _ low, t, w)

pub returns-in_default-clause-code : goal.returns-in_default-clause-code
returns-in_default-clause-code c = none _ c.in_default.ensures.least

pub returns-then-not-all_due-clause-code : goal.returns-then-not-all_due-clause-code
returns-then-not-all_due-clause-code c =
    late _ _ c.in-Some.ensures.least (sym c.all_due.ensures ∙ c.if-not-all_due.true)

pub returns-then-not-is_whole-clause-code : goal.returns-then-not-is_whole-clause-code
returns-then-not-is_whole-clause-code c =
    parted _ _ c.in-Some.ensures.least c.in-Some.ensures.bound (sym c.all_due.ensures ∙ c.if-not-all_due.false)
    (sym c.is_whole.ensures ∙ c.if-not-is_whole.true)

pub returns-clause-code : goal.returns-clause-code
returns-clause-code c =
    whole _ _ c.in-Some.ensures.least c.in-Some.ensures.bound (sym c.all_due.ensures ∙ c.if-not-all_due.false)
    (sym c.is_whole.ensures ∙ c.if-not-is_whole.false)
