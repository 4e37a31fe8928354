-- A part's course stays possible: masks gain sites of the house, a site not heard before brings at most 47 entries, and a fresh round
-- has heard nobody.
use Prim.Native.Nat.{ℕ, ◌≤◌}
use mathlib.Core.Path.{◌≡◌, refl, sym}
use mathlib.Core.Bool.{true, false}
use mathlib.Core.Logic.{◌⊎◌, ⊎_elim}
use native.Mathlib.Omega.{arith}
use lib.Bits.{bit_or}
use Rattle.laws.specs.Choice.{by_test, set_not}
use Rattle.kinds.specs.Sizes as sizes
use Rattle.kinds.specs.Stage as stage
use Rattle.kinds.specs.State.{no_course}
use Rattle.kinds.specs.declared.House.{House}
use Rattle.kinds.specs.declared.Course.{Course}
use Rattle.rules.specs.House.{is_site, is_mask, in_mask, mask_of}
use Rattle.rules.specs.MessageLaws.{site_clear}
use Rattle.rules.specs.Course.{new_sub, with_participant, with_reply, with_decision, with_queue_mark, with_request, with_stage}
use Rattle.rules.specs.Valid.{course_ok}
use Rattle.rules.specs.ValidLaws.{ValidHouse, ValidCourse, valid_course}
use Rattle.rules.proofs.Lists.Masks.{none_in, in_more}
use Rattle.rules.proofs.Possible.ValidMade.{none_mask, site_mask, both_mask, heard_kept, heard_more, course_made}

-- nobody is heard
unheard : (own : ℕ) → in_mask 0 own ≡ false
unheard own = by_test (in_mask 0 own) (λ e. absurd (none_in own e)) (λ e. e)

module _ (o : House) (own : ℕ) (house : ValidHouse o own) where
  valid : (c : Course) → course_ok o own c ≡ true → ValidCourse o own c
  valid c e = valid_course o own c house e

  -- a fresh round, of a list of n entries or of none
  round_fits : (c : Course) → c.stage ≤ stage.rejected → is_mask o c.mask ≡ true → c.heard ≡ 0 → c.listed ≤ sizes.conc_entries
      → course_ok o own c ≡ true
  round_fits c st m h l = course_made o own c st m (rw h (none_mask o)) (rw h (unheard own)) (omega arith)

  pub none_fits : course_ok o own no_course ≡ true
  none_fits = round_fits no_course (omega arith) (none_mask o) refl (omega arith)

  pub new_fits : (t d mask n : ℕ) → is_mask o mask ≡ true → course_ok o own (new_sub t d mask n).course ≡ true
  unfolding new_sub
  new_fits t d mask n m = round_fits _ (omega arith) m refl (omega arith)

  module _ (c : Course) (e : course_ok o own c ≡ true) where
    pub participant_fits : (a : ℕ) → is_site o a ≡ true → course_ok o own (with_participant c a) ≡ true
    unfolding with_participant
    participant_fits a h =
        let v = valid c e in
        let more = both_mask o c.mask (mask_of a) v.mask_house (site_mask o a h) in
        course_made o own _ v.stage more v.heard_house v.others v.listed

    pub decision_fits : (n : ℕ) → course_ok o own (with_decision c n) ≡ true
    unfolding with_decision
    decision_fits n = let v = valid c e in course_made o own _ (omega arith) v.mask_house v.heard_house v.others v.listed

    pub stage_fits : (mask st : ℕ) → is_mask o mask ≡ true → st ≤ stage.rejected → course_ok o own (with_stage c mask st) ≡ true
    unfolding with_stage
    stage_fits mask st m l = let v = valid c e in course_made o own _ l m v.heard_house v.others v.listed

    pub mark_fits : (n : ℕ) → course_ok o own (with_queue_mark c n) ≡ true
    unfolding with_queue_mark
    mark_fits n = round_fits _ (omega arith) (valid c e).mask_house refl (omega arith)

    pub request_fits : (n : ℕ) → n ≤ sizes.conc_entries → course_ok o own (with_request c n) ≡ true
    unfolding with_request
    request_fits n l = round_fits _ (omega arith) (valid c e).mask_house refl l

    -- a reply of another site: with a list it was not heard before
    pub reply_fits : (a r n : ℕ) → is_site o a ≡ true → (a ≡ own → ⊥) → (n ≡ 0) ⊎ ((in_mask c.heard a ≡ false) × (n ≤ sizes.conc_entries))
        → course_ok o own (with_reply c a r n) ≡ true
    unfolding with_reply
    reply_fits a r n h apart new =
        let v = valid c e in
        let b = site_clear o a h in
        let low : 1 ≤ a = b.low in
        let high : a ≤ sizes.sites = omega (arith, b.high, house.few_sites) in
        course_made o own _ v.stage v.mask_house (both_mask o c.heard (mask_of a) v.heard_house (site_mask o a h))
        (by_test (in_mask (bit_or c.heard (mask_of a)) own)
        (λ t. absurd
        (⊎_elim (λ (y : in_mask c.heard own ≡ true). set_not _ y v.others) (λ (y : own ≡ a). apart (sym y))
        (in_more c.heard a own low house.own_low t)))
        (λ f. f))
        (⊎_elim
        (λ (z : n ≡ 0). omega (arith, v.listed, heard_kept c.heard a v.heard_low low high))
        (λ (z : (in_mask c.heard a ≡ false) × (n ≤ sizes.conc_entries)).
        omega (arith, v.listed, z.1, heard_more c.heard a v.heard_low low high z.0))
        new)
