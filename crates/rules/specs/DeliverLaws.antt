-- A step of a message past its refusals.
use Rattle.std.specs.Prelude.{ℕ, ◌+◌, ◌*◌, ◌≤◌, ◌<◌, ◌≡◌, true, false, not, List, [], ◌∷◌, ltb, eqb, drop}
use Rattle.std.proofs.Common.{arith, ltb-true, ltb-false}
use Rattle.std.proofs.lemmas.Bool.{not-true}
use Rattle.laws.specs.Choice.{every, every_at, by_test}
use Rattle.kinds.specs.Sizes as sizes
use Rattle.kinds.specs.Stage as stage
use Rattle.kinds.specs.declared.House.{House}
use Rattle.kinds.specs.declared.Course.{Course}
use Rattle.kinds.specs.declared.MessageHead.{MessageHead}
use Rattle.kinds.specs.declared.Site.{Site}
use Rattle.kinds.specs.State.{sub_at}
use Rattle.rules.specs.Message.{entry_count}
use Rattle.rules.specs.Live.{all_heard}
use Rattle.rules.specs.Join.{joined}
use Rattle.rules.specs.Certify.{vote_of}
use Rattle.rules.specs.House.{in_mask, participants}
use Rattle.rules.specs.ValidLaws.{ValidHouse, ValidCourse, participants_lack_two}
use Rattle.rules.specs.Course.{with_course_of, with_reply, quietly, cast_step, is_outstanding}
use Rattle.rules.specs.Deliver.{arrived, conc_in_turn, gather_change}

-- a list more: not the last, or the last
module _ (s : Site) (h : MessageHead) (place : ℕ) (lists : List ℕ) where
  abbrev pub heard_after : Course
  heard_after = with_reply (sub_at s place).course h.from 0 h.count

  pub gather_more : all_heard s.counters.own heard_after.heard heard_after.mask ≡ false
      → gather_change s h place lists ≡ quietly (with_course_of (arrived s place h.from) heard_after)
  unfolding gather_change
  gather_more e = rw e

  pub gather_last : all_heard s.counters.own heard_after.heard heard_after.mask ≡ true
      → gather_change s h place lists
      ≡ cast_step (with_course_of (arrived s place h.from) heard_after)
      (vote_of s place (joined (drop (sizes.gathered * place) lists) heard_after.listed)
      (entry_count (joined (drop (sizes.gathered * place) lists) heard_after.listed)))
      (joined (drop (sizes.gathered * place) lists) heard_after.listed)
  unfolding gather_change
  gather_last e = rw e

-- a list more has room: its sender and the own site are not among those heard, so at most six are
lacking : (mask a b : ℕ) → mask < 256 → 1 ≤ a → a ≤ 8 → 1 ≤ b → b ≤ 8 → (a ≡ b → ⊥) → in_mask mask a ≡ false → in_mask mask b ≡ false
    → participants mask ≤ 6
lacking mask a b m la ha lb hb n x y =
    by_test (ltb a b)
    (λ t. participants_lack_two mask a b m la (ltb-true a b t) hb x y)
    (λ t. by_test (ltb b a)
    (λ u. participants_lack_two mask b a m lb (ltb-true b a u) ha y x)
    (λ u. absurd (n (omega (arith, ltb-false a b t, ltb-false b a u)))))

pub conc_room : (o : House) (own from count : ℕ) (c : Course) → ValidHouse o own → ValidCourse o own c → 1 ≤ from → from ≤ 8
    → (from ≡ own → ⊥)
    → conc_in_turn c from ≡ true → count ≤ sizes.conc_entries → c.listed + count ≤ sizes.cert_entries
unfolding conc_in_turn is_outstanding
conc_room o own from count c h v lf hf n t few =
    let w = every_at (eqb c.stage stage.prepared ∷ every (in_mask c.mask from ∷ not (in_mask c.heard from) ∷ []) ∷ []) 1 t in
    let u = not-true (in_mask c.heard from) (every_at (in_mask c.mask from ∷ not (in_mask c.heard from) ∷ []) 1 w) in
    omega (
      arith,
      v.listed,
      few,
      lacking c.heard from own v.heard_low lf hf h.own_low (omega (arith, h.own_high, h.few_sites)) n u v.others,
    )
