-- Each return is the first cause, or none: those of the key, and then those of the part.
use borrow.Author.Tests.{eq-eqb, lt-leb, ne_eqb}
use Rattle.std.proofs.Common.{ℕ, ◌≡◌, ◌<◌, ◌∙◌, sym, ap, refl, List, get_or, not, eqb}
use Rattle.laws.specs.Cause.{code_of, code_append}
use Rattle.laws.specs.Choice.{pick}
use Rattle.kinds.specs.Reason as reason
use Rattle.kinds.specs.Sizes as sizes
use Rattle.kinds.specs.Stage as stage
use Rattle.kinds.specs.Refusal.{number_of}
use Rattle.kinds.specs.declared.refusal.Refusal.{Refusal}
use Rattle.kinds.specs.declared.Seat.{Seat}
use Rattle.kinds.specs.declared.Site.{Site}
use Rattle.kinds.specs.State.{past_seat}
use Rattle.rules.specs.Access.{key_causes, part_causes, key_code, access_code}
use Rattle.rules.specs.Live.{place_of, stage_at}
use Rattle.rules.specs.Valid.{site_ok}
use Rattle.lent.specs.Laws.{live_at}
use Rattle.lent.specs.Layout.{live_of, sub_from}
use Rattle.lent.specs.Lent.{site_of}
use Rattle.shell.proofs.Refusals.{stopped, passed_on, placed, unplaced}
use Rattle.site.specs.Accessed.{key_code_at, access_code_at}
use Rattle.site.proofs.access.check_access.Goals.{In_ok-place}
use Rattle.site.proofs.access.check_access.Goals as goal

-- a seat has the stage of its part
seat_stage : (seats : List Seat) (w : List ℕ) (i : ℕ) → i < sizes.live → (get_or seats i past_seat).stage ≡ stage_at (live_of seats w) i
unfolding sub_from
seat_stage seats w i l = sym (ap (λ b. b.course.stage) (live_at seats w i l))

module _ (s : Site) (room tx key : ℕ) where
  -- where the key has a cause it is the first,
  of_key : (cause : Refusal) → number_of cause ≡ key_code_at s room key → number_of cause ≡ access_code_at s room tx key
  unfolding key_code access_code
  of_key cause e =
      let place = place_of s.live tx in
      let causes = key_causes (site_ok s) room s.house s.counters.own key in
      sym (code_append causes (part_causes place (stage_at s.live place)) refl ∙ rw (← e, stopped cause _ refl))

  -- and else the first is one of the part
  of_part : 0 ≡ key_code_at s room key → (place : ℕ) → place ≡ place_of s.live tx
      → code_of (part_causes place (stage_at s.live place)) ≡ access_code_at s room tx key
  unfolding key_code access_code
  of_part z place at =
      let causes = key_causes (site_ok s) room s.house s.counters.own key in
      sym (rw (← at) (code_append causes (part_causes place (stage_at s.live place)) refl ∙ rw (← z)))

pub returns-in_err-check_key-clause-code : goal.returns-in_err-check_key-clause-code
returns-in_err-check_key-clause-code c =
    let a = c.args in
    let s = site_of a.p a.live.now a.history.now in
    passed_on _ _ _ c.from_residual.ensures.1 (of_key s a.room a.tx a.key _ c.in_err-check_key.ensures)

pub returns-in_err-place-clause-code : goal.returns-in_err-place-clause-code
returns-in_err-place-clause-code c =
    let a = c.args in
    let s = site_of a.p a.live.now a.history.now in
    let (at, told) = unplaced _ _ _ _ _ c.in_err-place.ensures.value (c.place_of.ensures.first a.live.now) in
    passed_on _ _ _ c.from_residual-in_err-place.ensures.1
    (ap number_of told ∙ of_part s a.room a.tx a.key c.in_ok-check_key.ensures sizes.live at)

-- the part that is found is asked for its stage alone
by_stage : (c : In_ok-place)
    → pick (not (eqb (get_or c.args.p.seats c.in_ok-place.place past_seat).stage stage.active)) reason.stage 0
    ≡ access_code_at (site_of c.args.p c.args.live.now c.args.history.now) c.args.room c.args.tx c.args.key
by_stage c =
    let a = c.args in
    let s = site_of a.p a.live.now a.history.now in
    let i = c.in_ok-place.place in
    let (at, low) = placed _ _ _ _ _ c.in_ok-place.ensures.value (c.place_of.ensures.first a.live.now) c.place_of.ensures.bound in
    let first = of_part s a.room a.tx a.key c.in_ok-check_key.ensures i at in
    rw (lt-leb sizes.live i low, ← seat_stage a.p.seats a.live.now i low) at first

pub returns-then-p-place-ne-ACTIVE-clause-code : goal.returns-then-p-place-ne-ACTIVE-clause-code
returns-then-p-place-ne-ACTIVE-clause-code c =
    let first = by_stage (goal.at.returns-then-p-place-ne-ACTIVE-clause-code c).In_ok-place in
    rw (ne_eqb _ _ c.if-p-place-ne-ACTIVE.true) at first

pub returns-clause-code : goal.returns-clause-code
returns-clause-code c =
    let first = by_stage (goal.at.returns-clause-code c).In_ok-place in
    rw (eq-eqb _ _ c.if-p-place-ne-ACTIVE.false) at first
