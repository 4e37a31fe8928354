-- Enlist, as a move.
use Prim.Native.Nat.{ℕ, ◌-◌, ◌≤◌}
use mathlib.Core.Path.{◌≡◌, refl, sym, ap, ◌∙◌}
use mathlib.Core.List.{List, []}
use native.Mathlib.Omega.{arith}
use borrow.Author.Tests.{eqb-true, eqb-false}
use lib.Dec.{eqb}
use lib.ListN.{length, get_or}
use Rattle.kinds.specs.declared.House.{House}
use Rattle.kinds.specs.Stage as stage
use Rattle.kinds.specs.declared.Site.{Site}
use Rattle.kinds.specs.declared.Course.{Course}
use Rattle.kinds.specs.declared.Sub.{Sub}
use Rattle.kinds.specs.State.{sub_at, with_course}
use Rattle.rules.specs.House.{coordinator_of, in_mask, is_site}
use Rattle.rules.specs.MessageLaws.{site_clear}
use Rattle.rules.specs.Live.{place_of}
use Rattle.rules.specs.Valid.{site_ok}
use Rattle.rules.specs.Effect.{Effect, turn_at, settle, changed}
use Rattle.rules.specs.Course.{sent_to, send_to, channel_spent, with_course_of, with_participant, enlist_step}
use Rattle.rules.specs.Enlist.{enlist_code, joiner_code, enlist_at, enlist_of}
use Rattle.rules.specs.CallLaws.{enlist_clear, joiner_clear}
use Rattle.rules.specs.CourseLaws.{no_entries}
use Rattle.rules.specs.World.{World, step, site_step}
use Rattle.rules.specs.World as world
use Rattle.rules.proofs.Lists.Tables.{row_other}
use Rattle.rules.proofs.Protocol.ProtocolTables.{Protocol, m_join}
use Rattle.rules.proofs.Protocol.Protocol.{course_at, enlist, stop, more}
use Rattle.rules.proofs.Refine.Refines.{Refines, count_is}
use Rattle.rules.proofs.Refine.RefineSite.{site_channels, channels_one}
use Rattle.rules.proofs.Refine.RefineStep.{Follows, by_code, inside, stays, site_step_lem}
use Rattle.rules.proofs.Refine.RefineMail.{made_one, made_in, send_words, grows_one}
use Rattle.rules.proofs.Refine.RefineTurn.{at_place, course_is, site_course, tx_of_lem}

participant_stage : (c : Course) (r : ℕ) → (with_participant c r).stage ≡ c.stage
unfolding with_participant
participant_stage c r = refl

module _ {house : House} {w : World} {p : Protocol} (r : Refines house w p) (s : ℕ) (out : List ℕ) (t n : ℕ) where
  abbrev room : ℕ
  room = length out

  abbrev here : Site
  here = w.site s

  abbrev spot : ℕ
  spot = place_of here.live t

  abbrev course : Course
  course = (sub_at here spot).course

  abbrev Goal : Effect → Type 0
  Goal e = Follows house p (site_step w s e (w.base s) (w.lists s)).world []

  enlists : enlist_code (site_ok here) room (is_site here.house n) spot (eqb (coordinator_of t) here.counters.own) ≡ 0
      → joiner_code course.stage (eqb n here.counters.own) (in_mask course.mask n) (channel_spent here.channels n) ≡ 0
      → Goal (changed here spot (enlist_step (turn_at here spot) n) [])
  unfolding enlist_step send_to turn_at settle
  enlists e f =
      let c = enlist_clear (site_ok here) room (is_site here.house n) spot (eqb (coordinator_of t) here.counters.own) e in
      let d = joiner_clear course.stage (eqb n here.counters.own) (in_mask course.mask n) (channel_spent here.channels n) f in
      let (l, h) = inside r s c.valid in
      let y = r.site s l h in
      let o = site_clear here.house n c.site in
      let m : n ≤ house.sites = omega (arith, o.high, count_is y.house_is) in
      let a = at_place here p s t y.live c.held in
      let k = course_is a in
      let own = y.counters.own_is in
      let active : (course_at p s t).stage ≡ stage.active = sym (ap (λ (z : Course). z.stage) k) ∙ d.active in
      let q = with_participant (course_at p s t) n in
      let b = with_course (p.live s t) q in
      let number = y.channels.sent_is n o.low m in
      let apart : (n ≡ s → ⊥) = λ z. eqb-false n here.counters.own d.other (z ∙ sym own) in
      let u = with_course_of (turn_at here spot) (with_participant course n) in
      let join = m_join t (p.live s t).desk in
      let desk = ap (λ (b : Sub). b.desk) a.part in
      let words = send_words u join s n own (tx_of_lem a) in (
        _,
        more stop (enlist s t n (eqb-true _ _ c.coordinator ∙ own) active o.low m apart
            (sym (ap (λ (z : Course). in_mask z.mask n) k) ∙ d.new)),
        refl,
        site_step_lem r s l h
            (record {
              clock = λ j z. refl;
              serial = λ j z. refl;
              live = λ j z. row_other p.live s t b j z;
              post = λ j g z. ap (λ (f : ℕ → List _). f g) (row_other p.post s n _ j z);
              taken = λ g j z. refl;
              log = λ j z. refl;
              gathered = λ g z. refl;
            })
            (changed here spot (enlist_step (turn_at here spot) n) []) (w.base s) (w.lists s)
            (site_channels
            (site_course y refl a q (with_participant course n) (rw k)
            (λ z g. absurd (omega (arith, participant_stage (course_at p s t) n, active, z))))
            (sent_to here.channels n) _ _ (channels_one p.post s n join r.few o.low m y.channels))
            (grows_one p.post s n join) (λ j. refl)
            (made_in (rw (desk, words) (made_one p.post s n (get_or here.channels.sent (n - 1) 0) join no_entries.0 number))),
      )

  pub enlist_moves : Follows house p (step w (world.enlist s out t n)).world []
  unfolding step enlist_of enlist_at
  enlist_moves =
      by_code Goal (enlist_code (site_ok here) room (is_site here.house n) spot (eqb (coordinator_of t) here.counters.own)) here []
      (enlist_at here spot n)
      (λ e. by_code Goal
      (joiner_code course.stage (eqb n here.counters.own) (in_mask course.mask n) (channel_spent here.channels n)) here []
      (changed here spot (enlist_step (turn_at here spot) n) []) (enlists e) (stays r s _ refl refl))
      (stays r s _ refl refl)
