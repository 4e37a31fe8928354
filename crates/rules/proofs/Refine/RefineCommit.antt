-- Commit and abandon, as moves.
use Prim.Native.Nat.{ℕ}
use mathlib.Core.Path.{◌≡◌, refl, sym, ap, ◌∙◌}
use mathlib.Core.Bool.{false}
use mathlib.Core.List.{List, []}
use native.Mathlib.Omega.{arith}
use borrow.Author.Tests.{eqb-true, eqb-false, not-false}
use lib.ListN.{length}
use Rattle.kinds.specs.declared.House.{House}
use Rattle.laws.specs.Choice.{by_test}
use Rattle.kinds.specs.Stage as stage
use Rattle.kinds.specs.Reason as reason
use Rattle.kinds.specs.declared.Course.{Course}
use Rattle.kinds.specs.declared.Site.{Site}
use Rattle.kinds.specs.State.{sub_at}
use Rattle.rules.specs.Enlist.{is_mine}
use Rattle.rules.specs.House.{coordinator_of}
use Rattle.rules.specs.Message.{entry_count}
use Rattle.rules.specs.Send.{counts_low}
use Rattle.rules.specs.Live.{place_of, all_heard}
use Rattle.rules.specs.Certify.{concurrent}
use Rattle.rules.specs.Valid.{site_ok, handed_ok}
use Rattle.rules.specs.ValidLaws.{handed_site}
use Rattle.rules.specs.Effect.{Effect, turn_at, refused, changed}
use Rattle.rules.specs.Course.{send_all, abort_step}
use Rattle.rules.specs.Commit.{request_code, commit_code, is_full, is_lost, commit_change, commit_lists, commit_of, abandon_code, abandon_of}
use Rattle.rules.specs.CommitLaws.{commit_full, commit_lost, commit_request, request_lone, request_prepare, lists_kept, lists_lost}
use Rattle.rules.specs.CommitLaws.{lists_made}
use Rattle.rules.specs.CallLaws.{request_clear, commit_clear, abandon_clear}
use Rattle.rules.specs.World.{World, step, site_step}
use Rattle.rules.specs.World as world
use Rattle.rules.specs.Book as book
use Rattle.rules.proofs.Protocol.ProtocolTables.{Protocol}
use Rattle.rules.proofs.Protocol.Protocol.{AtStage}
use Rattle.rules.proofs.Protocol.Invariants.{Invariant}
use Rattle.rules.proofs.Refine.Refines.{Refines}
use Rattle.rules.proofs.Refine.RefineStep.{Follows, told_by, by_code, inside, stays}
use Rattle.rules.proofs.Refine.RefineTurn.{at_place, course_is}
use Rattle.rules.proofs.Refine.RefineActs.{acts_follow}
use Rattle.rules.proofs.Refine.RefineCourse.{heard_here, abort_acts}
use Rattle.rules.proofs.Refine.RefineRequest.{Ready, prepare_acts, lone_commit_acts}

-- Abandon: an abort before the decision.
module _ {house : House} {w : World} {p : Protocol} (r : Refines house w p) (i : Invariant house p) (s : ℕ) (out : List ℕ) (t : ℕ) where
  abbrev here : Site
  here = w.site s

  abbrev spot : ℕ
  spot = place_of here.live t

  abbrev course : Course
  course = (sub_at here spot).course

  abandons : request_code (site_ok here) (length out) spot (is_mine here t) ≡ 0
      → abandon_code course.stage (counts_low here.channels.sent course.mask here.counters.own) ≡ 0
      → Follows house p
      (site_step w s (changed here spot (abort_step (turn_at here spot) reason.abandoned) []) (w.base s) (w.lists s)).world []
  unfolding abort_step send_all
  abandons e f =
      let c = request_clear (site_ok here) (length out) spot (is_mine here t) e in
      let d = abandon_clear course.stage (counts_low here.channels.sent course.mask here.counters.own) f in
      let (l, h) = inside r s c.valid in
      let y = r.site s l h in
      let a = at_place here p s t y.live c.held in
      let (q, k) = abort_acts r.few i (eqb-true _ _ c.coordinator ∙ y.counters.own_is) y a reason.abandoned
      (λ z. eqb-false course.stage stage.decided d.undecided (ap (λ (c : Course). c.stage) (course_is a) ∙ z)) in
      acts_follow r s l h (changed here spot (abort_step (turn_at here spot) reason.abandoned) []) k

  pub abandon_moves : Follows house p (step w (world.abandon s out t)).world []
  unfolding step abandon_of
  abandon_moves =
      by_code (λ e. Follows house p (site_step w s e (w.base s) (w.lists s)).world [])
      (request_code (site_ok here) (length out) spot (is_mine here t)) here [] _
      (λ e. by_code (λ e. Follows house p (site_step w s e (w.base s) (w.lists s)).world [])
      (abandon_code course.stage (counts_low here.channels.sent course.mask here.counters.own)) here []
      (changed here spot (abort_step (turn_at here spot) reason.abandoned) []) (abandons e) (stays r s _ refl refl))
      (stays r s _ refl refl)

-- Commit.
module _ {house : House} {w : World} {p : Protocol} (r : Refines house w p) (i : Invariant house p) (s : ℕ) (out : List ℕ) (t : ℕ) where
  abbrev site : Site
  site = w.site s

  abbrev place : ℕ
  place = place_of site.live t

  abbrev stood : Course
  stood = (sub_at site place).course

  abbrev Goal : Effect → Type 0
  Goal e = Follows house p (site_step w s e (w.base s) e.lent).world (book.commits t e.answer)

  not_full : is_full site place ≡ false → stood.reason ≡ 0
  unfolding is_full
  not_full f = eqb-true _ _ (not-false _ f)

  commits : request_code (handed_ok site (w.lists s)) (length out) place (is_mine site t) ≡ 0
      → commit_code stood.stage (all_heard site.counters.own stood.heard stood.mask)
      (counts_low site.channels.sent stood.mask site.counters.own) ≡ 0
      → Goal (changed site place (commit_change site place) (commit_lists site (w.lists s) place))
  commits e f =
      let c = request_clear (handed_ok site (w.lists s)) (length out) place (is_mine site t) e in
      let d = commit_clear stood.stage (all_heard site.counters.own stood.heard stood.mask)
      (counts_low site.channels.sent stood.mask site.counters.own) f in
      let valid = handed_site site (w.lists s) c.valid in
      let (l, h) = inside r s valid in
      let y = r.site s l h in
      let a = at_place site p s t y.live c.held in
      let k = course_is a in
      let mine : coordinator_of t ≡ s = eqb-true _ _ c.coordinator ∙ y.counters.own_is in
      let active : AtStage p s t stage.active = sym (ap (λ (z : Course). z.stage) k) ∙ d.active in
      let early : AtStage p s t stage.decided → ⊥ = λ z. omega arith in
      by_test (is_full site place)
      (λ full. rw (commit_full site place full, lists_kept site place (w.lists s) full)
      (acts_follow r s l h (changed site place (abort_step (turn_at site place) reason.full) (w.lists s))
      (abort_acts r.few i mine y a reason.full early).1))
      (λ full. by_test (is_lost site place)
      (λ lost. rw (commit_lost site place full lost, lists_lost site place (w.lists s) full lost)
      (acts_follow r s l h (changed site place (abort_step (turn_at site place) reason.uncertain) (w.lists s))
      (abort_acts r.few i mine y a reason.uncertain early).1))
      (λ lost.
      let own = concurrent site place in
      let n = entry_count own in
      let ready : Ready r.few i mine y a valid =
      record {
        active = active;
        heard = heard_here y.counters.own_is k (λ z. z.heard) d.replied;
        joined = sym (ap (λ (z : Course). z.reason) k) ∙ not_full full;
        kept = lost;
      } in
      rw (commit_request site place full lost, lists_made site place (w.lists s) full lost)
      (by_test (all_heard site.counters.own 0 stood.mask)
      (λ lone. rw (request_lone site place own n refl lone)
      (acts_follow r s l h (changed site place _ _)
      (lone_commit_acts r.few l i mine y a valid ready (heard_here y.counters.own_is k (λ z. 0) lone)).1))
      (λ more. rw (request_prepare site place own n refl more)
      (acts_follow r s l h (changed site place _ _) (prepare_acts r.few i mine y a valid ready))))))

  pub commit_moves : let x = step w (world.commit s out t) in
      Follows house p x.world (told_by (world.commit s out t) x.answer x.words)
  unfolding step site_step commit_of
  commit_moves =
      let code = request_code (handed_ok site (w.lists s)) (length out) place (is_mine site t) in
      let late = commit_code stood.stage (all_heard site.counters.own stood.heard stood.mask)
      (counts_low site.channels.sent stood.mask site.counters.own) in
      by_code Goal code site (w.lists s) _
      (λ e. by_code Goal late site (w.lists s)
      (changed site place (commit_change site place) (commit_lists site (w.lists s) place)) (commits e)
      (stays r s (refused late site (w.lists s)) refl refl))
      (stays r s (refused code site (w.lists s)) refl refl)
