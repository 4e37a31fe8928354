-- Messages taken without a reply: JOINED, COMMIT, ABORT, a yes that is not the last, and any for a transaction not held.
use Prim.Native.Nat.{ℕ, ◌≤◌, max}
use mathlib.Core.Path.{◌≡◌, refl, sym, ap, ◌∙◌}
use mathlib.Core.Bool.{true}
use mathlib.Core.List.{List, []}
use native.Mathlib.Omega.{arith}
use lib.Seq.{set-get_or}
use Rattle.kinds.specs.Sizes as sizes
use Rattle.kinds.specs.declared.House.{House}
use Rattle.kinds.specs.Stage as stage
use Rattle.kinds.specs.declared.Course.{Course}
use Rattle.kinds.specs.declared.Site.{Site}
use Rattle.kinds.specs.State.{no_sub, past_sub, sub_at, with_course, with_channels}
use Rattle.rules.specs.Effect.{settle}
use Rattle.rules.specs.Course.{taken_from, raise, quietly, with_sub_of, with_course_of, with_reply, with_decision, is_outstanding}
use Rattle.rules.specs.Deliver.{arrived}
use Rattle.rules.specs.World.{upd}
use Rattle.rules.proofs.Lists.Tables.{upd_same, upd_other, row_other}
use Rattle.rules.proofs.Protocol.ProtocolTables.{Protocol, Msg, m_joined, m_vote, m_commit, m_abort}
use Rattle.rules.proofs.Protocol.Protocol.{Next, AtStage, course_at, with_course_at, with_live}
use Rattle.rules.proofs.Protocol.Protocol.{took, raised, joined, votes, commits, aborts, passes}
use Rattle.rules.proofs.Refine.Refines.{slice_of, SiteIs}
use Rattle.rules.proofs.Refine.RefineTurn.{AtPlace, course_is, site_course, site_gone, decision_stage}
use Rattle.rules.proofs.Refine.RefineActs.{Acts}
use Rattle.rules.proofs.Refine.RefineTake.{took_site, quiet_acts}

pub reply_stage : (c : Course) (a r n : ℕ) → (with_reply c a r n).stage ≡ c.stage
unfolding with_reply
reply_stage c a r n = refl

module _ {house : House} (p : Protocol) (s a : ℕ) {x : Site} {base lists : List ℕ} (few : house.sites ≤ sizes.sites) (low : 1 ≤ a)
    (high : a ≤ house.sites)
    (y : SiteIs house s x base lists (slice_of p s)) where
  -- the clock after a message, as both have it
  pub raised_clock : (n : ℕ) → upd p.clock s (max (p.clock s) n) s ≡ max x.counters.clock n
  raised_clock n = upd_same p.clock s (max (p.clock s) n) ∙ ap (λ (k : ℕ). max k n) (sym y.counters.clock_is)

  -- For a transaction not held.
  pub pass_acts : (m : Msg) → Next p a s m
      → Acts house s p (raised (took p a s) s 0) (with_channels x (taken_from x.channels a)) base lists [] []
  pass_acts m next =
      quiet_acts s a (passes a s 0 m next) (λ j n. upd_other p.clock s (max (p.clock s) 0) j n) refl (λ j n. refl) refl refl refl
      (λ t n. refl)
      (took_site p s a few low high y x.counters.clock (raised_clock 0 ∙ omega arith) refl y)

  module _ {t : ℕ} (place : ℕ) (A : AtPlace x p s t place) where
    pub joined_acts : (r : ℕ) → Next p a s (m_joined t r) → AtStage p s t stage.active → is_outstanding (course_at p s t) a ≡ true
        → Acts house s p (with_course_at (took p a s) s t (with_reply (course_at p s t) a r 0))
        (settle x place (quietly (with_course_of (arrived x place a) (with_reply (sub_at x place).course a r 0))).turn) base lists [] []
    unfolding settle arrived quietly
    joined_acts r next active out =
        let c = with_reply (course_at p s t) a r 0 in
        quiet_acts s a (joined a s t r next active out) (λ j n. refl) refl (λ j n. row_other p.live s t (with_course (p.live s t) c) j n)
        refl refl refl (λ t n. refl)
        (took_site p s a few low high y x.counters.clock (sym y.counters.clock_is) refl
        (site_course y refl A c (with_reply (sub_at x place).course a r 0) (rw (course_is A))
        (λ z e. absurd (omega (arith, reply_stage (course_at p s t) a r 0)))))

    pub commits_acts : (n : ℕ) → Next p a s (m_commit t n) → AtStage p s t stage.queued
        → Acts house s p (with_course_at (raised (took p a s) s n) s t (with_decision (course_at p s t) n))
        (settle x place (quietly (with_course_of (raise (arrived x place a) n) (with_decision (sub_at x place).course n))).turn) base
        lists [] []
    unfolding settle arrived quietly raise
    commits_acts n next queued =
        let c = with_decision (course_at p s t) n in
        quiet_acts s a (commits a s t n next queued) (λ j z. upd_other p.clock s (max (p.clock s) n) j z) refl
        (λ j z. row_other p.live s t (with_course (p.live s t) c) j z) refl refl refl (λ t z. refl)
        (took_site p s a few low high y (max x.counters.clock n) (raised_clock n) refl
        (site_course y refl A c (with_decision (sub_at x place).course n) (rw (course_is A))
        (λ z e. absurd (omega (arith, decision_stage (course_at p s t) n)))))

    pub aborts_acts : Next p a s (m_abort t) → (AtStage p s t stage.decided → ⊥)
        → Acts house s p (with_live (took p a s) s t no_sub) (settle x place (quietly (with_sub_of (arrived x place a) no_sub)).turn) base
        lists [] []
    unfolding settle arrived quietly
    aborts_acts next n =
        quiet_acts s a (aborts a s t next n) (λ j z. refl) refl (λ j z. row_other p.live s t no_sub j z) refl refl refl (λ t z. refl)
        (took_site p s a few low high y x.counters.clock (sym y.counters.clock_is) refl (site_gone y refl A))

    -- a yes, before the decision that the last one brings
    pub votes_acts : (n : ℕ) → Next p a s (m_vote t n 0) → AtStage p s t stage.queued → is_outstanding (course_at p s t) a ≡ true
        → Acts house s p (with_course_at (raised (took p a s) s n) s t (with_reply (course_at p s t) a 0 0))
        (settle x place (with_course_of (raise (arrived x place a) n) (with_reply (sub_at x place).course a 0 0))) base lists [] []
    unfolding settle arrived raise
    votes_acts n next queued out =
        let c = with_reply (course_at p s t) a 0 0 in
        quiet_acts s a (votes a s t n next queued out) (λ j z. upd_other p.clock s (max (p.clock s) n) j z) refl
        (λ j z. row_other p.live s t (with_course (p.live s t) c) j z) refl refl refl (λ t z. refl)
        (took_site p s a few low high y (max x.counters.clock n) (raised_clock n) refl
        (site_course y refl A c (with_reply (sub_at x place).course a 0 0) (rw (course_is A))
        (λ z e. absurd (omega (arith, reply_stage (course_at p s t) a 0 0)))))

    -- any message, before an abort that it brings
    pub raised_acts : (n : ℕ) (m : Msg) → Next p a s m
        → Acts house s p (raised (took p a s) s n) (settle x place (raise (arrived x place a) n)) base lists [] []
    unfolding settle arrived raise
    raised_acts n m next =
        quiet_acts s a (passes a s n m next) (λ j z. upd_other p.clock s (max (p.clock s) n) j z) refl (λ j z. refl) refl refl refl
        (λ t z. refl)
        (rw (set-get_or x.live place past_sub) (took_site p s a few low high y (max x.counters.clock n) (raised_clock n) refl y))
