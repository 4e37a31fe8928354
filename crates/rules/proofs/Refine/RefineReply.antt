-- Messages that a participant answers: JOIN, PREPARE and CERT.
use Prim.Native.Nat.{ℕ, ◌≤◌, max}
use mathlib.Core.Path.{◌≡◌, refl, sym, ap, ◌∙◌}
use mathlib.Core.Bool.{Bool, false}
use mathlib.Core.List.{List, [], ◌∷◌}
use native.Mathlib.Omega.{arith}
use borrow.Author.Tests.{eqb-true, eqb-false}
use lib.Dec.{eqb}
use lib.ListN.{length}
use Rattle.laws.specs.Choice.{by_test}
use Rattle.kinds.specs.Sizes as sizes
use Rattle.kinds.specs.declared.House.{House}
use Rattle.kinds.specs.Stage as stage
use Rattle.kinds.specs.Reason as reason
use Rattle.kinds.specs.Kind as kind
use Rattle.kinds.specs.declared.Course.{Course}
use Rattle.kinds.specs.declared.Turn.{Turn}
use Rattle.kinds.specs.declared.Site.{Site}
use Rattle.kinds.specs.State.{sub_at, with_course}
use Rattle.rules.specs.House.{coordinator_of}
use Rattle.rules.specs.Effect.{Change, settle}
use Rattle.rules.specs.CourseLaws.{no_entries}
use Rattle.rules.specs.Course.{new_sub, taken_from, send_to, raise, with_course_of, with_stage, with_queue_mark, prepared_step, certified_step}
use Rattle.rules.specs.Deliver.{arrived}
use Rattle.rules.specs.World.{upd}
use Rattle.rules.specs.Book as book
use Rattle.rules.proofs.Lists.Tables.{upd_other, row_same, row_other}
use Rattle.rules.proofs.Protocol.ProtocolTables.{Protocol, m_join, m_joined, m_prepare, m_conc, m_cert, m_vote}
use Rattle.rules.proofs.Protocol.Protocol.{Next, AtStage, course_at, Covers}
use Rattle.rules.proofs.Protocol.ProtocolTables.{inst}
use Rattle.rules.proofs.Protocol.Protocol.{Certified, joins, full, prepared, lost, unknown, certified, rejects}
use Rattle.rules.proofs.Refine.Refines.{IsFree, slice_of, SiteIs}
use Rattle.rules.proofs.Refine.RefineLive.{Spot}
use Rattle.rules.proofs.Refine.RefineSite.{site_sub, new_sub_lem, new_stage}
use Rattle.rules.proofs.Refine.RefineTurn.{AtPlace, course_is, site_course, mark_stage, tx_of_lem}
use Rattle.rules.proofs.Refine.RefineActs.{Acts}
use Rattle.rules.proofs.Refine.RefineTake.{reply_site, reply_made, reply_acts}
use Rattle.rules.proofs.Refine.RefineQuiet.{raised_clock}

stage_is : (c : Course) (mask g : ℕ) → (with_stage c mask g).stage ≡ g
unfolding with_stage
stage_is c mask g = refl

-- a turn without a part of its own: the count stepped, and the transaction named
abbrev pub named_turn : Site → ℕ → ℕ → ℕ → Turn
named_turn x a t d = record { counters = x.counters; channels = taken_from x.channels a; sub = new_sub t d 0 x.counters.installs }

-- a site with a turn's counters and channels
abbrev pub spoken_site : Site → Change → Site
spoken_site x c =
    record { house = x.house; counters = c.turn.counters; channels = c.turn.channels; live = x.live; history = x.history }

module _ {house : House} (p : Protocol) (s a t : ℕ) {x : Site} {base lists : List ℕ} (few : house.sites ≤ sizes.sites) (low : 1 ≤ a)
    (high : a ≤ house.sites)
    (y : SiteIs house s x base lists (slice_of p s)) where
  -- JOIN: the part begins, or is answered 12.
  abbrev begins : ℕ → Change
  begins d = send_to (named_turn x a t d) kind.joined a 0 0 []

  pub joins_acts : (d free : ℕ) → Spot x.live free t → Next p a s (m_join t d) → IsFree (p.live s t)
      → (q : Protocol) × Acts house s p q (settle x free (begins d).turn) base lists (begins d).words (book.began s t ∷ [])
  unfolding settle send_to
  joins_acts d free spot next gone =
      let m = m_joined t 0 in
      let b = new_sub t d 0 (length (inst p s)) in
      let n : new_sub t d 0 x.counters.installs ≡ b = ap (new_sub t d 0) y.counters.installs_are in (
        _,
        reply_acts s a (joins a s t d next gone) (λ j z. refl) refl (λ j z. row_other p.live s t b j z) refl refl m refl refl
            (reply_site p s a few low high y m x.counters.clock (sym y.counters.clock_is) refl
            (site_sub y free t (new_sub t d 0 x.counters.installs) spot (λ z. new_sub_lem t d 0 x.counters.installs)
            (λ z c. omega (arith, new_stage t d 0 x.counters.installs))
            (row_same p.live s t b ∙ ap (upd (p.live s) t) (sym n))))
            (reply_made p s a few low high y (named_turn x a t d) m refl refl (new_sub_lem t d 0 x.counters.installs).0 no_entries.0),
      )

  pub full_acts : (d r : ℕ) → (r ≡ 0 → ⊥) → Next p a s (m_join t d)
      → (let c = send_to (named_turn x a t d) kind.joined a 0 r [] in
      (q : Protocol) × Acts house s p q (spoken_site x c) base lists c.words [])
  unfolding send_to
  full_acts d r some next =
      let m = m_joined t r in (
        _,
        reply_acts s a (full a s t d r next some) (λ j z. refl) refl (λ j z. refl) refl refl m refl refl
            (reply_site p s a few low high y m x.counters.clock (sym y.counters.clock_is) refl y)
            (reply_made p s a few low high y (named_turn x a t d) m refl refl (new_sub_lem t d 0 x.counters.installs).0 no_entries.0),
      )

  -- PREPARE for a transaction not held: voted no.
  pub unknown_acts : (d n mask r : ℕ) → (r ≡ 0 → ⊥) → Next p a s (m_prepare t n mask) → IsFree (p.live s t)
      → (let u = raise (named_turn x a t d) n in let c = send_to u kind.vote a u.counters.clock r [] in
      (q : Protocol) × Acts house s p q (spoken_site x c) base lists c.words [])
  unfolding send_to raise
  unknown_acts d n mask r some next gone =
      let m = m_vote t (max (p.clock s) n) r in
      let u = raise (named_turn x a t d) n in
      let same : send_to u kind.vote a u.counters.clock r [] ≡ send_to u kind.vote a (max (p.clock s) n) r [] =
      ap (λ (z : ℕ). send_to u kind.vote a (max z n) r []) y.counters.clock_is in (
        _,
        reply_acts s a (unknown a s t n mask r next gone some) (λ j z. upd_other p.clock s (max (p.clock s) n) j z) refl (λ j z. refl)
            refl refl m refl refl
            (reply_site p s a few low high y m (max x.counters.clock n) (raised_clock p s a few low high y n) refl y)
            (rw (ap (λ (c : Change). c.words) same)
            (reply_made p s a few low high y u m refl refl (new_sub_lem t d 0 x.counters.installs).0 no_entries.0)),
      )

  module _ (place : ℕ) (A : AtPlace x p s t place) where
    -- PREPARE: voted 19 where an install after the snapshot is forgotten, else answered by the list.
    abbrev raised_turn : ℕ → Turn
    raised_turn n = raise (arrived x place a) n

    prepared_one : (n mask : ℕ) (es : List ℕ) → Next p a s (m_prepare t n mask) → AtStage p s t stage.active → (coordinator_of t ≡ s → ⊥)
        → Covers p s t es
        → (let c = send_to (with_course_of (raised_turn n) (with_stage (raised_turn n).sub.course mask stage.prepared)) kind.conc a 0 0 es in
        (q : Protocol) × Acts house s p q (settle x place c.turn) base lists c.words [])
    unfolding settle send_to raise arrived
    prepared_one n mask es next active apart covers =
        let m = m_conc t es in
        let c = with_stage (course_at p s t) mask stage.prepared in
        let d = with_stage (sub_at x place).course mask stage.prepared in
        let u = with_course_of (raised_turn n) d in (
          _,
          reply_acts s a (prepared a s t n mask es next active covers) (λ j z. upd_other p.clock s (max (p.clock s) n) j z) refl
              (λ j z. row_other p.live s t (with_course (p.live s t) c) j z) refl refl m refl refl
              (reply_site p s a few low high y m (max x.counters.clock n) (raised_clock p s a few low high y n) refl
              (site_course y refl A c d (rw (course_is A)) (λ z e. apart e)))
              (reply_made p s a few low high y u m refl refl (tx_of_lem A) covers.whole),
        )

    lost_one : (n mask r : ℕ) → (r ≡ 0 → ⊥) → Next p a s (m_prepare t n mask) → AtStage p s t stage.active
        → (let c = send_to (with_course_of (raised_turn n) (with_stage (raised_turn n).sub.course mask stage.rejected)) kind.vote a
        (raised_turn n).counters.clock r [] in
        (q : Protocol) × Acts house s p q (settle x place c.turn) base lists c.words [])
    unfolding settle send_to raise arrived
    lost_one n mask r some next active =
        let m = m_vote t (max (p.clock s) n) r in
        let c = with_stage (course_at p s t) mask stage.rejected in
        let d = with_stage (sub_at x place).course mask stage.rejected in
        let u = with_course_of (raised_turn n) d in
        let same : send_to u kind.vote a (raised_turn n).counters.clock r [] ≡ send_to u kind.vote a (max (p.clock s) n) r [] =
        ap (λ (z : ℕ). send_to u kind.vote a (max z n) r []) y.counters.clock_is in (
          _,
          reply_acts s a (lost a s t n mask r next active some) (λ j z. upd_other p.clock s (max (p.clock s) n) j z) refl
              (λ j z. row_other p.live s t (with_course (p.live s t) c) j z) refl refl m refl refl
              (reply_site p s a few low high y m (max x.counters.clock n) (raised_clock p s a few low high y n) refl
              (site_course y refl A c d (rw (course_is A)) (λ z e. omega (arith, stage_is (course_at p s t) mask stage.rejected))))
              (rw (ap (λ (c : Change). c.words) same) (reply_made p s a few low high y u m refl refl (tx_of_lem A) no_entries.0)),
        )

    pub prepared_acts : (n mask : ℕ) (gone : Bool) (es : List ℕ) → Next p a s (m_prepare t n mask) → AtStage p s t stage.active
        → (coordinator_of t ≡ s → ⊥)
        → (gone ≡ false → Covers p s t es)
        → (let c = prepared_step (raised_turn n) a mask gone es in
        (q : Protocol) × Acts house s p q (settle x place c.turn) base lists c.words (book.commits t c.answer))
    unfolding prepared_step send_to
    prepared_acts n mask gone es next active apart covers =
        by_test gone
        (λ l. rw l (lost_one n mask reason.uncertain (λ z. omega arith) next active))
        (λ l. rw l (prepared_one n mask es next active apart (covers l)))

    -- CERT: it votes.
    yes_one : (es : List ℕ) → Next p a s (m_cert t es) → AtStage p s t stage.prepared → Certified p s t es
        → (let u = arrived x place a in
        let c = send_to (with_course_of u (with_queue_mark u.sub.course u.counters.clock)) kind.vote a u.counters.clock 0 [] in
        (q : Protocol) × Acts house s p q (settle x place c.turn) base lists c.words [])
    unfolding settle send_to arrived
    yes_one es next g v =
        let m = m_vote t (p.clock s) 0 in
        let c = with_queue_mark (course_at p s t) (p.clock s) in
        let d = with_queue_mark (sub_at x place).course x.counters.clock in
        let u = with_course_of (arrived x place a) d in
        let same : send_to u kind.vote a x.counters.clock 0 [] ≡ send_to u kind.vote a (p.clock s) 0 [] =
        ap (λ (z : ℕ). send_to u kind.vote a z 0 []) y.counters.clock_is in (
          _,
          reply_acts s a (certified a s t es next g v) (λ j z. refl) refl (λ j z. row_other p.live s t (with_course (p.live s t) c) j z)
              refl refl m refl refl
              (reply_site p s a few low high y m x.counters.clock (sym y.counters.clock_is) refl
              (site_course y refl A c d (rw (course_is A, y.counters.clock_is))
              (λ z e. omega (arith, mark_stage (course_at p s t) (p.clock s)))))
              (rw (ap (λ (c : Change). c.words) same) (reply_made p s a few low high y u m refl refl (tx_of_lem A) no_entries.0)),
        )

    no_one : (es : List ℕ) (r : ℕ) → (r ≡ 0 → ⊥) → Next p a s (m_cert t es) → AtStage p s t stage.prepared
        → (let u = arrived x place a in
        let c = send_to (with_course_of u (with_stage u.sub.course u.sub.course.mask stage.rejected)) kind.vote a
        u.counters.clock r [] in
        (q : Protocol) × Acts house s p q (settle x place c.turn) base lists c.words [])
    unfolding settle send_to arrived
    no_one es r some next g =
        let m = m_vote t (p.clock s) r in
        let c = with_stage (course_at p s t) (course_at p s t).mask stage.rejected in
        let d = with_stage (sub_at x place).course (sub_at x place).course.mask stage.rejected in
        let u = with_course_of (arrived x place a) d in
        let same : send_to u kind.vote a x.counters.clock r [] ≡ send_to u kind.vote a (p.clock s) r [] =
        ap (λ (z : ℕ). send_to u kind.vote a z r []) y.counters.clock_is in (
          _,
          reply_acts s a (rejects a s t r es next g some) (λ j z. refl) refl
              (λ j z. row_other p.live s t (with_course (p.live s t) c) j z) refl refl m refl refl
              (reply_site p s a few low high y m x.counters.clock (sym y.counters.clock_is) refl
              (site_course y refl A c d (rw (course_is A))
              (λ z e. omega (arith, stage_is (course_at p s t) (course_at p s t).mask stage.rejected))))
              (rw (ap (λ (c : Change). c.words) same) (reply_made p s a few low high y u m refl refl (tx_of_lem A) no_entries.0)),
        )

    pub certified_acts : (es : List ℕ) (v : ℕ) → Next p a s (m_cert t es) → AtStage p s t stage.prepared → (v ≡ 0 → Certified p s t es)
        → (let c = certified_step (arrived x place a) a v in
        (q : Protocol) × Acts house s p q (settle x place c.turn) base lists c.words (book.commits t c.answer))
    unfolding certified_step send_to
    certified_acts es v next g f =
        by_test (eqb v 0)
        (λ e. rw e (yes_one es next g (f (eqb-true v 0 e))))
        (λ e. rw e (no_one es v (eqb-false v 0 e) next g))
