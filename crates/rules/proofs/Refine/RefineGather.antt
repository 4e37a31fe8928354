-- Messages that the coordinator gathers: VOTE, with the decision or the abort that it brings, and CONC, with the vote on the joined lists.
use Prim.Native.Nat.{ℕ, ◌≤◌, ◌<◌}
use mathlib.Core.Path.{◌≡◌, sym, ap, ◌∙◌}
use mathlib.Core.Bool.{true, not}
use mathlib.Core.Logic.{◌⊎◌, inl, inr, ⊎_elim}
use mathlib.Core.List.{List, [], ◌∷◌}
use native.Mathlib.Omega.{arith}
use borrow.Author.Tests.{eqb-true, eqb-false, not-true}
use lib.Dec.{eqb}
use lib.ListN.{length}
use Rattle.laws.specs.Choice.{every, some, every_at, by_test, some_two}
use Rattle.kinds.specs.Sizes as sizes
use Rattle.kinds.specs.declared.House.{House}
use Rattle.kinds.specs.Stage as stage
use Rattle.kinds.specs.declared.Course.{Course}
use Rattle.kinds.specs.declared.Sub.{Sub}
use Rattle.kinds.specs.declared.Turn.{Turn}
use Rattle.kinds.specs.declared.Site.{Site}
use Rattle.kinds.specs.State.{sub_at, with_course}
use Rattle.rules.specs.Live.{all_heard}
use Rattle.rules.specs.Effect.{settle}
use Rattle.rules.specs.Course.{raise, quietly, with_course_of, with_reply, is_outstanding, abort_step, decide_step, vote_step}
use Rattle.rules.specs.Deliver.{arrived, vote_in_turn}
use Rattle.rules.specs.Book as book
use Rattle.rules.proofs.Lists.Tables.{upd₂_same}
use Rattle.rules.proofs.Protocol.ProtocolTables.{Protocol, m_vote}
use Rattle.rules.proofs.Protocol.Protocol.{Next, AtStage, course_at, with_course_at, took, raised}
use Rattle.rules.proofs.Protocol.Invariants.{Invariant}
use Rattle.rules.proofs.Protocol.Frames.{said}
use Rattle.rules.proofs.Steps.Reached.{invariant_moves}
use Rattle.rules.proofs.Refine.Refines.{IsFree, slice_of, SiteIs}
use Rattle.rules.proofs.Refine.RefineTurn.{AtPlace, course_is, tx_of_lem}
use Rattle.rules.proofs.Refine.RefineActs.{Acts, acts_then, settled_turn, settled_again}
use Rattle.rules.proofs.Refine.RefineCourse.{heard_here, abort_acts, decide_acts, settled_place}
use Rattle.rules.proofs.Refine.RefineQuiet.{reply_stage, votes_acts, raised_acts}

-- What a vote in its turn says.
module _ (c : Course) (a v : ℕ) (e : vote_in_turn c a v ≡ true) where
  vote_stage : (c.stage ≡ stage.queued) ⊎ ((c.stage ≡ stage.prepared) × (v ≡ 0 → ⊥))
  unfolding vote_in_turn
  vote_stage =
      let l = some (eqb c.stage stage.queued ∷ every (eqb c.stage stage.prepared ∷ not (eqb v 0) ∷ []) ∷ [])
      ∷ is_outstanding c a ∷ [] in
      let k = eqb c.stage stage.prepared ∷ not (eqb v 0) ∷ [] in
      ⊎_elim
      (λ (z : eqb c.stage stage.queued ≡ true). inl (eqb-true _ _ z))
      (λ (z : every k ≡ true). inr (eqb-true _ _ (every_at k 0 z), eqb-false v 0 (not-true _ (every_at k 1 z))))
      (some_two _ _ (every_at l 0 e))

  vote_outstanding : is_outstanding c a ≡ true
  unfolding vote_in_turn
  vote_outstanding =
      every_at (some (eqb c.stage stage.queued ∷ every (eqb c.stage stage.prepared ∷ not (eqb v 0) ∷ []) ∷ [])
      ∷ is_outstanding c a ∷ []) 1 e

module _ {house : House} (p : Protocol) (s a : ℕ) {t : ℕ} {x : Site} {base lists : List ℕ} (few : house.sites ≤ sizes.sites) (low : 1 ≤ a)
    (high : a ≤ house.sites)
    (i : Invariant house p) (y : SiteIs house s x base lists (slice_of p s)) (place : ℕ) (A : AtPlace x p s t place) where
  long : place < length x.live
  long = omega (arith, A.spot.low, y.live.size)

  abbrev raised_turn : ℕ → Turn
  raised_turn n = raise (arrived x place a) n

  raised_tx : (n : ℕ) → (raised_turn n).sub.tx ≡ t
  unfolding raise arrived
  raised_tx n = tx_of_lem A

  raised_course : (n : ℕ) → (raised_turn n).sub.course ≡ course_at p s t
  unfolding raise arrived
  raised_course n = course_is A

  -- a no: the first one aborts
  no_acts : (n v : ℕ) → Next p a s (m_vote t n v) → (AtStage p s t stage.free → ⊥) → (AtStage p s t stage.decided → ⊥)
      → (q : Protocol) × Acts house s p q (settle x place (abort_step (raised_turn n) v).turn) base lists (abort_step (raised_turn n) v).words
      (book.commits t (abort_step (raised_turn n) v).answer)
  no_acts n v next held undecided =
      let u = raised_turn n in
      let one = raised_acts p s a few low high y place A n (m_vote t n v) next in
      let mine = (said i next).0 in
      let there = settled_place x place u long A.spot.low one.site (raised_tx n)
      (λ z. held (sym (ap (λ (c : Course). c.stage) (raised_course n)) ∙ z)) in
      let (q, two) = abort_acts few (invariant_moves few one.moves i) mine one.site there v undecided in
      (q, acts_then one (rw (settled_turn x place u long, settled_again x place u (abort_step u v).turn) at two))

  -- a yes: the last one decides
  abbrev heard_turn : ℕ → Turn
  heard_turn n = with_course_of (raised_turn n) (with_reply (sub_at x place).course a 0 0)

  heard_tx : (n : ℕ) → (heard_turn n).sub.tx ≡ t
  unfolding raise arrived
  heard_tx n = tx_of_lem A

  last_acts : (n : ℕ) → Next p a s (m_vote t n 0) → AtStage p s t stage.queued → is_outstanding (course_at p s t) a ≡ true
      → (let c = with_reply (course_at p s t) a 0 0 in all_heard s c.heard c.mask ≡ true)
      → (q : Protocol) × Acts house s p q (settle x place (decide_step (heard_turn n)).turn) base lists (decide_step (heard_turn n)).words
      (book.commits t (decide_step (heard_turn n)).answer)
  last_acts n next queued out all =
      let u = heard_turn n in
      let one = votes_acts p s a few low high y place A n next queued out in
      let c = with_reply (course_at p s t) a 0 0 in
      let p1 = with_course_at (raised (took p a s) s n) s t c in
      let new : course_at p1 s t ≡ c = ap (λ (b : Sub). b.course) (upd₂_same p.live s t (with_course (p.live s t) c)) in
      let queued1 : AtStage p1 s t stage.queued = ap (λ (c : Course). c.stage) new ∙ reply_stage (course_at p s t) a 0 0 ∙ queued in
      let held : (IsFree u.sub → ⊥) =
      λ z. omega (arith, reply_stage (sub_at x place).course a 0 0, ap (λ (c : Course). c.stage) (course_is A)) in
      let there = settled_place x place u long A.spot.low one.site (heard_tx n) held in
      let (q, two) =
      decide_acts few (invariant_moves few one.moves i) (said i next).0 one.site there queued1
      (ap (λ (c : Course). all_heard s c.heard c.mask) new ∙ all) in
      (q, acts_then one (rw (settled_turn x place u long, settled_again x place u (decide_step u).turn) at two))

  pub vote_acts : (n v : ℕ) → Next p a s (m_vote t n v) → vote_in_turn (sub_at x place).course a v ≡ true
      → (q : Protocol)
      × Acts house s p q (settle x place (vote_step (raised_turn n) a v).turn) base lists (vote_step (raised_turn n) a v).words
      (book.commits t (vote_step (raised_turn n) a v).answer)
  unfolding vote_step raise arrived quietly
  vote_acts n v next in_turn =
      let b = (sub_at x place).course in
      let k = course_is A in
      let g = vote_stage b a v in_turn in
      let out : is_outstanding (course_at p s t) a ≡ true = sym (ap (λ (c : Course). is_outstanding c a) k) ∙ vote_outstanding b a v in_turn in
      by_test (eqb v 0)
      (λ e.
      let z : v ≡ 0 = eqb-true v 0 e in
      let next' : Next p a s (m_vote t n 0) = rw z at next in
      let queued : AtStage p s t stage.queued = sym (ap (λ (c : Course). c.stage) k)
      ∙ ⊎_elim (λ (q : b.stage ≡ stage.queued). q) (λ (q : (b.stage ≡ stage.prepared) × (v ≡ 0 → ⊥)). absurd (q.1 z)) g in
      by_test (all_heard x.counters.own (with_reply b a 0 0).heard (with_reply b a 0 0).mask)
      (λ f. rw (e, f)
      (last_acts n next' queued out (heard_here y.counters.own_is (ap (λ (c : Course). with_reply c a 0 0) k) (λ c. c.heard) f)))
      (λ f. rw (e, f) (_, votes_acts p s a few low high y place A n next' queued out)))
      (λ e.
      let st : (b.stage ≡ stage.queued)
      ⊎ (b.stage ≡ stage.prepared) =
      ⊎_elim (λ (q : b.stage ≡ stage.queued). inl q) (λ (q : (b.stage ≡ stage.prepared) × (v ≡ 0 → ⊥)). inr q.0) g in
      rw e (no_acts n v next A.held
      (λ q. let z : b.stage ≡ stage.decided = ap (λ (c : Course). c.stage) k ∙ q in
      ⊎_elim (λ (o : b.stage ≡ stage.queued). omega arith) (λ (o : b.stage ≡ stage.prepared). omega arith) st)))
