-- The next message of a channel goes on: by its phase it is in turn, and a PREPARE finds its transaction held.
use Prim.Native.Nat.{ℕ, ◌*◌}
use mathlib.Core.Path.{◌≡◌, refl, sym, ap, ◌∙◌}
use mathlib.Core.Bool.{Bool, true, false}
use mathlib.Core.Logic.{◌⊎◌, inl, inr}
use mathlib.Core.List.{List, [], ◌∷◌}
use native.Mathlib.Omega.{arith}
use borrow.Author.Tests.{eq-eqb, ne_eqb, ltb-false, le-leb}
use lib.Dec.{eqb, leb, ltb}
use lib.ListN.{drop}
use Rattle.laws.specs.Choice.{every, by_test, set_not}
use Rattle.laws.specs.Cause.{other_code}
use Rattle.kinds.specs.Sizes as sizes
use Rattle.kinds.specs.declared.House.{House}
use Rattle.kinds.specs.Stage as stage
use Rattle.kinds.specs.Reason as reason
use Rattle.kinds.specs.Kind as kind
use Rattle.kinds.specs.declared.Course.{Course}
use Rattle.kinds.specs.declared.Site.{Site}
use Rattle.kinds.specs.declared.MessageHead.{MessageHead}
use Rattle.kinds.specs.declared.Answer.{Answer}
use Rattle.kinds.specs.declared.Answer.TheVariants.{Refused}
use Rattle.kinds.specs.State.{sub_at}
use Rattle.rules.proofs.JoinLaws.{join_whole}
use Rattle.rules.specs.Message.{entry_count}
use Rattle.rules.specs.Live.{place_of, free_place, all_heard}
use Rattle.rules.specs.Join.{joined}
use Rattle.rules.specs.Certify.{concurrent, vote_of}
use Rattle.rules.proofs.CertifyLaws.{concurrent_whole}
use Rattle.rules.specs.Answers.{is_refused}
use Rattle.rules.specs.Effect.{Change, Effect, changed, refused, unless}
use Rattle.rules.specs.Course.{head_of, raise, with_reply, is_outstanding}
use Rattle.rules.specs.Deliver.{arrival_causes, arrival_code, next_causes, next_code, arrived, passed, reply_code, spent_to, step_unless}
use Rattle.rules.specs.Deliver.{join_turn, spoken, join_at, take_join, joined_in_turn, take_joined, take_prepare, conc_in_turn, gather_change}
use Rattle.rules.specs.Deliver.{take_conc, take_cert, vote_in_turn, take_vote, take_commit, take_abort, keeping, take_held, take_other}
use Rattle.rules.specs.Deliver.{take_kind}
use Rattle.rules.proofs.Protocol.ProtocolTables.{Protocol, Msg, m_join, m_joined, m_prepare, m_conc, m_cert, m_vote, m_commit, m_abort}
use Rattle.rules.proofs.Protocol.Protocol.{Next, AtStage}
use Rattle.rules.proofs.Protocol.Protocol.{course_at}
use Rattle.rules.proofs.Protocol.Invariants.{Invariant}
use Rattle.rules.proofs.Refine.Refines.{kind_of, tx_in, entries_in, slice_of, SiteIs}
use Rattle.rules.proofs.Refine.RefineStep.{by_code}
use Rattle.rules.proofs.Refine.RefineTurn.{AtPlace, course_is, by_held}
use Rattle.rules.proofs.Refine.RefineMail.{Made, none}
use Rattle.rules.proofs.Refine.RefineMessage.{head_in}
use Rattle.rules.proofs.Messages.Phases.{Phases}
use Rattle.rules.proofs.Messages.InTurn.{join_turn_lem, joined_turn, prepare_turn, conc_turn, cert_turn, vote_turn, commit_turn}
use Rattle.rules.proofs.Messages.InTurn.{abort_turn}
use Rattle.rules.proofs.Messages.Spoken.{Known, Speaks, quietly_speaks, to_speaks, cast_speaks, vote_speaks, prepared_speaks}
use Rattle.rules.proofs.Messages.Spoken.{certified_speaks, vote_known, no_entries}

-- not refused 27, and no VOTE of 5
pub record GoesOn (e : Effect) : Type 0 where
  pub in_turn : e.answer ≡ Refused reason.stage → ⊥
  pub known : Made Known e.words

-- What is accepted, and what is refused with another number.
pub refused_number : (n k : ℕ) → Refused n ≡ Refused k → n ≡ k
refused_number n k e = cc

pub accepted : (a : Answer) → is_refused a ≡ false → a ≡ Refused reason.stage → ⊥
accepted a f e = set_not (is_refused a) (ap is_refused e) f

pub refused_goes : (code : ℕ) (s : Site) (lent : List ℕ) → (code ≡ reason.stage → ⊥) → GoesOn (refused code s lent)
refused_goes code s lent n = record { in_turn = λ e. n (refused_number code reason.stage e); known = none }

pub changed_goes : (s : Site) (place : ℕ) (c : Change) (lent : List ℕ) → Speaks c → GoesOn (changed s place c lent)
changed_goes s place c lent x = record { in_turn = accepted c.answer x.accepts; known = x.known }

spoken_goes : (s : Site) (c : Change) → Speaks c → GoesOn (spoken s c)
unfolding spoken
spoken_goes s c x = record { in_turn = accepted c.answer x.accepts; known = x.known }

keeping_goes : (lists : List ℕ) (e : Effect) → GoesOn e → GoesOn (keeping lists e)
keeping_goes lists e x = record { in_turn = x.in_turn; known = x.known }

passed_goes : (s : Site) (a : ℕ) → GoesOn (passed s a)
unfolding passed
passed_goes s a = record { in_turn = accepted _ refl; known = none }

pub arrival_other : (ok : Bool) (room : ℕ) (fine : Bool) → arrival_code ok room fine ≡ reason.stage → ⊥
unfolding arrival_code
arrival_other ok room fine e = other_code reason.stage (arrival_causes ok room fine) (λ z. omega arith) refl e

pub next_other : (to own channel taken : ℕ) → next_code to own channel taken ≡ reason.stage → ⊥
unfolding next_code
next_other to own channel taken e = other_code reason.stage (next_causes to own channel taken) (λ z. omega arith) refl e

-- in its turn, only a spent channel refuses it
reply_other : (turn spent : Bool) → turn ≡ true → reply_code turn spent ≡ reason.stage → ⊥
unfolding reply_code
reply_other turn spent t e =
    by_test spent (λ x. let z : ◌≡◌ {A = ℕ} reason.spent reason.stage = rw (t, x) at e in omega arith)
    (λ x. let z : ◌≡◌ {A = ℕ} 0 reason.stage = rw (t, x) at e in omega arith)

-- a reply, or its refusal
reply_goes : (turn spent : Bool) (s : Site) (lent : List ℕ) (e : Effect) → turn ≡ true → GoesOn e
    → GoesOn (unless (reply_code turn spent) s lent e)
reply_goes turn spent s lent e t x =
    by_code GoesOn (reply_code turn spent) s lent e (λ z. x) (refused_goes _ s lent (reply_other turn spent t))

both_true : (a b : Bool) → a ≡ true → b ≡ true → every (a ∷ b ∷ []) ≡ true
both_true a b e f = rw (e, f)

vote_in_turn_lem : (c : Course) (a v : ℕ) → (c.stage ≡ stage.queued) ⊎ ((c.stage ≡ stage.prepared) × (v ≡ 0 → ⊥)) → is_outstanding c a ≡ true
    → vote_in_turn c a v ≡ true
unfolding vote_in_turn
vote_in_turn_lem c a v (inl e) o = rw (o, e)
vote_in_turn_lem c a v (inr (e, n)) o = rw (o, e, ne_eqb v 0 n)

-- a list gathered, with the vote that the last one brings
pub gather_speaks : (x : Site) (h : MessageHead) (place : ℕ) (lists : List ℕ) → Speaks (gather_change x h place lists)
unfolding gather_change
gather_speaks x h place lists =
    let c = with_reply (sub_at x place).course h.from 0 h.count in
    by_test (all_heard x.counters.own c.heard c.mask)
    (λ e. rw e (cast_speaks _ _ (joined (drop (sizes.gathered * place) lists) c.listed)
    (join_whole (drop (sizes.gathered * place) lists) c.listed)))
    (λ e. rw e (quietly_speaks _))

module _ {house : House} {p : Protocol} (i : Invariant house p) (f : Phases p) (s a n : ℕ) {x : Site} {base lists : List ℕ}
    (y : SiteIs house s x base lists (slice_of p s)) where
  stage_is : {t place : ℕ} → AtPlace x p s t place → (g : ℕ) → AtStage p s t g → eqb (sub_at x place).course.stage g ≡ true
  stage_is A g e = eq-eqb _ g (ap (λ (c : Course). c.stage) (course_is A) ∙ e)

  outstanding_is : {t place : ℕ} → AtPlace x p s t place → is_outstanding (course_at p s t) a ≡ true
      → is_outstanding (sub_at x place).course a ≡ true
  outstanding_is A e = ap (λ (c : Course). is_outstanding c a) (course_is A) ∙ e

  -- a step at its place, in turn
  step_goes : (turn spent : Bool) (place : ℕ) (c : Change) → turn ≡ true → Speaks c
      → GoesOn (keeping lists (step_unless (reply_code turn spent) x place c))
  step_goes turn spent place c t z = keeping_goes lists _ (reply_goes turn spent x [] _ t (changed_goes x place c [] z))

  pass_goes : GoesOn (keeping lists (passed x a))
  pass_goes = keeping_goes lists _ (passed_goes x a)

  join_goes : (t d : ℕ) → Next p a s (m_join t d) → GoesOn (keeping lists (take_join x (head_in a s n (m_join t d)) (place_of x.live t)))
  unfolding take_join join_at join_turn head_of
  join_goes t d next =
      keeping_goes lists _
      (reply_goes (leb sizes.live (place_of x.live t)) (spent_to x a) x [] _
      (by_held x p s y.live t (λ A e. absurd (A.held (join_turn_lem i f a s t d next)))
      (λ g e. le-leb sizes.live (place_of x.live t) (ltb-false _ _ e)))
      (by_test (ltb (free_place x.live) sizes.live)
      (λ e. rw e (changed_goes x (free_place x.live) _ [] (to_speaks _ kind.joined a 0 0 [] no_entries (λ k. omega arith))))
      (λ e. rw e (spoken_goes x _ (to_speaks _ kind.joined a 0 reason.full [] no_entries (λ k. omega arith))))))

  conc_goes : (t : ℕ) (es : List ℕ) → Next p a s (m_conc t es) → AtPlace x p s t (place_of x.live t)
      → GoesOn (take_conc x (head_in a s n (m_conc t es)) es lists (place_of x.live t))
  unfolding take_conc conc_in_turn head_of
  conc_goes t es next A =
      let (g, o) = conc_turn i f a s t es next A.held in
      reply_goes _ _ x lists _ (both_true _ _ (stage_is A stage.prepared g) (outstanding_is A o))
      (changed_goes x (place_of x.live t) _ _ (gather_speaks x _ _ _))

  pub takes_on : (m : Msg) → Next p a s m → (s ≡ a → ⊥)
      → GoesOn (take_kind (kind_of m) x (head_in a s n m) (entries_in m) lists (place_of x.live (tx_in m)))
  unfolding take_kind take_held take_other head_of take_joined joined_in_turn arrived take_prepare take_commit take_abort take_vote take_cert raise
  takes_on (m_join t d) next o = join_goes t d next
  takes_on (m_joined t v) next o =
      by_held x p s y.live t
      (λ A e. rw e
      (let (g, u) = joined_turn i f a s t v next A.held in
      step_goes _ false (place_of x.live t) _ (both_true _ _ (stage_is A stage.active g) (outstanding_is A u)) (quietly_speaks _)))
      (λ g e. rw e pass_goes)
  takes_on (m_prepare t k mask) next o =
      let g = prepare_turn i f a s t k mask next in
      by_held x p s y.live t
      (λ A e. rw e
      (step_goes _ (spent_to x a) (place_of x.live t) _ (stage_is A stage.active g)
      (prepared_speaks _ a mask _ (concurrent x (place_of x.live t)) (concurrent_whole x (place_of x.live t)))))
      (λ h e. absurd (omega arith))
  takes_on (m_conc t es) next o = by_held x p s y.live t (λ A e. rw e (conc_goes t es next A)) (λ g e. rw e pass_goes)
  takes_on (m_cert t es) next o =
      let g = cert_turn i f a s t es next in
      let place = place_of x.live t in
      by_held x p s y.live t
      (λ A e. rw e
      (step_goes _ (spent_to x a) place _ (stage_is A stage.prepared g)
      (certified_speaks _ a (vote_of x place es (entry_count es)) (vote_known x place es (entry_count es)))))
      (λ h e. rw e pass_goes)
  takes_on (m_vote t k v) next o =
      let place = place_of x.live t in
      by_held x p s y.live t
      (λ A e. rw e
      (let (g, u) = vote_turn i f a s t k v next A.held in
      step_goes (vote_in_turn (sub_at x place).course a v) _ place _
      (vote_in_turn_lem (sub_at x place).course a v (rw (course_is A) g) (outstanding_is A u)) (vote_speaks _ a v)))
      (λ h e. rw e pass_goes)
  takes_on (m_commit t k) next o =
      let g = commit_turn i f a s t k o next in
      by_held x p s y.live t (λ A e. rw e (step_goes _ false (place_of x.live t) _ (stage_is A stage.queued g) (quietly_speaks _)))
      (λ h e. rw e pass_goes)
  takes_on (m_abort t) next o =
      let g = abort_turn i f a s t next in
      by_held x p s y.live t
      (λ A e. rw e
      (step_goes _ false (place_of x.live t) _
      (rw (ne_eqb _ stage.decided (λ z. g (sym (ap (λ (c : Course). c.stage) (course_is A)) ∙ z)))) (quietly_speaks _)))
      (λ h e. rw e pass_goes)
