-- The next message of a channel is in its turn: what its phase says of the part that it is for.
use Prim.Native.Nat.{ℕ}
use mathlib.Core.Path.{◌≡◌, refl, sym, ◌∙◌}
use mathlib.Core.Bool.{Bool, true}
use mathlib.Core.Logic.{◌⊎◌, inl, inr}
use mathlib.Core.List.{List, ◌∷◌}
use native.Mathlib.Omega.{arith}
use Rattle.kinds.specs.declared.House.{House}
use Rattle.laws.specs.Choice.{by_test, by_same}
use Rattle.kinds.specs.Stage as stage
use Rattle.kinds.specs.declared.Course.{Course}
use Rattle.rules.specs.House.{coordinator_of, in_mask}
use Rattle.rules.specs.Course.{is_outstanding}
use Rattle.rules.proofs.Protocol.ProtocolTables.{Protocol, Msg, m_join, m_joined, m_prepare, m_conc, m_cert, m_vote, m_commit, m_abort}
use Rattle.rules.proofs.Protocol.Protocol.{Next, AtStage}
use Rattle.rules.proofs.Protocol.Protocol.{course_at, took}
use Rattle.rules.proofs.Protocol.Invariants.{Held, Invariant}
use Rattle.rules.proofs.Protocol.Frames.{said, ends, new_join}
use Rattle.rules.proofs.Refine.Refines.{tx_in}
use Rattle.rules.proofs.Messages.Pending.{pending, taken_first}
use Rattle.rules.proofs.Messages.Phases.{Waits, RepliedAt, Phase, asked, replied, deciding, aborting, overtaken, aborted, Phases}
use Rattle.rules.proofs.Messages.Phases.{along}
use Rattle.rules.proofs.Messages.PhaseTurns.{prepare_held}

-- a reply that the coordinator waits for is outstanding
waits_outstanding : (c : Course) (a : ℕ) → Waits a c → is_outstanding c a ≡ true
unfolding is_outstanding
waits_outstanding c a ((l, e), n) = by_test (in_mask c.heard a) (λ f. absurd (n (l, f))) (λ f. rw (e, f))

module _ {t r : ℕ} {c : Course} {n : ℕ} {d h : Bool} {g : ℕ} where
  -- ahead: r is prepared at CERT, and queued at COMMIT
  cert_held : {f b : List Msg} (es : List ℕ) → Phase t r c n d h g (m_cert t es ∷ f) b → g ≡ stage.prepared
  cert_held es (asked m w a y) = y
  cert_held es (overtaken m b e y) = y

  commit_held : {f b : List Msg} {u : ℕ} (k : ℕ) → Phase t r c n d h g (m_commit u k ∷ f) b → g ≡ stage.queued
  commit_held k (deciding j l e) = e
  commit_held k (asked _ _ a _) = elim a [ ]
  commit_held k (overtaken _ _ _ y) = elim y [ ]

  -- back: the coordinator waits for it, or has aborted
  waits_back : {f b : List Msg} (m : Msg) → (d ≡ true → ⊥) → Phase t r c n d h g f (m ∷ b) → Waits r c × RepliedAt c.stage h g m
  waits_back k z (replied m w a) = (w, a)
  waits_back k z (aborting b e) = absurd (z e)
  waits_back k z (overtaken m b e y) = absurd (z e)
  waits_back k z (aborted b e) = absurd (z e)

module _ {house : House} {p : Protocol} (i : Invariant house p) (f : Phases p) (a s : ℕ) where
  -- the next from a at s stands first
  first : (m : Msg) → Next p a s m → pending p.post p.taken (tx_in m) a s ≡ m ∷ pending p.post (took p a s).taken (tx_in m) a s
  first m n = taken_first p.post p.taken (tx_in m) a s m n.some n.is refl

  ahead : (m : Msg) → Next p a s m → coordinator_of (tx_in m) ≡ a → (s ≡ a → ⊥)
      → (let t = tx_in m in
      Phase t s (course_at p a t) (p.num t) (p.dead t) (p.has s t) (course_at p s t).stage
      (m ∷ pending p.post (took p a s).taken t a s) (pending p.post p.taken t s a))
  ahead m n c o = along refl refl refl refl refl (sym (first m n)) refl (rw c at (f (tx_in m) s (ends i n).1.0 (λ z. o (z ∙ c))))

  back : (m : Msg) → Next p a s m → coordinator_of (tx_in m) ≡ s → (a ≡ s → ⊥)
      → (let t = tx_in m in
      Phase t a (course_at p s t) (p.num t) (p.dead t) (p.has a t) (course_at p a t).stage (pending p.post p.taken t s a)
      (m ∷ pending p.post (took p a s).taken t a s))
  back m n c o = along refl refl refl refl refl refl (sym (first m n)) (rw c at (f (tx_in m) a (ends i n).0.0 (λ z. o (z ∙ c))))

  -- a held transaction is not aborted at its coordinator
  alive : (t : ℕ) → coordinator_of t ≡ s → Held p s t → p.dead t ≡ true → ⊥
  alive t c h d = h (rw c at (i.account.dead t d).1)

  pub join_turn_lem : (t d : ℕ) → Next p a s (m_join t d) → AtStage p s t stage.free
  join_turn_lem t d n =
      by_same (course_at p s t).stage stage.free (λ e. e) (λ h. absurd (new_join house p a s t d i.posts n (i.parts.has s t h)))

  pub joined_turn : (t v : ℕ) → Next p a s (m_joined t v) → Held p s t
      → AtStage p s t stage.active × (is_outstanding (course_at p s t) a ≡ true)
  joined_turn t v n h =
      let o = said i n in
      let (w, k) = waits_back (m_joined t v) (alive t o.0 h) (back (m_joined t v) n o.0 o.1) in
      (k.0, waits_outstanding (course_at p s t) a w)

  pub prepare_turn : (t k m : ℕ) → Next p a s (m_prepare t k m) → AtStage p s t stage.active
  prepare_turn t k m n = let o = said i n in prepare_held k m (ahead (m_prepare t k m) n o.0 o.4)

  pub conc_turn : (t : ℕ) (es : List ℕ) → Next p a s (m_conc t es) → Held p s t
      → AtStage p s t stage.prepared × (is_outstanding (course_at p s t) a ≡ true)
  conc_turn t es n h =
      let o = said i n in
      let (w, k) = waits_back (m_conc t es) (alive t o.0 h) (back (m_conc t es) n o.0 o.1) in
      (k.0, waits_outstanding (course_at p s t) a w)

  pub cert_turn : (t : ℕ) (es : List ℕ) → Next p a s (m_cert t es) → AtStage p s t stage.prepared
  cert_turn t es n = let o = said i n in cert_held es (ahead (m_cert t es) n o.0 o.4)

  pub vote_turn : (t k v : ℕ) → Next p a s (m_vote t k v) → Held p s t
      → (AtStage p s t stage.queued ⊎ (AtStage p s t stage.prepared × (v ≡ 0 → ⊥))) × (is_outstanding (course_at p s t) a ≡ true)
  vote_turn t k v n h =
      let o = said i n in
      let (w, g) = waits_back (m_vote t k v) (alive t o.0 h) (back (m_vote t k v) n o.0 o.1) in
      (stages g, waits_outstanding (course_at p s t) a w)
    where
      stages : RepliedAt (course_at p s t).stage (p.has a t) (course_at p a t).stage (m_vote t k v)
          → AtStage p s t stage.queued ⊎ (AtStage p s t stage.prepared × (v ≡ 0 → ⊥))
      stages (inl z) = inl z.0
      stages (inr z) = inr z

  pub commit_turn : (t k : ℕ) → (s ≡ a → ⊥) → Next p a s (m_commit t k) → AtStage p s t stage.queued
  commit_turn t k o n = commit_held k (ahead (m_commit t k) n (said i n).0 o)

  pub abort_turn : (t : ℕ) → Next p a s (m_abort t) → AtStage p s t stage.decided → ⊥
  abort_turn t n d = omega (arith, (i.account.dead t (said i n).1).0, (i.courses.decided s t d).2)
