-- The joint phase of a transaction t and another participant r: the coordinator's course, r's stage, and what is under way between them.
use Prim.Native.Nat.{ℕ, ◌≤◌, ◌<◌}
use mathlib.Core.Path.{◌≡◌}
use mathlib.Core.Bool.{Bool, true}
use mathlib.Core.Logic.{◌⊎◌}
use mathlib.Core.List.{List, [], ◌∷◌}
use Rattle.kinds.specs.Stage as stage
use Rattle.kinds.specs.declared.Course.{Course}
use Rattle.rules.specs.House.{coordinator_of}
use Rattle.rules.proofs.Protocol.ProtocolTables.{Protocol, Msg, m_join, m_joined, m_prepare, m_conc, m_cert, m_vote, m_commit, m_abort}
use Rattle.rules.proofs.Protocol.Protocol.{course_at}
use Rattle.rules.proofs.Protocol.Invariants.{In}
use Rattle.rules.proofs.Messages.Pending.{pending}

-- the coordinator wants r's reply
abbrev pub Waits : ℕ → Course → Type 0
Waits r c = In c.mask r × (In c.heard r → ⊥)

-- A question of the coordinator's, while it is not yet taken: the coordinator's stage, and r's.
abbrev pub AskedAt : ℕ → Msg → Type 0
AskedAt g (m_join t d) = g ≡ stage.active
AskedAt g (m_joined t v) = ⊥
AskedAt g (m_prepare t n m) = g ≡ stage.prepared
AskedAt g (m_conc t es) = ⊥
AskedAt g (m_cert t es) = g ≡ stage.queued
AskedAt g (m_vote t n v) = ⊥
AskedAt g (m_commit t n) = ⊥
AskedAt g (m_abort t) = ⊥

abbrev pub Ready : ℕ → Msg → Type 0
Ready g (m_join t d) = Unit {0}
Ready g (m_joined t v) = ⊥
Ready g (m_prepare t n m) = g ≡ stage.active
Ready g (m_conc t es) = ⊥
Ready g (m_cert t es) = g ≡ stage.prepared
Ready g (m_vote t n v) = ⊥
Ready g (m_commit t n) = ⊥
Ready g (m_abort t) = ⊥

-- A reply under way: the coordinator's stage k, and r's, g; h where r's part began.
abbrev pub RepliedAt : ℕ → Bool → ℕ → Msg → Type 0
RepliedAt k h g (m_join t d) = ⊥
RepliedAt k h g (m_joined t v) = (k ≡ stage.active) × (h ≡ true → g ≡ stage.active)
RepliedAt k h g (m_prepare t n m) = ⊥
RepliedAt k h g (m_conc t es) = (k ≡ stage.prepared) × (g ≡ stage.prepared)
RepliedAt k h g (m_cert t es) = ⊥
RepliedAt k h g (m_vote t n v) = ((k ≡ stage.queued) × (v ≡ 0 → g ≡ stage.queued)) ⊎ ((k ≡ stage.prepared) × (v ≡ 0 → ⊥))
RepliedAt k h g (m_commit t n) = ⊥
RepliedAt k h g (m_abort t) = ⊥

-- what a reply heard in this round leaves so
abbrev pub Agrees : ℕ → Bool → ℕ → Type 0
Agrees k h g = (k ≡ stage.active → h ≡ true → g ≡ stage.active) × (k ≡ stage.prepared → g ≡ stage.prepared)
    × (k ≡ stage.queued → g ≡ stage.queued)

-- c is the coordinator's course, n the commit number, d where it is aborted; h where r's part began, and g its stage. The lists are what
-- is under way to r, and back.
pub data Phase (t r : ℕ) (c : Course) (n : ℕ) (d h : Bool) (g : ℕ) : List Msg → List Msg → Type 0 where
  -- nothing: r was heard in this round, or was asked nothing, or what was under way was passed by
  idle : (In c.heard r → Agrees c.stage h g) → Phase t r c n d h g [] []
  -- one question, or its reply
  asked : (m : Msg) → Waits r c → AskedAt c.stage m → Ready g m → Phase t r c n d h g (m ∷ []) []
  replied : (m : Msg) → Waits r c → RepliedAt c.stage h g m → Phase t r c n d h g [] (m ∷ [])
  -- COMMIT
  deciding : (k : ℕ) → 0 < n → g ≡ stage.queued → Phase t r c n d h g (m_commit t k ∷ []) []
  -- aborted: ABORT alone, or behind a question, or taken; whatever is under way back is for a transaction not held
  aborting : (b : List Msg) → d ≡ true → Phase t r c n d h g (m_abort t ∷ []) b
  overtaken : (m : Msg) (b : List Msg) → d ≡ true → Ready g m → Phase t r c n d h g (m ∷ m_abort t ∷ []) b
  aborted : (b : List Msg) → d ≡ true → Phase t r c n d h g [] b

-- with t's coordinator at site o
abbrev pub PhaseAt : Protocol → ℕ → ℕ → ℕ → Type 0
PhaseAt p o t r =
    Phase t r (course_at p o t) (p.num t) (p.dead t) (p.has r t) (course_at p r t).stage (pending p.post p.taken t o r)
    (pending p.post p.taken t r o)

abbrev pub Phases : Protocol → Type 0
Phases p = (t r : ℕ) → 1 ≤ r → (r ≡ coordinator_of t → ⊥) → PhaseAt p (coordinator_of t) t r

-- the same phase, of what is the same
pub along : {t r : ℕ} {c c' : Course} {n n' : ℕ} {d d' h h' : Bool} {g g' : ℕ} {f f' b b' : List Msg} → c' ≡ c → n' ≡ n → d' ≡ d → h' ≡ h
    → g' ≡ g → f' ≡ f → b' ≡ b
    → Phase t r c n d h g f b → Phase t r c' n' d' h' g' f' b'
along u v w x y z k i = rw (u, v, w, x, y, z, k) i
