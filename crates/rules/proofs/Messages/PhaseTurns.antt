-- How a phase goes on: one lemma for each thing that the coordinator or the participant may do.
use Prim.Native.Nat.{ℕ, ◌≤◌, ◌<◌}
use mathlib.Core.Path.{◌≡◌, refl}
use mathlib.Core.Bool.{Bool, true}
use mathlib.Core.Logic.{inl, inr}
use mathlib.Core.List.{List, [], ◌∷◌, ◌++◌}
use native.Mathlib.Omega.{arith}
use Rattle.kinds.specs.Stage as stage
use Rattle.kinds.specs.declared.Course.{Course}
use Rattle.rules.proofs.Protocol.ProtocolTables.{Msg, m_join, m_joined, m_prepare, m_conc, m_cert, m_vote, m_commit, m_abort}
use Rattle.rules.proofs.Protocol.Invariants.{In}
use Rattle.rules.proofs.Messages.Phases.{Waits, AskedAt, Ready, RepliedAt, Agrees, Phase, idle, asked, replied, deciding, aborting}
use Rattle.rules.proofs.Messages.Phases.{overtaken}
use Rattle.rules.proofs.Messages.Phases.{aborted}

-- the stages in which the coordinator wants replies
abbrev pub InRound : ℕ → Type 0
InRound k = (1 ≤ k) × (k ≤ stage.queued)

asks_round : (k : ℕ) (m : Msg) → AskedAt k m → InRound k
asks_round k (m_join t d) a = omega arith
asks_round k (m_prepare t n w) a = omega arith
asks_round k (m_cert t es) a = omega arith
asks_round k (m_joined t v) a = elim a [ ]
asks_round k (m_conc t es) a = elim a [ ]
asks_round k (m_vote t n v) a = elim a [ ]
asks_round k (m_commit t n) a = elim a [ ]
asks_round k (m_abort t) a = elim a [ ]

replies_round : (k : ℕ) (h : Bool) (g : ℕ) (m : Msg) → RepliedAt k h g m → InRound k
replies_round k h g (m_joined t v) a = omega (arith, a.0)
replies_round k h g (m_conc t es) a = omega (arith, a.0)
replies_round k h g (m_vote t n v) (inl a) = omega (arith, a.0)
replies_round k h g (m_vote t n v) (inr a) = omega (arith, a.0)
replies_round k h g (m_join t d) a = elim a [ ]
replies_round k h g (m_prepare t n w) a = elim a [ ]
replies_round k h g (m_cert t es) a = elim a [ ]
replies_round k h g (m_commit t n) a = elim a [ ]
replies_round k h g (m_abort t) a = elim a [ ]

-- outside a round nothing is agreed on
pub no_round : (k : ℕ) (h : Bool) (g : ℕ) → (InRound k → ⊥) → Agrees k h g
no_round k h g n = ((λ e. absurd (n (omega arith))), (λ e. absurd (n (omega arith))), λ e. absurd (n (omega arith)))

-- a decided part has taken every question, and gave every reply but a no
ready_left : (g k : ℕ) (m : Msg) → g ≡ stage.decided → Ready g m → Ready k m
ready_left g k (m_join t d) e y = tt
ready_left g k (m_prepare t n w) e y = absurd (omega arith)
ready_left g k (m_cert t es) e y = absurd (omega arith)
ready_left g k (m_joined t v) e y = elim y [ ]
ready_left g k (m_conc t es) e y = elim y [ ]
ready_left g k (m_vote t n v) e y = elim y [ ]
ready_left g k (m_commit t n) e y = elim y [ ]
ready_left g k (m_abort t) e y = elim y [ ]

replies_left : (j : ℕ) (h : Bool) (g k : ℕ) (m : Msg) → g ≡ stage.decided → RepliedAt j h g m → RepliedAt j h k m
replies_left j h g k (m_joined t v) e (a, z) = (a, λ y. absurd (omega (arith, z y)))
replies_left j h g k (m_conc t es) e (a, z) = absurd (omega arith)
replies_left j h g k (m_vote t n v) e (inl (a, z)) = inl (a, λ y. absurd (omega (arith, z y)))
replies_left j h g k (m_vote t n v) e (inr a) = inr a
replies_left j h g k (m_join t d) e a = elim a [ ]
replies_left j h g k (m_prepare t n w) e a = elim a [ ]
replies_left j h g k (m_cert t es) e a = elim a [ ]
replies_left j h g k (m_commit t n) e a = elim a [ ]
replies_left j h g k (m_abort t) e a = elim a [ ]

module _ {t r : ℕ} {c : Course} {n : ℕ} {d h : Bool} {g : ℕ} where
  -- The participant takes the question, and replies.
  pub joins_on : {f b : List Msg} {k : ℕ} → Phase t r c n d h g (m_join t k ∷ f) b
      → Phase t r c n d true stage.active f (b ++ (m_joined t 0 ∷ []))
  joins_on (asked m w a y) = replied (m_joined t 0) w (a, λ e. refl)
  joins_on (overtaken m b e y) = aborting _ e

  pub full_on : {f b : List Msg} {k : ℕ} (v : ℕ) → (h ≡ true → ⊥) → Phase t r c n d h g (m_join t k ∷ f) b
      → Phase t r c n d h g f (b ++ (m_joined t v ∷ []))
  full_on v z (asked m w a y) = replied (m_joined t v) w (a, λ e. absurd (z e))
  full_on v z (overtaken m b e y) = aborting _ e

  pub prepared_on : {f b : List Msg} (k w : ℕ) (es : List ℕ) → Phase t r c n d h g (m_prepare t k w ∷ f) b
      → Phase t r c n d h stage.prepared f (b ++ (m_conc t es ∷ []))
  prepared_on k x es (asked m w a y) = replied (m_conc t es) w (a, refl)
  prepared_on k x es (overtaken m b e y) = aborting _ e

  pub lost_on : {f b : List Msg} (k w u v : ℕ) → (v ≡ 0 → ⊥) → Phase t r c n d h g (m_prepare t k w ∷ f) b
      → Phase t r c n d h stage.rejected f (b ++ (m_vote t u v ∷ []))
  lost_on k x u v z (asked m w a y) = replied (m_vote t u v) w (inr (a, z))
  lost_on k x u v z (overtaken m b e y) = aborting _ e

  pub prepare_held : {f b : List Msg} (k w : ℕ) → Phase t r c n d h g (m_prepare t k w ∷ f) b → g ≡ stage.active
  prepare_held k x (asked m w a y) = y
  prepare_held k x (overtaken m b e y) = y

  pub certified_on : {f b : List Msg} (u : ℕ) (es : List ℕ) → Phase t r c n d h g (m_cert t es ∷ f) b
      → Phase t r c n d h stage.queued f (b ++ (m_vote t u 0 ∷ []))
  certified_on u es (asked m w a y) = replied (m_vote t u 0) w (inl (a, λ e. refl))
  certified_on u es (overtaken m b e y) = aborting _ e

  pub rejects_on : {f b : List Msg} (u v : ℕ) (es : List ℕ) → (v ≡ 0 → ⊥) → Phase t r c n d h g (m_cert t es ∷ f) b
      → Phase t r c n d h stage.rejected f (b ++ (m_vote t u v ∷ []))
  rejects_on u v es z (asked m w a y) = replied (m_vote t u v) w (inl (a, λ e. absurd (z e)))
  rejects_on u v es z (overtaken m b e y) = aborting _ e

  -- COMMIT and ABORT have no reply.
  pub commits_on : {f b : List Msg} {u : ℕ} (k : ℕ) → (0 < n → InRound c.stage → ⊥) → Phase t r c n d h g (m_commit u k ∷ f) b
      → Phase t r c n d h stage.decided f b
  commits_on k z (deciding j l e) = idle (λ x. no_round _ _ _ (z l))
  commits_on k z (asked _ _ a _) = elim a [ ]
  commits_on k z (overtaken _ _ _ y) = elim y [ ]

  pub aborts_on : {f b : List Msg} {u : ℕ} (k : ℕ) → Phase t r c n d h g (m_abort u ∷ f) b → Phase t r c n d h k f b
  aborts_on k (aborting b e) = aborted b e
  aborts_on k (asked _ _ a _) = elim a [ ]
  aborts_on k (overtaken _ _ _ y) = elim y [ ]

  -- A message passed by, at the participant and at the coordinator.
  pub passes_ahead : {f b : List Msg} (m : Msg) → (0 < n → InRound c.stage → ⊥) → Phase t r c n d h g (m ∷ f) b → Phase t r c n d h g f b
  passes_ahead k z (asked m w a y) = idle (λ x. absurd (w.1 x))
  passes_ahead k z (deciding j l e) = idle (λ x. no_round _ _ _ (z l))
  passes_ahead k z (aborting b e) = aborted b e
  passes_ahead k z (overtaken m b e y) = aborting b e

  pub passes_back : {f b : List Msg} (m : Msg) → Phase t r c n d h g f (m ∷ b) → Phase t r c n d h g f b
  passes_back k (replied m w a) = idle (λ x. absurd (w.1 x))
  passes_back k (aborting b e) = aborting _ e
  passes_back k (overtaken m b e y) = overtaken m _ e y
  passes_back k (aborted b e) = aborted _ e

  -- an installed part leaves
  pub installs_on : {f b : List Msg} (k : ℕ) → g ≡ stage.decided → Phase t r c n d h g f b → Phase t r c n d h k f b
  installs_on k e (idle x) =
      idle (λ y. let z = x y in
      ((λ u v. absurd (omega (arith, z.0 u v))), (λ u. absurd (omega (arith, z.1 u))), λ u. absurd (omega (arith, z.2 u))))
  installs_on k e (asked m w a y) = asked m w a (ready_left g k m e y)
  installs_on k e (replied m w a) = replied m w (replies_left c.stage h g k m e a)
  installs_on k e (deciding j l y) = absurd (omega arith)
  installs_on k e (aborting b y) = aborting b y
  installs_on k e (overtaken m b y z) = overtaken m b y (ready_left g k m e z)
  installs_on k e (aborted b y) = aborted b y

  -- The coordinator: a reply heard, which agrees.
  pub heard_on : {f b : List Msg} (m : Msg) (c' : Course) → (RepliedAt c.stage h g m → Agrees c'.stage h g)
      → Phase t r c n d h g f (m ∷ b)
      → Phase t r c' n d h g f b
  heard_on k c' z (replied m w a) = idle (λ x. z a)
  heard_on k c' z (aborting b e) = aborting _ e
  heard_on k c' z (overtaken m b e y) = overtaken m _ e y
  heard_on k c' z (aborted b e) = aborted _ e

  -- another participant's reply heard, or another enlisted
  pub wider_on : {f b : List Msg} (c' : Course) → c'.stage ≡ c.stage → (In c.mask r → In c'.mask r)
      → (In c'.heard r → In c.heard r)
      → Phase t r c n d h g f b → Phase t r c' n d h g f b
  wider_on c' e w l (idle x) = idle (λ y. rw e (x (l y)))
  wider_on c' e w l (asked m v a y) = asked m (w v.0, λ x. v.1 (l x)) (rw e a) y
  wider_on c' e w l (replied m v a) = replied m (w v.0, λ x. v.1 (l x)) (rw e a)
  wider_on c' e w l (deciding j x y) = deciding j x y
  wider_on c' e w l (aborting b y) = aborting b y
  wider_on c' e w l (overtaken m b y z) = overtaken m b y z
  wider_on c' e w l (aborted b y) = aborted b y

  -- outside a round, before and after
  pub rests_on : {f b : List Msg} (c' : Course) → (InRound c.stage → ⊥) → (In c'.heard r → Agrees c'.stage h g)
      → Phase t r c n d h g f b
      → Phase t r c' n d h g f b
  rests_on c' o z (idle x) = idle z
  rests_on c' o z (asked m v a y) = absurd (o (asks_round _ m a))
  rests_on c' o z (replied m v a) = absurd (o (replies_round _ _ _ m a))
  rests_on c' o z (deciding j x y) = deciding j x y
  rests_on c' o z (aborting b y) = aborting b y
  rests_on c' o z (overtaken m b y w) = overtaken m b y w
  rests_on c' o z (aborted b y) = aborted b y

  -- In a round of a transaction neither decided nor aborted.
  module _ (number : n ≡ 0) (alive : d ≡ true → ⊥) where
    -- nothing is written to r, and r is not heard
    pub skips_on : {f b : List Msg} (c' : Course) (n' : ℕ) → (In c.mask r → ⊥) → (In c'.heard r → ⊥) → Phase t r c n d h g f b
        → Phase t r c' n' d h g f b
    skips_on c' n' o z (idle x) = idle (λ y. absurd (z y))
    skips_on c' n' o z (asked m v a y) = absurd (o v.0)
    skips_on c' n' o z (replied m v a) = absurd (o v.0)
    skips_on c' n' o z (deciding j x y) = absurd (omega arith)
    skips_on c' n' o z (aborting b y) = absurd (alive y)
    skips_on c' n' o z (overtaken m b y w) = absurd (alive y)
    skips_on c' n' o z (aborted b y) = absurd (alive y)

    -- JOIN to a new participant
    pub enlists_on : {f b : List Msg} (k : ℕ) (c' : Course) → (In c.mask r → ⊥) → Waits r c' → c'.stage ≡ stage.active
        → Phase t r c n d h g f b
        → Phase t r c' n d h g (f ++ (m_join t k ∷ [])) b
    enlists_on k c' o w e (idle x) = asked (m_join t k) w e tt
    enlists_on k c' o w e (asked m v a y) = absurd (o v.0)
    enlists_on k c' o w e (replied m v a) = absurd (o v.0)
    enlists_on k c' o w e (deciding j x y) = absurd (omega arith)
    enlists_on k c' o w e (aborting b y) = absurd (alive y)
    enlists_on k c' o w e (overtaken m b y z) = absurd (alive y)
    enlists_on k c' o w e (aborted b y) = absurd (alive y)

    -- the next question to a participant that was heard
    pub asks_on : {f b : List Msg} (m : Msg) (c' : Course) → In c.heard r → Waits r c' → AskedAt c'.stage m
        → (Agrees c.stage h g → Ready g m) → Phase t r c n d h g f b
        → Phase t r c' n d h g (f ++ (m ∷ [])) b
    asks_on k c' l w e z (idle x) = asked k w e (z (x l))
    asks_on k c' l w e z (asked m v a y) = absurd (v.1 l)
    asks_on k c' l w e z (replied m v a) = absurd (v.1 l)
    asks_on k c' l w e z (deciding j x y) = absurd (omega arith)
    asks_on k c' l w e z (aborting b y) = absurd (alive y)
    asks_on k c' l w e z (overtaken m b y u) = absurd (alive y)
    asks_on k c' l w e z (aborted b y) = absurd (alive y)

    pub decides_on : {f b : List Msg} (k : ℕ) (c' : Course) → In c.heard r → c.stage ≡ stage.queued → 0 < k → Phase t r c n d h g f b
        → Phase t r c' k d h g (f ++ (m_commit t k ∷ [])) b
    decides_on k c' l e z (idle x) = deciding k z ((x l).2 e)
    decides_on k c' l e z (asked m v a y) = absurd (v.1 l)
    decides_on k c' l e z (replied m v a) = absurd (v.1 l)
    decides_on k c' l e z (deciding j x y) = absurd (omega arith)
    decides_on k c' l e z (aborting b y) = absurd (alive y)
    decides_on k c' l e z (overtaken m b y u) = absurd (alive y)
    decides_on k c' l e z (aborted b y) = absurd (alive y)

    -- ABORT to a participant, or none to another
    pub ends_on : {f b : List Msg} (c' : Course) → Phase t r c n d h g f b → Phase t r c' n true h g (f ++ (m_abort t ∷ [])) b
    ends_on c' (idle x) = aborting [] refl
    ends_on c' (asked m v a y) = overtaken m [] refl y
    ends_on c' (replied m v a) = aborting (m ∷ []) refl
    ends_on c' (deciding j x y) = absurd (omega arith)
    ends_on c' (aborting b y) = absurd (alive y)
    ends_on c' (overtaken m b y u) = absurd (alive y)
    ends_on c' (aborted b y) = absurd (alive y)

    pub ends_apart : {f b : List Msg} (c' : Course) → (In c.mask r → ⊥) → Phase t r c n d h g f b → Phase t r c' n true h g f b
    ends_apart c' o (idle x) = aborted [] refl
    ends_apart c' o (asked m v a y) = absurd (o v.0)
    ends_apart c' o (replied m v a) = absurd (o v.0)
    ends_apart c' o (deciding j x y) = absurd (omega arith)
    ends_apart c' o (aborting b y) = absurd (alive y)
    ends_apart c' o (overtaken m b y u) = absurd (alive y)
    ends_apart c' o (aborted b y) = absurd (alive y)
