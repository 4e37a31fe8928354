-- What never changes once it is so: the account only grows, and clocks never fall. And what may be new in it: parts begun, and
-- commits asked for.
use Prim.Native.Nat.{ℕ, ◌+◌, ◌≤◌, ◌<◌}
use mathlib.Core.Path.{◌≡◌, refl}
use mathlib.Core.Bool.{Bool, true, false}
use mathlib.Core.Logic.{◌⊎◌, inl, inr}
use mathlib.Core.List.{List}
use native.Mathlib.Omega.{arith}
use Rattle.kinds.specs.declared.House.{House}
use Rattle.laws.specs.Choice.{set_not}
use Rattle.kinds.specs.Stage as stage
use Rattle.kinds.specs.declared.Keys.{Keys}
use Rattle.kinds.specs.declared.Sub.{Sub}
use Rattle.rules.specs.House.{coordinator_of}
use Rattle.rules.specs.World.{upd}
use Rattle.rules.proofs.Lists.Tables.{upd₂, upd_cases, upd₂_same, upd_both, upd₂_both}
use Rattle.rules.proofs.Protocol.ProtocolTables.{Protocol, Msg, m_join, Rec}
use Rattle.rules.proofs.Protocol.Protocol.{Next, AtStage, course_at, Move, begin, enlist, access, request, abort}
use Rattle.rules.proofs.Protocol.Protocol.{cast, decide, install, report, joins, full, joined, prepared, lost, unknown, gathers}
use Rattle.rules.proofs.Protocol.Protocol.{certified}
use Rattle.rules.proofs.Protocol.Protocol.{rejects, votes, commits, aborts, passes}
use Rattle.rules.proofs.Protocol.Invariants.{Invariant}
use Rattle.rules.proofs.Protocol.Frames.{kept₁, kept₂, was₂, said, tx_coordinator}

-- t's part at s began in the move: at its coordinator, or by its JOIN, taken now
abbrev pub Begins : Protocol → Protocol → ℕ → ℕ → Type 0
Begins p q s t = (coordinator_of t ≡ s)
    ⊎ ((d : ℕ) × Next p (coordinator_of t) s (m_join t d) × (p.taken (coordinator_of t) s < q.taken (coordinator_of t) s))

-- t's commit was asked for in the move
abbrev pub Asks : Protocol → Protocol → ℕ → Type 0
Asks p q t = AtStage p (coordinator_of t) t stage.active × (q.mask t ≡ (course_at p (coordinator_of t) t).mask)

pub record Later (p q : Protocol) : Type 0 where
  pub clock : (s : ℕ) → p.clock s ≤ q.clock s
  pub has : (s t : ℕ) → p.has s t ≡ true → q.has s t ≡ true
  pub asked : (t : ℕ) → p.asked t ≡ true → (q.asked t ≡ true) × (q.mask t ≡ p.mask t)
  pub made : (s t : ℕ) → p.made s t ≡ true → (q.made s t ≡ true) × (q.list s t ≡ p.list s t)
  pub certed : (t : ℕ) → p.certed t ≡ true → (q.certed t ≡ true) × (q.cert t ≡ p.cert t)
  pub yes : (s t : ℕ) → p.yes s t ≡ true → (q.yes s t ≡ true) × (q.queue_mark s t ≡ p.queue_mark s t)
  pub num : (t : ℕ) → 0 < p.num t → q.num t ≡ p.num t
  pub dead : (t : ℕ) → p.dead t ≡ true → q.dead t ≡ true
  pub begins : (s t : ℕ) → q.has s t ≡ true → (p.has s t ≡ true) ⊎ Begins p q s t
  pub asks : (t : ℕ) → q.asked t ≡ true → (p.asked t ≡ true) ⊎ Asks p q t

-- a flag with what it keeps, set where it was not
pub kept_both₁ : {A : Type 0} (f : ℕ → Bool) (g : ℕ → A) (t : ℕ) (a : A) → f t ≡ false → (u : ℕ) → f u ≡ true
    → (upd f t true u ≡ true) × (upd g t a u ≡ g u)
kept_both₁ f g t a n =
    upd_both (λ u b x. f u ≡ true → (b ≡ true) × (x ≡ g u)) f g t true a (λ e. absurd (set_not _ e n)) (λ u z e. (e, refl))

pub kept_both₂ : {A : Type 0} (f : ℕ → ℕ → Bool) (g : ℕ → ℕ → A) (s t : ℕ) (a : A) → f s t ≡ false
    → (j u : ℕ) → f j u ≡ true → (upd₂ f s t true j u ≡ true) × (upd₂ g s t a j u ≡ g j u)
kept_both₂ f g s t a n =
    upd₂_both (λ j u b x. f j u ≡ true → (b ≡ true) × (x ≡ g j u)) f g s t true a (λ e. absurd (set_not _ e n)) (λ j u z e. (e, refl))

-- the clock raised
pub raises : (f : ℕ → ℕ) (s n : ℕ) → f s ≤ n → (j : ℕ) → f j ≤ upd f s n j
raises f s n h = upd_cases (λ j x. f j ≤ x) f s n h (λ j z. omega arith)

-- all but the account: the clock, the sites' tables, and the parts begun
abbrev rest : Protocol
    → (clock serial : ℕ → ℕ) (live : ℕ → ℕ → Sub) (gathered : ℕ → List ℕ) (post : ℕ → ℕ → List Msg) (taken : ℕ → ℕ → ℕ) (log : ℕ → List Rec)
    (has : ℕ → ℕ → Bool) (snap : ℕ → ℕ → ℕ) (keys : ℕ → ℕ → Keys) → Protocol
rest p clock serial live gathered post taken log has snap keys =
    record {
      clock = clock;
      serial = serial;
      live = live;
      gathered = gathered;
      post = post;
      taken = taken;
      log = log;
      has = has;
      snap = snap;
      keys = keys;
      asked = p.asked;
      mask = p.mask;
      made = p.made;
      list = p.list;
      certed = p.certed;
      cert = p.cert;
      yes = p.yes;
      queue_mark = p.queue_mark;
      num = p.num;
      dead = p.dead;
    }

module _ {p : Protocol} {clock serial : ℕ → ℕ} {live : ℕ → ℕ → Sub} {gathered : ℕ → List ℕ} {post : ℕ → ℕ → List Msg} {taken : ℕ → ℕ → ℕ}
    {log : ℕ → List Rec}
    {snap : ℕ → ℕ → ℕ} {keys : ℕ → ℕ → Keys} (c : (s : ℕ) → p.clock s ≤ clock s) where
  -- a move that leaves the account as it is
  quiet : Later p (rest p clock serial live gathered post taken log p.has snap keys)
  quiet =
      record {
        clock = c;
        has = λ s t e. e;
        asked = λ t e. (e, refl);
        made = λ s t e. (e, refl);
        certed = λ t e. (e, refl);
        yes = λ s t e. (e, refl);
        num = λ t e. refl;
        dead = λ t e. e;
        begins = λ j u e. inl e;
        asks = λ u e. inl e;
      }

  -- or has one part more
  begun : (s t : ℕ)
      → (coordinator_of t ≡ s)
      ⊎ ((d : ℕ) × Next p (coordinator_of t) s (m_join t d) × (p.taken (coordinator_of t) s < taken (coordinator_of t) s))
      → Later p (rest p clock serial live gathered post taken log (upd₂ p.has s t true) snap keys)
  begun s t o =
      record {
        clock = c;
        has = kept₂ p.has s t;
        asked = λ t e. (e, refl);
        made = λ s t e. (e, refl);
        certed = λ t e. (e, refl);
        yes = λ s t e. (e, refl);
        num = λ t e. refl;
        dead = λ t e. e;
        begins = λ j u e. go j u (was₂ p.has s t j u e);
        asks = λ u e. inl e;
      }
    where
      go : (j u : ℕ) → ((j ≡ s) × (u ≡ t)) ⊎ (p.has j u ≡ true)
          → (p.has j u ≡ true)
          ⊎ ((coordinator_of u ≡ j)
          ⊎ ((d : ℕ) × Next p (coordinator_of u) j (m_join u d) × (p.taken (coordinator_of u) j < taken (coordinator_of u) j)))
      go j u (inl (x, y)) = rw (x, y) (inr o)
      go j u (inr h) = inl h

module _ (house : House) (p : Protocol) (i : Invariant house p) where
  pub later : (q : Protocol) → Move house p q → Later p q
  later q (begin s t d l m n e) = begun (λ j. omega arith) s t (inl (rw e (tx_coordinator s (p.serial s + 1) (omega arith))))
  later q (enlist s t r c a l m n o) = quiet (λ j. omega arith)
  later q (access s t b fs a told w f m) = quiet (λ j. omega arith)
  later q (request s t es c a l r v) =
      let x : AtStage p (coordinator_of t) t stage.active = rw c a in
      record {
        clock = λ j. omega arith;
        has = λ j u e. e;
        asked = kept_both₁ p.asked p.mask t _ (i.rounds.unasked t x);
        made = kept_both₂ p.made p.list s t es (i.courses.active s t a).0;
        certed = λ u e. (e, refl);
        yes = λ j u e. (e, refl);
        num = λ u e. refl;
        dead = λ u e. e;
        begins = λ j u e. inl e;
        asks = upd_both
            (λ u b m. b ≡ true
            → (p.asked u ≡ true)
            ⊎ (AtStage p (coordinator_of u) u stage.active × (m ≡ (course_at p (coordinator_of u) u).mask))) p.asked p.mask t true _
            (λ e. inr (x, rw c)) (λ u n e. inl e);
      }
  later q (abort s t c a d) =
      record {
        clock = λ j. omega arith;
        has = λ j u e. e;
        asked = λ u e. (e, refl);
        made = λ j u e. (e, refl);
        certed = λ u e. (e, refl);
        yes = λ j u e. (e, refl);
        num = λ u e. refl;
        dead = kept₁ p.dead t;
        begins = λ j u e. inl e;
        asks = λ u e. inl e;
      }
  later q (cast s t es c a l w v) =
      let x : AtStage p (coordinator_of t) t stage.prepared = rw c a in
      record {
        clock = λ j. omega arith;
        has = λ j u e. e;
        asked = λ u e. (e, refl);
        made = λ j u e. (e, refl);
        certed = kept_both₁ p.certed p.cert t es (i.rounds.uncerted t x);
        yes = kept_both₂ p.yes p.queue_mark s t _ (i.courses.prepared s t a).1;
        num = λ u e. refl;
        dead = λ u e. e;
        begins = λ j u e. inl e;
        asks = λ u e. inl e;
      }
  later q (decide s t c a l) =
      let x : AtStage p (coordinator_of t) t stage.queued = rw c a in
      let z : p.num t ≡ 0 = i.rounds.undecided t (λ f. omega arith) (λ f. omega arith) in
      record {
        clock = raises p.clock s _ (omega arith);
        has = λ j u e. e;
        asked = λ u e. (e, refl);
        made = λ j u e. (e, refl);
        certed = λ u e. (e, refl);
        yes = λ j u e. (e, refl);
        num = upd_cases (λ u n. 0 < p.num u → n ≡ p.num u) p.num t _ (λ h. absurd (omega arith)) (λ u n h. refl);
        dead = λ u e. e;
        begins = λ j u e. inl e;
        asks = λ u e. inl e;
      }
  later q (install s t a l) = quiet (λ j. omega arith)
  later q (report s n a) = quiet (λ j. omega arith)
  later q (joins a s t d n f) =
      let o = said i n in
      begun (λ j. omega arith) s t (inr (d, rw o.0 n, rw o.0 (rw (upd₂_same p.taken a s (p.taken a s + 1)) (omega arith))))
  later q (full a s t d r n z) = quiet (λ j. omega arith)
  later q (joined a s t r n x o) = quiet (λ j. omega arith)
  later q (prepared a s t n m es x y v) =
      record {
        clock = raises p.clock s _ (omega arith);
        has = λ j u e. e;
        asked = λ u e. (e, refl);
        made = kept_both₂ p.made p.list s t es (i.courses.active s t y).0;
        certed = λ u e. (e, refl);
        yes = λ j u e. (e, refl);
        num = λ u e. refl;
        dead = λ u e. e;
        begins = λ j u e. inl e;
        asks = λ u e. inl e;
      }
  later q (lost a s t n m r x y z) = quiet (raises p.clock s _ (omega arith))
  later q (unknown a s t n m r x y z) = quiet (raises p.clock s _ (omega arith))
  later q (gathers a s t es x y o) = quiet (λ j. omega arith)
  later q (certified a s t es x y v) =
      record {
        clock = λ j. omega arith;
        has = λ j u e. e;
        asked = λ u e. (e, refl);
        made = λ j u e. (e, refl);
        certed = λ u e. (e, refl);
        yes = kept_both₂ p.yes p.queue_mark s t _ (i.courses.prepared s t y).1;
        num = λ u e. refl;
        dead = λ u e. e;
        begins = λ j u e. inl e;
        asks = λ u e. inl e;
      }
  later q (rejects a s t r es x y z) = quiet (λ j. omega arith)
  later q (votes a s t n x y o) = quiet (raises p.clock s _ (omega arith))
  later q (commits a s t n x y) = quiet (raises p.clock s _ (omega arith))
  later q (aborts a s t x d) = quiet (λ j. omega arith)
  later q (passes a s n m x) = quiet (raises p.clock s _ (omega arith))
