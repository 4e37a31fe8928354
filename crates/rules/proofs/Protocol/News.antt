-- What is new in the account after a move: each flag was set before, or is set now, with all that the move's sender had to show.
use Prim.Native.Nat.{ℕ, ◌+◌, ◌<◌}
use mathlib.Core.Path.{◌≡◌, refl}
use mathlib.Core.Bool.{true}
use mathlib.Core.Logic.{◌⊎◌, inl, inr}
use mathlib.Core.List.{List}
use native.Mathlib.Omega.{arith}
use Rattle.kinds.specs.declared.House.{House}
use Rattle.kinds.specs.Stage as stage
use Rattle.kinds.specs.declared.Sub.{Sub}
use Rattle.kinds.specs.State.{no_sub}
use Rattle.rules.specs.House.{coordinator_of, in_mask}
use Rattle.rules.specs.Live.{all_heard}
use Rattle.rules.specs.Course.{with_decision}
use Rattle.rules.proofs.Lists.Tables.{upd_same, upd_other, upd_cases, here₂, upd_both, upd₂_both}
use Rattle.rules.proofs.Protocol.ProtocolTables.{Protocol}
use Rattle.rules.proofs.Protocol.Protocol.{AtStage, course_at, Covers, Certified, Within, Move, begin, enlist, access, request}
use Rattle.rules.proofs.Protocol.Protocol.{abort, cast, decide, install, report, joins, full, joined, prepared, lost, unknown}
use Rattle.rules.proofs.Protocol.Protocol.{gathers}
use Rattle.rules.proofs.Protocol.Protocol.{certified, rejects, votes, commits, aborts, passes}
use Rattle.rules.proofs.Protocol.Invariants.{Held, Invariant}
use Rattle.rules.proofs.Protocol.Frames.{said}

abbrev pub OwnStage : Protocol → ℕ → ℕ → Type 0
OwnStage p t g = AtStage p (coordinator_of t) t g

-- every other participant has replied to t's coordinator
abbrev pub Replies : Protocol → ℕ → Type 0
Replies p t = all_heard (coordinator_of t) (course_at p (coordinator_of t) t).heard (course_at p (coordinator_of t) t).mask ≡ true

-- The flags as they are set now.
abbrev pub AskedNow : Protocol → ℕ → ℕ → Type 0
AskedNow p t mask = OwnStage p t stage.active × Replies p t × ((course_at p (coordinator_of t) t).reason ≡ 0)
    × (mask ≡ (course_at p (coordinator_of t) t).mask)

abbrev pub MadeNow : Protocol → Protocol → ℕ → ℕ → List ℕ → Type 0
MadeNow p q s t es = AtStage p s t stage.active × Covers p s t es × (q.asked t ≡ true) × (in_mask (q.mask t) s ≡ true)

abbrev pub CertedNow : Protocol → ℕ → List ℕ → Type 0
CertedNow p t es = OwnStage p t stage.prepared × Replies p t × Within (p.gathered t) es

abbrev pub YesNow : Protocol → Protocol → ℕ → ℕ → ℕ → Type 0
YesNow p q s t mark = AtStage p s t stage.prepared × Certified p s t (q.cert t) × (mark ≡ p.clock s) × (q.certed t ≡ true)
    × (in_mask (q.mask t) s ≡ true)

abbrev pub NumNow : Protocol → Protocol → ℕ → ℕ → Type 0
NumNow p q t n =
    OwnStage p t stage.queued × Replies p t × (n ≡ p.clock (coordinator_of t) + 1) × OwnStage q t stage.decided
    × ((u : ℕ) → (u ≡ t → ⊥) → q.num u ≡ p.num u)

abbrev pub DeadNow : Protocol → Protocol → ℕ → Type 0
DeadNow p q t = Held p (coordinator_of t) t × (OwnStage p t stage.decided → ⊥) × OwnStage q t stage.free

pub record News (p q : Protocol) : Type 0 where
  pub asked : (t : ℕ) → q.asked t ≡ true → (p.asked t ≡ true) ⊎ AskedNow p t (q.mask t)
  pub made : (s t : ℕ) → q.made s t ≡ true → (p.made s t ≡ true) ⊎ MadeNow p q s t (q.list s t)
  pub certed : (t : ℕ) → q.certed t ≡ true → (p.certed t ≡ true) ⊎ CertedNow p t (q.cert t)
  pub yes : (s t : ℕ) → q.yes s t ≡ true → (p.yes s t ≡ true) ⊎ YesNow p q s t (q.queue_mark s t)
  pub num : (t : ℕ) → 0 < q.num t → (0 < p.num t) ⊎ NumNow p q t (q.num t)
  pub dead : (t : ℕ) → q.dead t ≡ true → (p.dead t ≡ true) ⊎ DeadNow p q t

-- the flags that stay
abbrev same : {A B C D E F : Type 0} {a : A} {b : B} {c : C} {d : D} {e : E} {f : F}
    → (a ≡ a) × (b ≡ b) × (c ≡ c) × (d ≡ d) × (e ≡ e) × (f ≡ f)
same = (refl, refl, refl, refl, refl, refl)

module _ {house : House} {p : Protocol} (i : Invariant house p) where
  quiet : (q : Protocol)
      → (q.asked ≡ p.asked) × (q.made ≡ p.made) × (q.certed ≡ p.certed) × (q.yes ≡ p.yes) × (q.num ≡ p.num)
      × (q.dead ≡ p.dead) → News p q
  quiet q (a, m, c, y, n, d) =
      record {
        asked = λ t e. inl (rw a at e);
        made = λ s t e. inl (rw m at e);
        certed = λ t e. inl (rw c at e);
        yes = λ s t e. inl (rw y at e);
        num = λ t e. inl (rw n at e);
        dead = λ t e. inl (rw d at e);
      }

  -- the coordinator is a participant
  own_in : (s t : ℕ) → coordinator_of t ≡ s → Held p s t → in_mask (course_at p s t).mask s ≡ true
  own_in s t c h = rw c at (i.rounds.own t (rw c h))

  pub news : (q : Protocol) → Move house p q → News p q
  unfolding with_decision no_sub
  news q (begin s t d l m n e) = quiet q same
  news q (enlist s t r c a l m n o) = quiet q same
  news q (access s t b fs a told w f m) = quiet q same
  news q (request s t es c a l r v) =
      let m = (course_at p s t).mask in
      record {
        asked = upd_both (λ u b m. b ≡ true → (p.asked u ≡ true) ⊎ AskedNow p u m) p.asked p.mask t true m
            (λ e. inr (rw c a, rw c l, rw c r, rw c)) (λ u n e. inl e);
        made =
            upd₂_both (λ j u b l. b ≡ true → (p.made j u ≡ true) ⊎ MadeNow p q j u l) p.made p.list s t true es
            (λ e. inr (a, v, upd_same p.asked t true, rw (upd_same p.mask t m) (own_in s t c (λ f. omega arith)))) (λ j u n e. inl e);
        certed = λ u e. inl e;
        yes = λ j u e. inl e;
        num = λ u e. inl e;
        dead = λ u e. inl e;
      }
  news q (abort s t c a d) =
      record {
        asked = λ u e. inl e;
        made = λ j u e. inl e;
        certed = λ u e. inl e;
        yes = λ j u e. inl e;
        num = λ u e. inl e;
        dead =
            upd_cases (λ u b. b ≡ true → (p.dead u ≡ true) ⊎ DeadNow p q u) p.dead t true
            (λ e. inr (rw c a, rw c d, rw c (here₂ (λ (b : Sub). b.course.stage ≡ stage.free) p.live s t no_sub refl)))
            (λ u n e. inl e);
      }
  news q (cast s t es c a l w v) =
      record {
        asked = λ u e. inl e;
        made = λ j u e. inl e;
        certed = upd_both (λ u b l. b ≡ true → (p.certed u ≡ true) ⊎ CertedNow p u l) p.certed p.cert t true es
            (λ e. inr (rw c a, rw c l, w)) (λ u n e. inl e);
        yes =
            upd₂_both (λ j u b m. b ≡ true → (p.yes j u ≡ true) ⊎ YesNow p q j u m) p.yes p.queue_mark s t true (p.clock s)
            (λ e. inr (
              a,
              rw (upd_same p.cert t es) v,
              refl,
              upd_same p.certed t true,
              rw (← (i.courses.mask s t (λ f. omega arith) (λ f. omega arith)).1) (own_in s t c (λ f. omega arith)),
            ))
            (λ j u n e. inl e);
        num = λ u e. inl e;
        dead = λ u e. inl e;
      }
  news q (decide s t c a l) =
      record {
        asked = λ u e. inl e;
        made = λ j u e. inl e;
        certed = λ u e. inl e;
        yes = λ j u e. inl e;
        num =
            upd_cases (λ u n. 0 < n → (0 < p.num u) ⊎ NumNow p q u n) p.num t (p.clock s + 1)
            (λ e. inr (
              rw c a,
              rw c l,
              rw c,
              rw c (here₂ (λ (b : Sub). b.course.stage ≡ stage.decided) p.live s t _ refl),
              upd_other p.num t _,
            )) (λ u n e. inl e);
        dead = λ u e. inl e;
      }
  news q (install s t a l) = quiet q same
  news q (report s n a) = quiet q same
  news q (joins a s t d n f) = quiet q same
  news q (full a s t d r n z) = quiet q same
  news q (joined a s t r n x o) = quiet q same
  news q (prepared a s t n m es x y v) =
      let o = said i x in
      record {
        asked = λ u e. inl e;
        made = upd₂_both (λ j u b l. b ≡ true → (p.made j u ≡ true) ⊎ MadeNow p q j u l) p.made p.list s t true es
            (λ e. inr (y, v, o.1, o.3)) (λ j u n e. inl e);
        certed = λ u e. inl e;
        yes = λ j u e. inl e;
        num = λ u e. inl e;
        dead = λ u e. inl e;
      }
  news q (lost a s t n m r x y z) = quiet q same
  news q (unknown a s t n m r x y z) = quiet q same
  news q (gathers a s t es x y o) = quiet q same
  news q (certified a s t es x y v) =
      let o = said i x in
      record {
        asked = λ u e. inl e;
        made = λ j u e. inl e;
        certed = λ u e. inl e;
        yes =
            upd₂_both (λ j u b m. b ≡ true → (p.yes j u ≡ true) ⊎ YesNow p q j u m) p.yes p.queue_mark s t true (p.clock s)
            (λ e. inr (y, rw o.2 v, refl, o.1, o.3)) (λ j u n e. inl e);
        num = λ u e. inl e;
        dead = λ u e. inl e;
      }
  news q (rejects a s t r es x y z) = quiet q same
  news q (votes a s t n x y o) = quiet q same
  news q (commits a s t n x y) = quiet q same
  news q (aborts a s t x d) = quiet q same
  news q (passes a s n m x) = quiet q same
