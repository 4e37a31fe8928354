-- What a move does to each part and to each log, told once for all groups.
use Prim.Native.Nat.{ℕ, ◌+◌, ◌≤◌, ◌<◌, max}
use mathlib.Core.Path.{◌≡◌, refl}
use mathlib.Core.Bool.{true, false}
use mathlib.Core.List.{List, [], ◌∷◌, ◌++◌}
use native.Mathlib.Omega.{arith}
use lib.ListN.{length, get_or, length-append}
use lib.Seq.{get_or-append_seam}
use Rattle.kinds.specs.declared.House.{House}
use Rattle.kinds.specs.Stage as stage
use Rattle.kinds.specs.declared.Keys.{Keys}
use Rattle.kinds.specs.declared.Sub.{Sub}
use Rattle.kinds.specs.State.{no_sub, no_keys, past_entry}
use Rattle.rules.specs.Keys.{wrote_key}
use Rattle.rules.specs.Course.{new_sub, with_participant, with_reply, with_decision, with_queue_mark, with_request, with_stage}
use Rattle.rules.specs.Install.{entry_of}
use Rattle.rules.proofs.Lists.Tables.{upd₂, upd_same, upd_cases, upd₂_same, upd₂_cases, Other₂, here₂, upd₂_other}
use Rattle.rules.proofs.Protocol.ProtocolTables.{Protocol, Rec, r_part, r_state, parts_of, inst}
use Rattle.rules.proofs.Protocol.Protocol.{AtStage, course_at, LeastQueued, StateAt, Move, begin}
use Rattle.rules.proofs.Protocol.Protocol.{enlist, access, request, abort, cast, decide, install, report, joins, full, joined}
use Rattle.rules.proofs.Protocol.Protocol.{prepared, lost}
use Rattle.rules.proofs.Protocol.Protocol.{unknown, gathers, certified, rejects, votes, commits, aborts, passes}
use Rattle.rules.proofs.Protocol.Invariants.{Held, at, Installed, Invariant}
use Rattle.rules.proofs.Protocol.Frames.{said, new_tx, new_join}
use Rattle.rules.proofs.Steps.StepParts.{parts_append}

-- k was written by no other held part, nor installed after the snapshot
abbrev pub Unwritten : Protocol → ℕ → ℕ → ℕ → Type 0
Unwritten p s t k =
    ((u : ℕ) → (u ≡ t → ⊥) → Held p s u → wrote_key (p.live s u).keys k ≡ false)
    × ((i : ℕ) → (p.live s t).snapshot.installs ≤ i → i < length (inst p s) → wrote_key (at p s i).keys k ≡ false)

-- what the account has of a part
abbrev pub Same : Protocol → Protocol → ℕ → ℕ → Type 0
Same p q s t = (q.has s t ≡ p.has s t) × (q.snap s t ≡ p.snap s t) × (q.keys s t ≡ p.keys s t)

-- The part of t at s, which is b after the move.
pub data Turn (p q : Protocol) (s t : ℕ) (b : Sub) : Type 0 where
  -- neither stage nor number change
  t_stays : Same p q s t → b.course.stage ≡ (course_at p s t).stage → b.course.number ≡ (course_at p s t).number → Turn p q s t b
  -- another stage; a mark or a number that is new is at most the clock
  t_moves : Same p q s t → Held p s t → (AtStage p s t stage.decided → ⊥) → (b.course.stage ≡ stage.free → ⊥)
      → (b.course.stage ≡ stage.queued → q.queue_mark s t ≤ q.clock s) → (b.course.stage ≡ stage.decided → q.num t ≤ q.clock s)
      → Turn p q s t b
  -- a read or a write: of this part alone
  t_reads : q.has s t ≡ p.has s t → q.snap s t ≡ p.snap s t → AtStage p s t stage.active → b.course.stage ≡ stage.active
      → ((u : ℕ) → (u ≡ t → ⊥) → q.keys s u ≡ p.keys s u)
      → ((k : ℕ) → wrote_key (q.keys s t) k ≡ true → wrote_key (p.live s t).keys k ≡ false → Unwritten p s t k) → Turn p q s t b
  -- freed: aborted, or installed
  t_aborts : Same p q s t → (AtStage p s t stage.decided → ⊥) → b.course.stage ≡ stage.free → q.dead t ≡ true → Turn p q s t b
  t_installs : Same p q s t → AtStage p s t stage.decided → b.course.stage ≡ stage.free → Installed q s t → Turn p q s t b
  -- begun, where no part was
  t_begins : (p.has s t ≡ true → ⊥) → q.has s t ≡ true → b.course.stage ≡ stage.active → q.keys s t ≡ no_keys → Turn p q s t b

-- The log of s, which is l after the move.
pub data Logged (p : Protocol) (s : ℕ) (l : List Rec) : Type 0 where
  l_same : l ≡ p.log s → Logged p s l
  l_part : (t : ℕ) → AtStage p s t stage.decided → LeastQueued p s t → l ≡ p.log s ++ (r_part (entry_of (p.live s t)) ∷ []) → Logged p s l
  l_state : (n : ℕ) → StateAt p s n → l ≡ p.log s ++ (r_state n ∷ []) → Logged p s l

-- the last of a log's parts, where it is t's
pub installed_last : (p : Protocol) (s t : ℕ) (l : List Rec) → (p.live s t).tx ≡ t → l ≡ p.log s ++ (r_part (entry_of (p.live s t)) ∷ [])
    → (j : ℕ) × ((j < length (parts_of l)) × ((get_or (parts_of l) j past_entry).tx ≡ t))
unfolding entry_of
installed_last p s t l x e =
    rw (e, parts_append (p.log s) (r_part (entry_of (p.live s t)) ∷ [])) (
      length (inst p s),
      (
        omega (arith, length-append (inst p s) (entry_of (p.live s t) ∷ [])),
        rw (get_or-append_seam (inst p s) (entry_of (p.live s t)) [] past_entry) x,
      ),
    )

module _ {house : House} {p : Protocol} (i : Invariant house p) where
  -- One part changes, to b.
  module _ (q : Protocol) (s t : ℕ) (b : Sub) where
    one : ((j u : ℕ) → Other₂ s t j u → Same p q j u) → Turn p q s t b → (j u : ℕ) → Turn p q j u (upd₂ p.live s t b j u)
    one h new = upd₂_cases (λ j u c. Turn p q j u c) p.live s t b new (λ j u n. t_stays (h j u n) refl refl)

    began : q.has ≡ upd₂ p.has s t true → q.snap ≡ upd₂ p.snap s t (length (inst p s)) → q.keys ≡ upd₂ p.keys s t no_keys
        → (p.has s t ≡ true → ⊥) → b.course.stage ≡ stage.active → (j u : ℕ) → Turn p q j u (upd₂ p.live s t b j u)
    began h n k x a =
        one (λ j u o.
        (rw h (upd₂_other p.has s t _ j u o), rw n (upd₂_other p.snap s t _ j u o), rw k (upd₂_other p.keys s t _ j u o)))
        (t_begins x (rw h (upd₂_same p.has s t true)) a (rw k (upd₂_same p.keys s t no_keys)))

    -- and nothing of the account of parts
    module _ (h : (j u : ℕ) → Same p q j u) where
      stayed : b.course.stage ≡ (course_at p s t).stage → b.course.number ≡ (course_at p s t).number → (j u : ℕ)
          → Turn p q j u (upd₂ p.live s t b j u)
      stayed x y = one (λ j u n. h j u) (t_stays (h s t) x y)

      moved : (1 ≤ (course_at p s t).stage) × ((course_at p s t).stage ≤ stage.queued) × (1 ≤ b.course.stage)
          → (b.course.stage ≡ stage.queued → q.queue_mark s t ≤ q.clock s) → (b.course.stage ≡ stage.decided → q.num t ≤ q.clock s)
          → (j u : ℕ) → Turn p q j u (upd₂ p.live s t b j u)
      moved x y z = one (λ j u n. h j u) (t_moves (h s t) (λ f. omega arith) (λ f. omega arith) (λ f. omega arith) y z)

      aborted : (AtStage p s t stage.decided → ⊥) → b.course.stage ≡ stage.free → q.dead t ≡ true → (j u : ℕ)
          → Turn p q j u (upd₂ p.live s t b j u)
      aborted x y z = one (λ j u n. h j u) (t_aborts (h s t) x y z)

  -- no part changes
  still : (q : Protocol) → ((j u : ℕ) → Same p q j u) → (j u : ℕ) → Turn p q j u (p.live j u)
  still q h j u = t_stays (h j u) refl refl

  none : (j u : ℕ) → Same p p j u
  none j u = (refl, refl, refl)

  pub turns : (q : Protocol) → Move house p q → (s t : ℕ) → Turn p q s t (q.live s t)
  unfolding new_sub with_participant with_reply with_decision with_queue_mark with_request with_stage no_sub
  turns q (begin s t d l m n e) = began q s t _ refl refl refl (new_tx house p s t i.parts n e s) refl
  turns q (enlist s t r c a l m n o) = stayed q s t _ none refl refl
  turns q (access s t b fs a told w f m) =
      one q s t _ (λ j u x. (refl, refl, upd₂_other p.keys s t b j u x))
      (t_reads refl refl a a (λ u n. upd₂_other p.keys s t b s u (λ z. n z.1))
      (here₂ (λ (c : Keys). (k : ℕ) → wrote_key c k ≡ true → wrote_key (p.live s t).keys k ≡ false → Unwritten p s t k) p.keys s t b f))
  turns q (request s t es c a l r v) = moved q s t _ none (omega arith) (omega arith) (omega arith)
  turns q (abort s t c a d) = aborted q s t _ none d refl (upd_same p.dead t true)
  turns q (cast s t es c a l w v) =
      moved q s t _ none (omega arith) (λ f. rw (upd₂_same p.queue_mark s t (p.clock s)) (omega arith)) (omega arith)
  turns q (decide s t c a l) =
      moved q s t _ none (omega arith) (omega arith)
      (λ f. rw (upd_same p.num t (p.clock s + 1), upd_same p.clock s (p.clock s + 1)) (omega arith))
  turns q (install s t a l) =
      one q s t _ (λ j u x. none j u)
      (t_installs (none s t) a refl (installed_last p s t _ (i.parts.tx s t (λ f. omega arith)) (upd_same p.log s _)))
  turns q (report s n a) = still q none
  turns q (joins a s t d n f) = began q s t _ refl refl refl (new_join house p a s t d i.posts n) refl
  turns q (full a s t d r n z) = still q none
  turns q (joined a s t r n x o) = stayed q s t _ none refl refl
  turns q (prepared a s t n m es x y v) = moved q s t _ none (omega arith) (omega arith) (omega arith)
  turns q (lost a s t n m r x y z) = moved q s t _ none (omega arith) (omega arith) (omega arith)
  turns q (unknown a s t n m r x y z) = still q none
  turns q (gathers a s t es x y o) = stayed q s t _ none refl refl
  turns q (certified a s t es x y v) =
      moved q s t _ none (omega arith) (λ f. rw (upd₂_same p.queue_mark s t (p.clock s)) (omega arith)) (omega arith)
  turns q (rejects a s t r es x y z) = moved q s t _ none (omega arith) (omega arith) (omega arith)
  turns q (votes a s t n x y o) = stayed q s t _ none refl refl
  turns q (commits a s t n x y) =
      moved q s t _ none (omega arith) (omega arith) (λ f. rw ((said i x).1, upd_same p.clock s (max (p.clock s) n)) (omega arith))
  turns q (aborts a s t x d) = aborted q s t _ none d refl (said i x).1
  turns q (passes a s n m x) = still q none

  quiet : (s : ℕ) → Logged p s (p.log s)
  quiet s = l_same refl

  pub logs : (q : Protocol) → Move house p q → (s : ℕ) → Logged p s (q.log s)
  logs q (begin s t d l m n e) = quiet
  logs q (enlist s t r c a l m n o) = quiet
  logs q (access s t b fs a told w f m) = quiet
  logs q (request s t es c a l r v) = quiet
  logs q (abort s t c a d) = quiet
  logs q (cast s t es c a l w v) = quiet
  logs q (decide s t c a l) = quiet
  logs q (install s t a l) = upd_cases (Logged p) p.log s _ (l_part t a l refl) (λ j n. quiet j)
  logs q (report s n a) = upd_cases (Logged p) p.log s _ (l_state n a refl) (λ j n. quiet j)
  logs q (joins a s t d n f) = quiet
  logs q (full a s t d r n z) = quiet
  logs q (joined a s t r n x o) = quiet
  logs q (prepared a s t n m es x y v) = quiet
  logs q (lost a s t n m r x y z) = quiet
  logs q (unknown a s t n m r x y z) = quiet
  logs q (gathers a s t es x y o) = quiet
  logs q (certified a s t es x y v) = quiet
  logs q (rejects a s t r es x y z) = quiet
  logs q (votes a s t n x y o) = quiet
  logs q (commits a s t n x y) = quiet
  logs q (aborts a s t x d) = quiet
  logs q (passes a s n m x) = quiet
