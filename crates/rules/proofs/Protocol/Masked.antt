-- The mask of a transaction's coordinator over a move: it grows by sites of the house, and a freed part is never held again.
use Prim.Native.Nat.{ℕ, ◌≤◌}
use mathlib.Core.Path.{◌≡◌, refl, sym, ◌∙◌}
use mathlib.Core.Bool.{true}
use mathlib.Core.Logic.{◌⊎◌, inl, inr}
use native.Mathlib.Omega.{arith}
use lib.Bits.{bit_or}
use Rattle.kinds.specs.declared.House.{House}
use Rattle.kinds.specs.Stage as stage
use Rattle.kinds.specs.declared.Course.{Course}
use Rattle.kinds.specs.declared.Sub.{Sub}
use Rattle.kinds.specs.State.{no_sub, with_course}
use Rattle.rules.specs.House.{coordinator_of, in_mask, mask_of}
use Rattle.rules.specs.Course.{new_sub, with_participant, with_reply, with_decision, with_queue_mark, with_request, with_stage}
use Rattle.rules.proofs.Lists.Tables.{upd₂, upd₂_cases}
use Rattle.rules.proofs.Protocol.ProtocolTables.{Protocol, m_prepare}
use Rattle.rules.proofs.Protocol.Protocol.{Next, course_at, Move, begin, enlist, access, request, abort, cast, decide}
use Rattle.rules.proofs.Protocol.Protocol.{install, report, joins, full, joined, prepared, lost, unknown, gathers, certified}
use Rattle.rules.proofs.Protocol.Protocol.{rejects, votes}
use Rattle.rules.proofs.Protocol.Protocol.{commits, aborts, passes}
use Rattle.rules.proofs.Protocol.Invariants.{Held, In, Invariant}
use Rattle.rules.proofs.Protocol.Frames.{said, new_tx}
use Rattle.rules.proofs.Lists.Masks.{in_or_left, in_more, only_own}

abbrev pub HeldSub : Sub → Type 0
HeldSub b = b.course.stage ≡ stage.free → ⊥

-- from b to c, the part of u at its coordinator j
pub record Masked (house : House) (p : Protocol) (j u : ℕ) (b c : Sub) : Type 0 where
  pub grows : p.has j u ≡ true → HeldSub c → HeldSub b × ((r : ℕ) → in_mask b.course.mask r ≡ true → in_mask c.course.mask r ≡ true)
  pub within : HeldSub c → (r : ℕ) → In c.course.mask r → (HeldSub b × In b.course.mask r) ⊎ (r ≤ house.sites)

abbrev pub MaskedAll : House → Protocol → Protocol → Type 0
MaskedAll house p q = (j u : ℕ) → coordinator_of u ≡ j → Masked house p j u (p.live j u) (q.live j u)

module _ (house : House) (p : Protocol) (i : Invariant house p) where
  same : (j u : ℕ) (b c : Sub) → (HeldSub c → HeldSub b) → c.course.mask ≡ b.course.mask → Masked house p j u b c
  same j u b c h e = record { grows = λ x y. (h y, λ r z. rw e z); within = λ y r z. inl (h y, rw e at z) }

  gone : (j u : ℕ) (b : Sub) → Masked house p j u b no_sub
  unfolding no_sub
  gone j u b = record { grows = λ x y. absurd (y refl); within = λ y r z. absurd (y refl) }

  -- one part changes, perhaps a coordinator's
  one : (s t : ℕ) (b : Sub) → (coordinator_of t ≡ s → Masked house p s t (p.live s t) b) → (j u : ℕ) → coordinator_of u ≡ j
      → Masked house p j u (p.live j u) (upd₂ p.live s t b j u)
  one s t b h =
      upd₂_cases (λ j u c. coordinator_of u ≡ j → Masked house p j u (p.live j u) c) p.live s t b h
      (λ j u n e. same j u _ _ (λ x. x) refl)

  -- a held part's course changes, its mask does not
  course : (s t : ℕ) (c : Course) → Held p s t → c.mask ≡ (course_at p s t).mask → (j u : ℕ) → coordinator_of u ≡ j
      → Masked house p j u (p.live j u) (upd₂ p.live s t (with_course (p.live s t) c) j u)
  course s t c h e = one s t _ (λ o. same s t _ _ (λ x. h) e)

  still : (j u : ℕ) → coordinator_of u ≡ j → Masked house p j u (p.live j u) (p.live j u)
  still j u e = same j u _ _ (λ x. x) refl

  -- PREPARE comes from the coordinator, to another
  elsewhere : (a s t n m : ℕ) (b : Sub) → Next p a s (m_prepare t n m) → coordinator_of t ≡ s → Masked house p s t (p.live s t) b
  elsewhere a s t n m b x e = let o = said i x in absurd (o.4 (sym e ∙ o.0))

  pub masked : (q : Protocol) → Move house p q → MaskedAll house p q
  unfolding new_sub with_participant with_reply with_decision with_queue_mark with_request with_stage
  masked q (begin s t d l m n e) =
      one s t _ (λ o. record {
        grows = λ h x. absurd (new_tx house p s t i.parts n e s h);
        within = λ x r z. inr (let q = only_own s r l z.0 z.1 in omega arith);
      })
  masked q (enlist s t r c a l m n o) =
      one s t _ (λ e. record {
        grows = λ h x. ((λ f. omega arith), λ k z. in_or_left (course_at p s t).mask (mask_of r) k z);
        within = λ x k z. more k z (in_more (course_at p s t).mask r k l z.0 z.1);
      })
    where
      more : (k : ℕ) → In (bit_or (course_at p s t).mask (mask_of r)) k → (in_mask (course_at p s t).mask k ≡ true) ⊎ (k ≡ r)
          → (Held p s t × In (course_at p s t).mask k) ⊎ (k ≤ house.sites)
      more k z (inl e) = inl ((λ f. omega arith), (z.0, e))
      more k z (inr e) = inr (omega arith)
  masked q (access s t b fs a told w f m) = one s t _ (λ o. same s t _ _ (λ x. x) refl)
  masked q (request s t es c a l r v) = course s t _ (λ f. omega arith) refl
  masked q (abort s t c a d) = one s t _ (λ o. gone s t _)
  masked q (cast s t es c a l w v) = course s t _ (λ f. omega arith) refl
  masked q (decide s t c a l) = course s t _ (λ f. omega arith) refl
  masked q (install s t a l) = one s t _ (λ o. gone s t _)
  masked q (report s n a) = still
  masked q (joins a s t d n f) = one s t _ (λ e. let o = said i n in absurd (o.2 (sym e ∙ o.0)))
  masked q (full a s t d r n z) = still
  masked q (joined a s t r n x o) = course s t _ (λ f. omega arith) refl
  masked q (prepared a s t n m es x y v) = one s t _ (elsewhere a s t n m _ x)
  masked q (lost a s t n m r x y z) = one s t _ (elsewhere a s t n m _ x)
  masked q (unknown a s t n m r x y z) = still
  masked q (gathers a s t es x y o) = course s t _ (λ f. omega arith) refl
  masked q (certified a s t es x y v) = course s t _ (λ f. omega arith) refl
  masked q (rejects a s t r es x y z) = course s t _ (λ f. omega arith) refl
  masked q (votes a s t n x y o) = course s t _ (λ f. omega arith) refl
  masked q (commits a s t n x y) = course s t _ (λ f. omega arith) refl
  masked q (aborts a s t x d) = one s t _ (λ o. gone s t _)
  masked q (passes a s n m x) = still
