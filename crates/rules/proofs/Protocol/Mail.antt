-- Messages over a move: each channel has at most one more, which says what is so after the move, and at most one more is taken.
use Prim.Native.Nat.{ℕ, ◌+◌, ◌≤◌}
use mathlib.Core.Path.{◌≡◌, refl}
use mathlib.Core.Bool.{true, false}
use mathlib.Core.Logic.{◌⊎◌, inl, inr}
use mathlib.Core.List.{List, [], ◌∷◌, ◌++◌}
use native.Mathlib.Omega.{arith}
use lib.ListN.{length}
use Rattle.kinds.specs.declared.House.{House}
use Rattle.laws.specs.Choice.{set_not}
use Rattle.kinds.specs.Stage as stage
use Rattle.rules.specs.House.{coordinator_of, in_mask, mask_of}
use Rattle.rules.specs.Course.{with_participant}
use Rattle.rules.proofs.Lists.Tables.{upd₂, upd_same, upd₂_same, upd₂_cases, here₂}
use Rattle.rules.proofs.Protocol.ProtocolTables.{Protocol, Msg, m_join, m_joined, m_prepare, m_conc, m_cert, m_vote, m_commit, m_abort}
use Rattle.rules.proofs.Protocol.Protocol.{Next, others}
use Rattle.rules.proofs.Protocol.Protocol.{AtStage, course_at, Move, begin, enlist, access, request, abort, cast, decide, install}
use Rattle.rules.proofs.Protocol.Protocol.{report}
use Rattle.rules.proofs.Protocol.Protocol.{joins, full, joined, prepared, lost, unknown, gathers, certified, rejects, votes, commits}
use Rattle.rules.proofs.Protocol.Protocol.{aborts}
use Rattle.rules.proofs.Protocol.Protocol.{passes}
use Rattle.rules.proofs.Protocol.Invariants.{Held, MsgOk, Invariant}
use Rattle.rules.proofs.Protocol.Frames.{others_cases, said, ends}
use Rattle.rules.proofs.Lists.Masks.{in_or_right, own_mask}

abbrev pub Site : House → ℕ → Type 0
Site house a = (1 ≤ a) × (a ≤ house.sites)

-- a JOIN goes to a site that was no participant before, for the desk of its sender's part
abbrev pub FirstJoin : Protocol → ℕ → ℕ → Msg → Type 0
FirstJoin p a b (m_join t d) = Held p a t × (in_mask (course_at p a t).mask b ≡ false) × (d ≡ (p.live a t).desk)
FirstJoin p a b (m_joined t r) = Unit {0}
FirstJoin p a b (m_prepare t n m) = Unit {0}
FirstJoin p a b (m_conc t es) = Unit {0}
FirstJoin p a b (m_cert t es) = Unit {0}
FirstJoin p a b (m_vote t n r) = Unit {0}
FirstJoin p a b (m_commit t n) = Unit {0}
FirstJoin p a b (m_abort t) = Unit {0}

-- a message that may be written from a to b in the move
abbrev pub Fit : House → Protocol → Protocol → ℕ → ℕ → Msg → Type 0
Fit house p q a b m = MsgOk house q a b m × (Site house a × Site house b) × FirstJoin p a b m

abbrev pub Grown : (Msg → Type 0) → List Msg → List Msg → Type 0
Grown P l k = (k ≡ l) ⊎ ((m : Msg) × (k ≡ l ++ (m ∷ [])) × P m)

abbrev pub Mail : House → Protocol → Protocol → Type 0
Mail house p q = (a b : ℕ) → Grown (Fit house p q a b) (p.post a b) (q.post a b)

module _ (house : House) (p : Protocol) (i : Invariant house p) where
  none : (q : Protocol) (a b : ℕ) → Grown (Fit house p q a b) (p.post a b) (p.post a b)
  none q a b = inl refl

  one : (q : Protocol) (s r : ℕ) (m : Msg) → Fit house p q s r m → (a b : ℕ)
      → Grown (Fit house p q a b) (p.post a b) (upd₂ p.post s r (p.post s r ++ (m ∷ [])) a b)
  one q s r m f = upd₂_cases (λ a b l. Grown (Fit house p q a b) (p.post a b) l) p.post s r _ (inr (m, refl, f)) (λ a b n. inl refl)

  -- the coordinator of a held part, and another participant
  coordinator_sites : (s t j : ℕ) → coordinator_of t ≡ s → Held p s t → 1 ≤ j → in_mask (course_at p s t).mask j ≡ true
      → Site house s × Site house j
  coordinator_sites s t j c h l e =
      (i.parts.site s t (i.parts.has s t h), (l, i.posts.members t j (rw c h) (rw c (l, e))))

  -- to all others
  every_other : (q : Protocol) (s t : ℕ) (m : Msg) → coordinator_of t ≡ s → Held p s t
      → ((j : ℕ) → in_mask (course_at p s t).mask j ≡ true → (j ≡ s → ⊥) → MsgOk house q s j m × FirstJoin p s j m)
      → (a b : ℕ) → Grown (Fit house p q a b) (p.post a b) (others p.post s (course_at p s t).mask m a b)
  every_other q s t m c h f =
      others_cases (λ a b l. Grown (Fit house p q a b) (p.post a b) l) p.post s (course_at p s t).mask m
      (λ j l e n. let k = f j e n in inr (m, refl, (k.0, coordinator_sites s t j c h l e, k.1))) (λ a b. inl refl)

  -- back to the sender of the message taken
  back : (q : Protocol) (a s : ℕ) {k : Msg} (m : Msg) → Next p a s k → MsgOk house q s a m × FirstJoin p s a m
      → (x y : ℕ) → Grown (Fit house p q x y) (p.post x y) (upd₂ p.post s a (p.post s a ++ (m ∷ [])) x y)
  back q a s m n f = let e = ends i n in one q s a m (f.0, (e.1, e.0), f.1)

  pub mail : (q : Protocol) → Move house p q → Mail house p q
  unfolding with_participant
  mail q (begin s t d l m n e) = none q
  mail q (enlist s t r c a l m n o) =
      let h : Held p s t = λ f. omega arith in
      let x : AtStage p (coordinator_of t) t stage.active = rw c a in
      let has = i.parts.has s t h in
      one q s r (m_join t (p.live s t).desk) (
        (
          c,
          has,
          n,
          (l, m),
          (λ z. here₂ (λ b. in_mask b.course.mask r ≡ true) p.live s t _
              (in_or_right (course_at p s t).mask (mask_of r) r (own_mask r))),
          (λ z. absurd (set_not _ z (i.rounds.unasked t x))),
        ),
        (i.parts.site s t has, (l, m)),
        (h, o, refl),
      )
  mail q (access s t b fs a told w f m) = none q
  mail q (request s t es c a l r v) =
      every_other q s t _ c (λ f. omega arith)
      (λ j e n. (
        (
          c,
          upd_same p.asked t true,
          rw (upd_same p.mask t (course_at p s t).mask),
          rw (upd_same p.mask t (course_at p s t).mask) e,
          n,
        ),
        tt,
      ))
  mail q (abort s t c a d) = every_other q s t _ c a (λ j e n. ((c, upd_same p.dead t true), tt))
  mail q (cast s t es c a l w v) =
      let x : AtStage p (coordinator_of t) t stage.prepared = rw c a in
      let k = (i.rounds.asked t (λ f. omega arith) (λ f. omega arith)).1 in
      every_other q s t _ c (λ f. omega arith)
      (λ j e n. ((c, upd_same p.certed t true, upd_same p.cert t es, rw (k, c) e, n), tt))
  mail q (decide s t c a l) = every_other q s t _ c (λ f. omega arith) (λ j e n. ((c, upd_same p.num t _, omega arith), tt))
  mail q (install s t a l) = none q
  mail q (report s n a) = none q
  mail q (joins a s t d n f) =
      let o = said i n in
      back q a s _ n ((o.0, o.2, λ z. upd₂_same p.has s t true), tt)
  mail q (full a s t d r n z) =
      let o = said i n in
      back q a s _ n ((o.0, o.2, λ e. absurd (z e)), tt)
  mail q (joined a s t r n x o) = none q
  mail q (prepared a s t n m es x y v) =
      let o = said i x in
      back q a s _ x ((o.0, o.4, upd₂_same p.made s t true, upd₂_same p.list s t es), tt)
  mail q (lost a s t n m r x y z) =
      let o = said i x in
      back q a s _ x ((o.0, o.4, λ e. absurd (z e)), tt)
  mail q (unknown a s t n m r x y z) =
      let o = said i x in
      back q a s _ x ((o.0, o.4, λ e. absurd (z e)), tt)
  mail q (gathers a s t es x y o) = none q
  mail q (certified a s t es x y v) =
      let o = said i x in
      back q a s _ x ((o.0, o.4, λ e. (upd₂_same p.yes s t true, upd₂_same p.queue_mark s t (p.clock s))), tt)
  mail q (rejects a s t r es x y z) =
      let o = said i x in
      back q a s _ x ((o.0, o.4, λ e. absurd (z e)), tt)
  mail q (votes a s t n x y o) = none q
  mail q (commits a s t n x y) = none q
  mail q (aborts a s t x d) = none q
  mail q (passes a s n m x) = none q

  -- what was taken, of what was written before the move
  abbrev Took : (ℕ → ℕ → ℕ) → Type 0
  Took taken = (a b : ℕ) → (p.taken a b ≤ taken a b) × (taken a b ≤ length (p.post a b))

  idle : Took p.taken
  idle a b = (omega arith, i.posts.count a b)

  next : (a s : ℕ) (m : Msg) → Next p a s m → Took (upd₂ p.taken a s (p.taken a s + 1))
  next a s m n =
      upd₂_cases (λ x y k. (p.taken x y ≤ k) × (k ≤ length (p.post x y))) p.taken a s _ (omega (arith, n.some)) (λ x y z. idle x y)

  pub takes : (q : Protocol) → Move house p q → Took q.taken
  takes q (begin s t d l m n e) = idle
  takes q (enlist s t r c a l m n o) = idle
  takes q (access s t b fs a told w f m) = idle
  takes q (request s t es c a l r v) = idle
  takes q (abort s t c a d) = idle
  takes q (cast s t es c a l w v) = idle
  takes q (decide s t c a l) = idle
  takes q (install s t a l) = idle
  takes q (report s n a) = idle
  takes q (joins a s t d n f) = next a s _ n
  takes q (full a s t d r n z) = next a s _ n
  takes q (joined a s t r n x o) = next a s _ n
  takes q (prepared a s t n m es x y v) = next a s _ x
  takes q (lost a s t n m r x y z) = next a s _ x
  takes q (unknown a s t n m r x y z) = next a s _ x
  takes q (gathers a s t es x y o) = next a s _ x
  takes q (certified a s t es x y v) = next a s _ x
  takes q (rejects a s t r es x y z) = next a s _ x
  takes q (votes a s t n x y o) = next a s _ x
  takes q (commits a s t n x y) = next a s _ x
  takes q (aborts a s t x d) = next a s _ x
  takes q (passes a s n m x) = next a s m x
