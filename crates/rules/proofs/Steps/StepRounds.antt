-- Rounds after a move. A transaction whose coordinator's part does not change keeps its round, as the account only grows.
use Prim.Native.Nat.{ℕ, ◌≤◌, max}
use mathlib.Core.Path.{◌≡◌, refl, sym, ◌∙◌}
use mathlib.Core.Bool.{true}
use mathlib.Core.Logic.{◌⊎◌, inl, inr}
use mathlib.Core.List.{List, ◌++◌}
use native.Mathlib.Omega.{arith}
use borrow.Author.Tests.{eqb-true, eqb-false}
use lib.Dec.{eqb}
use Rattle.laws.specs.Choice.{by_test, unset, set_not}
use Rattle.kinds.specs.Sizes as sizes
use Rattle.kinds.specs.declared.House.{House}
use Rattle.kinds.specs.Stage as stage
use Rattle.kinds.specs.declared.Sub.{Sub}
use Rattle.kinds.specs.State.{no_sub}
use Rattle.rules.specs.House.{coordinator_of, in_mask, mask_of}
use Rattle.rules.specs.Course.{new_sub, with_participant, with_reply, with_decision, with_queue_mark, with_request, is_outstanding}
use Rattle.rules.proofs.Lists.Tables.{upd₂, upd_same, upd_other, upd₂_same, upd₂_cases, Other₂}
use Rattle.rules.proofs.Protocol.ProtocolTables.{Protocol}
use Rattle.rules.proofs.Protocol.Protocol.{AtStage, course_at, Whole, Move, begin, enlist, access, request, abort, cast, decide}
use Rattle.rules.proofs.Protocol.Protocol.{install, report, joins, full, joined, prepared, lost, unknown, gathers, certified}
use Rattle.rules.proofs.Protocol.Protocol.{rejects, votes}
use Rattle.rules.proofs.Protocol.Protocol.{commits, aborts, passes, fresh_protocol}
use Rattle.rules.proofs.Protocol.Invariants.{Held, In, Rounds, Invariant}
use Rattle.rules.proofs.Lists.Masks.{none_in, own_mask, mask_small, outstanding_in}
use Rattle.rules.proofs.Protocol.Frames.{was₂, said, ends, new_tx}
use Rattle.rules.proofs.Lists.Entries.{within_refl, within_left, within_right, whole_append}
use Rattle.rules.proofs.Protocol.Later.{Later, Begins, later}
use Rattle.rules.proofs.Steps.RoundOk.{Replied, ListOf, VoteOf, AskedOf, RoundOk, RoundsAt, of_rounds, to_rounds, Base, base_same}
use Rattle.rules.proofs.Steps.RoundOk.{base_reset, base_enlist, heard_more, base_reply, base_of, at_free, at_active, at_prepared}
use Rattle.rules.proofs.Steps.RoundOk.{at_queued, at_decided}

-- what the account has of t alone
abbrev Frame : Protocol → Protocol → ℕ → Type 0
Frame p q t = (q.asked t ≡ p.asked t) × (q.gathered t ≡ p.gathered t) × (q.certed t ≡ p.certed t) × (q.num t ≡ p.num t)

abbrev same : {A B C D : Type 0} {a : A} {b : B} {c : C} {d : D} → (a ≡ a) × (b ≡ b) × (c ≡ c) × (d ≡ d)
same = (refl, refl, refl, refl)

module _ {house : House} {p : Protocol} (i : Invariant house p) {q : Protocol} (l : Later p q) where
  old : (t : ℕ) → RoundOk p t (course_at p (coordinator_of t) t)
  old = of_rounds p i.rounds

  -- a part that began in the move is a participant's
  base_now : (t : ℕ) → Held p (coordinator_of t) t → Base q t (course_at p (coordinator_of t) t)
  base_now t h =
      let b = base_of p t _ (old t) h in
      record { small = b.small; own = b.own; heard = b.heard; parts = λ r x. part r (l.begins r t x) }
    where
      part : (r : ℕ) → (p.has r t ≡ true) ⊎ Begins p q r t → in_mask (course_at p (coordinator_of t) t).mask r ≡ true
      part r (inl x) = (old t).parts r h x
      part r (inr (inl e)) = rw (sym e) ((old t).own h)
      part r (inr (inr (d, n, x))) = (said i n).4 h

  asked_now : (t : ℕ) → Held p (coordinator_of t) t → (AtStage p (coordinator_of t) t stage.active → ⊥)
      → AskedOf q t (course_at p (coordinator_of t) t)
  asked_now t h n = let a = (old t).asked h n in let b = l.asked t a.0 in (b.0, b.1 ∙ a.1)

  vote_now : (t r : ℕ) → VoteOf p t r → VoteOf q t r
  vote_now t r (y, m) = let b = l.yes r t y in (b.0, rw b.1 (omega (arith, l.clock (coordinator_of t))))

  keep : (t : ℕ) → Frame p q t → RoundOk q t (course_at p (coordinator_of t) t)
  keep t (a, g, c, n) =
      let k = old t in
      record {
        small = k.small;
        own = k.own;
        heard = k.heard;
        parts = λ r h. (base_now t h).parts r;
        joined = λ r f z x. l.has r t (k.joined r f z x);
        unasked = λ f. a ∙ k.unasked f;
        asked = asked_now t;
        never_rejected = k.never_rejected;
        lists = λ r f x. let y = k.lists r f x in let b = l.made r t y.0 in (b.0, rw (b.1, g) y.1);
        votes = λ r f x. vote_now t r (k.votes r f x);
        whole = λ f. rw g (k.whole f);
        uncerted = λ f. c ∙ k.uncerted f;
        undecided = λ h f. n ∙ k.undecided h f;
      }

  -- the part of t at s changes: if s is its coordinator its round is shown, every other one's is kept
  one : (s t : ℕ) (b : Sub) → ((u : ℕ) → Other₂ s t (coordinator_of u) u → Frame p q u) → (coordinator_of t ≡ s → RoundOk q t b.course)
      → (u : ℕ) → RoundOk q u (upd₂ p.live s t b (coordinator_of u) u).course
  one s t b f new u =
      upd₂_cases (λ j u b. coordinator_of u ≡ j → RoundOk q u b.course) p.live s t b new
      (λ j u n e. rw e at (keep u (f u (rw (sym e) at n)))) (coordinator_of u) u refl

  -- of one transaction
  others : (s t : ℕ) → coordinator_of t ≡ s → (u : ℕ) → Other₂ s t (coordinator_of u) u → u ≡ t → ⊥
  others s t c u n e = n (rw e c, e)

  gone : (s t : ℕ) → ((u : ℕ) → Frame p q u) → (u : ℕ) → RoundOk q u (upd₂ p.live s t no_sub (coordinator_of u) u).course
  unfolding no_sub
  gone s t f = one s t no_sub (λ u n. f u) (λ c. at_free q t _ refl)

  -- a participant's part
  elsewhere : (s t a : ℕ) (b : Sub) → ((u : ℕ) → Frame p q u) → coordinator_of t ≡ a → (s ≡ a → ⊥) → (u : ℕ)
      → RoundOk q u (upd₂ p.live s t b (coordinator_of u) u).course
  elsewhere s t a b f c n = one s t b (λ u x. f u) (λ e. absurd (n (sym e ∙ c)))

  module _ (s t : ℕ) (c : coordinator_of t ≡ s) where
    here : RoundOk p t (course_at p s t)
    here = rw c at (old t)

    base_here : Held p s t → Base q t (course_at p s t)
    base_here h = rw c at (base_now t (rw c h))

    asked_here : Held p s t → (AtStage p s t stage.active → ⊥) → AskedOf q t (course_at p s t)
    asked_here h n = rw c at (asked_now t (rw c h) (rw c n))

    kept_here : Frame p q t → RoundOk q t (course_at p s t)
    kept_here f = rw c at (keep t f)

    -- enlist
    enlisted : (r : ℕ) → r ≤ sizes.sites → AtStage p s t stage.active → Frame p q t → RoundOk q t (with_participant (course_at p s t) r)
    unfolding with_participant
    enlisted r m a f =
        let k = kept_here f in
        let h : Held p s t = λ z. omega arith in
        at_active q t _ a (base_enlist q t r _ m (base_here h)) (λ j. k.joined j a) (k.unasked a) (k.undecided h (λ z. omega arith))

    -- the request: a new round, which has the coordinator's own list
    requested : (es : List ℕ) (n : ℕ) → AtStage p s t stage.active → Whole es → AskedOf q t (course_at p s t) → q.gathered t ≡ es
        → (q.made s t ≡ true) × (q.list s t ≡ es)
        → q.certed t ≡ p.certed t → q.num t ≡ p.num t → RoundOk q t (with_request (course_at p s t) n)
    unfolding with_request
    requested es n a w x g m d e =
        let h : Held p s t = λ z. omega arith in
        at_prepared q t _ refl (base_reset q t _ (course_at p s t) refl refl (base_here h)) x lists (rw g w)
        (d ∙ unset _ (λ z. set_not _ (i.account.certed_asked t z) (here.unasked a)))
        (e ∙ here.undecided h (λ z. omega arith))
      where
        lists : (r : ℕ) → (r ≡ coordinator_of t) ⊎ In 0 r → ListOf q t r
        lists r (inl z) = rw (z, c, m.1, g) (m.0, within_refl es)
        lists r (inr z) = absurd (none_in r z.1)

    -- the coordinator's yes: a new round, which has that vote
    voted : (n : ℕ) → AtStage p s t stage.prepared → (q.yes s t ≡ true) × (q.queue_mark s t ≤ q.clock s) → q.num t ≡ p.num t
        → RoundOk q t (with_queue_mark (course_at p s t) n)
    unfolding with_queue_mark
    voted n a v e =
        let h : Held p s t = λ z. omega arith in
        at_queued q t _ refl (base_reset q t _ (course_at p s t) refl refl (base_here h)) (asked_here h (λ z. omega arith)) votes
        (e ∙ here.undecided h (λ z. omega arith))
      where
        votes : (r : ℕ) → (r ≡ coordinator_of t) ⊎ In 0 r → VoteOf q t r
        votes r (inl z) = rw (z, c) v
        votes r (inr z) = absurd (none_in r z.1)

    decided : (n : ℕ) → AtStage p s t stage.queued → RoundOk q t (with_decision (course_at p s t) n)
    unfolding with_decision
    decided n a =
        let h : Held p s t = λ z. omega arith in
        at_decided q t _ refl (base_same q t _ (course_at p s t) refl refl (base_here h)) (asked_here h (λ z. omega arith))

    -- Replies.
    module _ (a : ℕ) (from : 1 ≤ a) (other : a ≡ s → ⊥) (out : is_outstanding (course_at p s t) a ≡ true) where
      replied : (k n : ℕ) → Held p s t → Base q t (with_reply (course_at p s t) a k n)
      replied k n h = base_reply q t a k n (course_at p s t) from (outstanding_in (course_at p s t) a out) (λ e. other (e ∙ c)) (base_here h)

      joined_now : (k : ℕ) → AtStage p s t stage.active → (k ≡ 0 → p.has a t ≡ true) → Frame p q t
          → RoundOk q t (with_reply (course_at p s t) a k 0)
      unfolding with_reply
      joined_now k x o f =
          let h : Held p s t = λ z. omega arith in
          at_active q t _ x (replied k 0 h) (λ r z y. has r (omega arith) (omega arith) (heard_more (course_at p s t) a k 0 r from y))
          ((kept_here f).unasked x)
          ((kept_here f).undecided h (λ z. omega arith))
        where
          has : (r : ℕ) → (course_at p s t).reason ≡ 0 → k ≡ 0 → In (course_at p s t).heard r ⊎ (r ≡ a) → q.has r t ≡ true
          has r y z (inl e) = (kept_here f).joined r x y e
          has r y z (inr e) = rw e (l.has a t (o z))

      gathered : (es : List ℕ) (n : ℕ) → AtStage p s t stage.prepared → (p.made a t ≡ true) × (p.list a t ≡ es)
          → q.gathered t ≡ p.gathered t ++ es
          → q.certed t ≡ p.certed t → q.num t ≡ p.num t → RoundOk q t (with_reply (course_at p s t) a 0 n)
      unfolding with_reply
      gathered es n x m g d e =
          let h : Held p s t = λ z. omega arith in
          at_prepared q t _ x (replied 0 n h) (asked_here h (λ z. omega arith)) (λ r z. list r (split r z))
          (rw g (whole_append (p.gathered t) es w (rw m.1 at (i.account.made a t m.0).2))) (d ∙ here.uncerted x)
          (e ∙ here.undecided h (λ z. omega arith))
        where
          w : Whole (p.gathered t)
          w = here.whole x

          split : (r : ℕ) → (r ≡ coordinator_of t) ⊎ In (with_reply (course_at p s t) a 0 n).heard r → Replied t (course_at p s t) r ⊎ (r ≡ a)
          split r (inl z) = inl (inl z)
          split r (inr z) = over (heard_more (course_at p s t) a 0 n r from z)
            where
              over : In (course_at p s t).heard r ⊎ (r ≡ a) → Replied t (course_at p s t) r ⊎ (r ≡ a)
              over (inl y) = inl (inr y)
              over (inr y) = inr y

          list : (r : ℕ) → Replied t (course_at p s t) r ⊎ (r ≡ a) → ListOf q t r
          list r (inl z) = let y = here.lists r x z in let b = l.made r t y.0 in
              (b.0, rw (b.1, g) (within_left _ (p.gathered t) es w y.1))
          list r (inr z) = let b = l.made a t m.0 in rw z (b.0, rw (b.1 ∙ m.1, g) (within_right (p.gathered t) es w))

      voted_now : AtStage p s t stage.queued → VoteOf q t a → Frame p q t → RoundOk q t (with_reply (course_at p s t) a 0 0)
      unfolding with_reply
      voted_now x v f =
          let h : Held p s t = λ z. omega arith in
          at_queued q t _ x (replied 0 0 h) (asked_here h (λ z. omega arith)) vote ((kept_here f).undecided h (λ z. omega arith))
        where
          vote : (r : ℕ) → (r ≡ coordinator_of t) ⊎ In (with_reply (course_at p s t) a 0 0).heard r → VoteOf q t r
          vote r (inl z) = (kept_here f).votes r x (inl z)
          vote r (inr z) = over (heard_more (course_at p s t) a 0 0 r from z)
            where
              over : In (course_at p s t).heard r ⊎ (r ≡ a) → VoteOf q t r
              over (inl y) = (kept_here f).votes r x (inr y)
              over (inr y) = rw y v

-- A transaction that begins: nothing was asked, nothing heard.
begun : (house : House) (p : Protocol) (i : Invariant house p) (q : Protocol) → house.sites ≤ sizes.sites → (s t d : ℕ) → 1 ≤ s
    → s ≤ house.sites
    → coordinator_of t ≡ s
    → ((j : ℕ) → p.has j t ≡ true → ⊥) → q.has ≡ upd₂ p.has s t true → q.asked ≡ p.asked → q.num ≡ p.num → (n : ℕ)
    → RoundOk q t (new_sub t d (mask_of s) n).course
unfolding new_sub
begun house p i q h s t d l m c none e f g n =
    at_active q t _ refl
    (record {
      small = (mask_small s (omega arith), omega arith);
      own = rw c (own_mask s);
      heard = λ r x. absurd (none_in r x.1);
      parts = λ r x. part r (was₂ p.has s t r t (rw e at x));
    })
    (λ r z x. absurd (none_in r x.1)) (rw f (unset _ unasked)) (rw g number)
  where
    part : (r : ℕ) → ((r ≡ s) × (t ≡ t)) ⊎ (p.has r t ≡ true) → in_mask (mask_of s) r ≡ true
    part r (inl (x, y)) = rw x (own_mask s)
    part r (inr x) = absurd (none r x)

    unasked : p.asked t ≡ true → ⊥
    unasked a = none s (i.account.asked_has t s a (l, rw c at (i.account.own t a)))

    number : p.num t ≡ 0
    number =
        by_test (eqb (p.num t) 0)
        (λ z. eqb-true (p.num t) 0 z)
        (λ z. let y = eqb-false (p.num t) 0 z in absurd (unasked (i.account.certed_asked t (i.account.num_certed t (omega arith)))))

module _ (house : House) (p : Protocol) (h : house.sites ≤ sizes.sites) (i : Invariant house p) where
  step : (q : Protocol) → Move house p q → Later p q → RoundsAt q
  step q (begin s t d a b n e) l =
      one i l s t _ (λ u x. same)
      (λ c. begun house p i q h s t d a b c (new_tx house p s t i.parts n e) refl refl refl _)
  step q (enlist s t r c a x y n o) l = one i l s t _ (λ u x. same) (λ c. enlisted i l s t c r (omega arith) a same)
  step q (access s t b fs a told w f m) l = one i l s t _ (λ u x. same) (λ c. kept_here i l s t c same)
  step q (request s t es c a x r v) l =
      one i l s t _ (λ u n. let z = others i l s t c u n in (upd_other p.asked t _ u z, upd_other p.gathered t _ u z, refl, refl))
      (λ c. requested i l s t c es _ a v.whole (upd_same p.asked t true, upd_same p.mask t _) (upd_same p.gathered t es)
      (upd₂_same p.made s t true, upd₂_same p.list s t es) refl refl)
  step q (abort s t c a d) l = gone i l s t (λ u. same)
  step q (cast s t es c a x w v) l =
      one i l s t _ (λ u n. let z = others i l s t c u n in (refl, refl, upd_other p.certed t _ u z, refl))
      (λ c. voted i l s t c _ a (upd₂_same p.yes s t true, rw (upd₂_same p.queue_mark s t (p.clock s)) (omega arith)) refl)
  step q (decide s t c a x) l =
      one i l s t _ (λ u n. let z = others i l s t c u n in (refl, refl, refl, upd_other p.num t _ u z))
      (λ c. decided i l s t c _ a)
  step q (install s t a x) l = gone i l s t (λ u. same)
  step q (report s n a) l = λ u. keep i l u same
  step q (joins a s t d n f) l = let o = said i n in elsewhere i l s t a _ (λ u. same) o.0 o.2
  step q (full a s t d r n z) l = λ u. keep i l u same
  step q (joined a s t r n x o) l =
      let k = said i n in
      one i l s t _ (λ u x. same)
      (λ c. joined_now i l s t c a (ends i n).0.0 k.1 o r x k.2 same)
  step q (prepared a s t n m es x y v) l = let o = said i x in elsewhere i l s t a _ (λ u. same) o.0 o.4
  step q (lost a s t n m r x y z) l = let o = said i x in elsewhere i l s t a _ (λ u. same) o.0 o.4
  step q (unknown a s t n m r x y z) l = λ u. keep i l u same
  step q (gathers a s t es x y o) l =
      let k = said i x in
      one i l s t _ (λ u n. let z = others i l s t k.0 u n in (refl, upd_other p.gathered t _ u z, refl, refl))
      (λ c. gathered i l s t c a (ends i x).0.0 k.1 o es _ y (k.2, k.3) (upd_same p.gathered t _) refl refl)
  step q (certified a s t es x y v) l = let o = said i x in elsewhere i l s t a _ (λ u. same) o.0 o.4
  step q (rejects a s t r es x y z) l = let o = said i x in elsewhere i l s t a _ (λ u. same) o.0 o.4
  step q (votes a s t n x y o) l =
      let k = said i x in
      one i l s t _ (λ u x. same)
      (λ c. voted_now i l s t c a (ends i x).0.0 k.1 o y
      ((k.2 refl).0, rw (c, (k.2 refl).1, upd_same p.clock s (max (p.clock s) n)) (omega arith)) same)
  step q (commits a s t n x y) l = one i l s t _ (λ u x. same) (λ c. decided i l s t c n y)
  step q (aborts a s t x d) l = gone i l s t (λ u. same)
  step q (passes a s n m x) l = λ u. keep i l u same

pub rounds_step : (house : House) (p q : Protocol) → house.sites ≤ 8 → Move house p q → Invariant house p → Rounds q
rounds_step house p q h m i = to_rounds q (step house p h i q m (later house p i q m))

pub rounds_fresh : Rounds fresh_protocol
unfolding fresh_protocol no_sub
rounds_fresh = to_rounds fresh_protocol (λ t. at_free fresh_protocol t _ refl)
