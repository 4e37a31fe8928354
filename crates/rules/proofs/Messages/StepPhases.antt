-- Phases after a move, and so after any.
use Prim.Native.Nat.{ℕ, ◌+◌, ◌≤◌}
use mathlib.Core.Path.{◌≡◌, refl, sym, ◌∙◌}
use mathlib.Core.Bool.{Bool, true}
use mathlib.Core.Logic.{◌⊎◌, inl, inr}
use mathlib.Core.List.{List}
use native.Mathlib.Omega.{arith}
use lib.ListN.{length}
use Rattle.kinds.specs.declared.House.{House}
use Rattle.laws.specs.Choice.{set_not, by_same}
use Rattle.kinds.specs.Stage as stage
use Rattle.kinds.specs.declared.Course.{Course}
use Rattle.kinds.specs.declared.Sub.{Sub}
use Rattle.kinds.specs.State.{no_sub, with_course}
use Rattle.rules.specs.House.{coordinator_of, mask_of}
use Rattle.rules.specs.Message.{entry_count}
use Rattle.rules.specs.Live.{all_heard}
use Rattle.rules.specs.Course.{new_sub, with_participant, with_reply, with_decision, with_queue_mark, with_request, with_stage}
use Rattle.rules.specs.World.{upd}
use Rattle.rules.proofs.Lists.Tables.{upd₂, upd_same, upd_other, upd₂_same, upd₂_cases, upd₂_other}
use Rattle.rules.proofs.Protocol.ProtocolTables.{Protocol, Msg, m_join, m_joined, m_prepare, m_conc, m_cert, m_vote, m_commit, m_abort, inst}
use Rattle.rules.proofs.Protocol.Protocol.{AtStage}
use Rattle.rules.proofs.Protocol.Protocol.{course_at, Move, begin, enlist, access, request, abort, cast, decide, install, report}
use Rattle.rules.proofs.Protocol.Protocol.{joins, full}
use Rattle.rules.proofs.Protocol.Protocol.{joined, prepared, lost, unknown, gathers, certified, rejects, votes, commits, aborts}
use Rattle.rules.proofs.Protocol.Protocol.{passes}
use Rattle.rules.proofs.Protocol.Protocol.{fresh_protocol}
use Rattle.rules.proofs.Protocol.Invariants.{Held, In, MsgOk, Invariant}
use Rattle.rules.proofs.Lists.Masks.{none_in, in_or_left, in_or_right, own_mask, all_heard_lem}
use Rattle.rules.proofs.Protocol.Frames.{said, ends, tx_coordinator, new_tx, new_join}
use Rattle.rules.proofs.Steps.RoundOk.{heard_more}
use Rattle.rules.proofs.Refine.Refines.{tx_in}
use Rattle.rules.proofs.Stream.Stream.{Stream, moves, merges, replays, Steps, stop, more}
use Rattle.rules.proofs.Stream.StreamReached.{Standing, standing_steps}
use Rattle.rules.proofs.Messages.Pending.{about, pending}
use Rattle.rules.proofs.Messages.Phases.{RepliedAt, Phase, idle, Phases}
use Rattle.rules.proofs.Messages.PhaseTurns.{no_round, joins_on, full_on, prepared_on, lost_on, prepare_held, certified_on}
use Rattle.rules.proofs.Messages.PhaseTurns.{rejects_on}
use Rattle.rules.proofs.Messages.PhaseTurns.{commits_on, aborts_on, passes_ahead, passes_back, installs_on, heard_on, wider_on}
use Rattle.rules.proofs.Messages.PhaseTurns.{rests_on}
use Rattle.rules.proofs.Messages.PhaseTurns.{skips_on, enlists_on, asks_on, decides_on, ends_on, ends_apart}
use Rattle.rules.proofs.Messages.PhaseParts.{Part, late, takes, hears, own_channel, answers, writes_all, writes_one, writes_none}
use Rattle.rules.proofs.Messages.PhaseParts.{leaves}
use Rattle.rules.proofs.Messages.PhaseParts.{still}

-- a part changes to b, and nothing else that a phase reads
part_now : (p q : Protocol) (s t : ℕ) (b : Sub) → q.live ≡ upd₂ p.live s t b → q.has ≡ p.has
    → ((u : ℕ) → (u ≡ t → ⊥) → q.num u ≡ p.num u)
    → ((u : ℕ) → (u ≡ t → ⊥) → q.dead u ≡ p.dead u) → Part s t p q
part_now p q s t b live has num dead =
    record { live = λ j u n. rw live (upd₂_other p.live s t b j u n); has = λ j u n. rw has; num = num; dead = dead }

-- a part begins
part_begun : (p q : Protocol) (s t : ℕ) (b : Sub) → q.live ≡ upd₂ p.live s t b → q.has ≡ upd₂ p.has s t true → q.num ≡ p.num
    → q.dead ≡ p.dead → Part s t p q
part_begun p q s t b live has num dead =
    record {
      live = λ j u n. rw live (upd₂_other p.live s t b j u n);
      has = λ j u n. rw has (upd₂_other p.has s t true j u n);
      num = λ u n. rw num;
      dead = λ u n. rw dead;
    }

part_same : (p q : Protocol) (s t : ℕ) → q.live ≡ p.live → q.has ≡ p.has → q.num ≡ p.num → q.dead ≡ p.dead → Part s t p q
part_same p q s t live has num dead = record { live = λ j u n. rw live; has = λ j u n. rw has; num = λ u n. rw num; dead = λ u n. rw dead }

-- each message is its transaction's coordinator's, or goes to it
origin : (house : House) (p : Protocol) (a b : ℕ) (m : Msg) → MsgOk house p a b m
    → (coordinator_of (tx_in m) ≡ a) ⊎ ((coordinator_of (tx_in m) ≡ b) × (b ≡ a → ⊥))
origin house p a b (m_join t d) o = inl o.0
origin house p a b (m_joined t v) o = inr (o.0, λ z. o.1 (sym z))
origin house p a b (m_prepare t n m) o = inl o.0
origin house p a b (m_conc t es) o = inr (o.0, λ z. o.1 (sym z))
origin house p a b (m_cert t es) o = inl o.0
origin house p a b (m_vote t n v) o = inr (o.0, λ z. o.1 (sym z))
origin house p a b (m_commit t n) o = inl o.0
origin house p a b (m_abort t) o = inl o.0

-- a yes under way is a queued part's
yes_queued : (t n k g : ℕ) (h : Bool) → RepliedAt k h g (m_vote t n 0) → g ≡ stage.queued
yes_queued t n k g h (inl (e, z)) = z refl
yes_queued t n k g h (inr (e, z)) = absurd (z refl)

module _ {house : House} {p : Protocol} (i : Invariant house p) (f : Phases p) where
  -- t's coordinator s, in a round
  module _ (s t : ℕ) (c : coordinator_of t ≡ s) (held : Held p s t) where
    number : (AtStage p s t stage.decided → ⊥) → p.num t ≡ 0
    number d = i.rounds.undecided t (rw c held) (rw c d)

    alive : p.dead t ≡ true → ⊥
    alive d = held (rw c at (i.account.dead t d).1)

    heard_in : (r : ℕ) → In (course_at p s t).heard r → In (course_at p s t).mask r
    heard_in r h = (h.0, rw c at (i.rounds.heard t r (rw c held) (rw c h)).0)

    all_in : all_heard s (course_at p s t).heard (course_at p s t).mask ≡ true → (r : ℕ) → In (course_at p s t).mask r → (r ≡ s → ⊥)
        → In (course_at p s t).heard r
    all_in e r h n =
        let k = i.rounds.small t (rw c held) in
        let low = (i.parts.site s t (i.parts.has s t held)).0 in (
          h.0,
          all_heard_lem (course_at p s t).heard (course_at p s t).mask s (rw c at k.1) (rw c at k.0)
              (λ j z. let w = i.rounds.heard t j (rw c held) (rw c z) in rw c at w) (low, rw c at (i.rounds.own t (rw c held))) e r h n,
        )

  -- its own part becomes b, and that of another site
  own_now : {t r n : ℕ} {d h : Bool} {g : ℕ} {fw bk : List Msg} (s u : ℕ) (b : Sub) → Phase t r b.course n d h g fw bk
      → Phase t r (upd₂ p.live s u b s u).course n d h g fw bk
  own_now s u b x = rw (upd₂_same p.live s u b) x

  there_now : {t r n : ℕ} {c : Course} {d h : Bool} {fw bk : List Msg} (s u : ℕ) (b : Sub) → Phase t r c n d h b.course.stage fw bk
      → Phase t r c n d h (upd₂ p.live s u b s u).course.stage fw bk
  there_now s u b x = rw (upd₂_same p.live s u b) x

  has_now : {t r n g : ℕ} {c : Course} {d : Bool} {fw bk : List Msg} (s u : ℕ) → Phase t r c n d true g fw bk
      → Phase t r c n d (upd₂ p.has s u true s u) g fw bk
  has_now s u x = rw (upd₂_same p.has s u true) x

  dead_now : {t r n g : ℕ} {c : Course} {h : Bool} {fw bk : List Msg} (u : ℕ) → Phase t r c n true h g fw bk
      → Phase t r c n (upd p.dead u true u) h g fw bk
  dead_now u x = rw (upd_same p.dead u true) x

  num_now : {t r n g : ℕ} {c : Course} {d h : Bool} {fw bk : List Msg} (u : ℕ) → Phase t r c n d h g fw bk
      → Phase t r c (upd p.num u n u) d h g fw bk
  num_now {n = n} u x = rw (upd_same p.num u n) x

  -- heard after another's reply
  reply_other : (s t a v n r : ℕ) → 1 ≤ a → (r ≡ a → ⊥) → In (with_reply (course_at p s t) a v n).heard r → In (course_at p s t).heard r
  reply_other s t a v n r l o z = go (heard_more (course_at p s t) a v n r l z)
    where
      go : In (course_at p s t).heard r ⊎ (r ≡ a) → In (course_at p s t).heard r
      go (inl h) = h
      go (inr e) = absurd (o e)

  step : (q : Protocol) → Move house p q → Phases q
  unfolding new_sub with_participant with_reply with_decision with_queue_mark with_request with_stage no_sub
  step q (begin s t d l m n e) =
      let c : coordinator_of t ≡ s = rw e (tx_coordinator s (p.serial s + 1) (omega arith)) in
      writes_none i f q s t c (part_begun p q s t _ refl refl refl refl) refl refl
      (λ r l fw bk x. own_now s t (new_sub t d (mask_of s) (length (inst p s)))
      (rests_on _ (λ k. new_tx house p s t i.parts n e s (i.parts.has s t (λ z. omega arith))) (λ y. absurd (none_in r y.1)) x))
  step q (enlist s t r c a l m n o) =
      let held : Held p s t = λ z. omega arith in
      writes_one i f q s t c (part_now p q s t _ refl refl (λ u n. refl) (λ u n. refl)) refl r (m_join t (p.live s t).desk) refl n refl
      (λ fw bk x. own_now s t (with_course (p.live s t) (with_participant (course_at p s t) r))
      (enlists_on (number s t c held (λ z. omega arith)) (alive s t c held) (p.live s t).desk _ (λ z. set_not _ z.1 o)
      ((l, in_or_right (course_at p s t).mask (mask_of r) r (own_mask r)), λ z. set_not _ (heard_in s t c held r z).1 o) a x))
      (λ j k u fw bk x. own_now s t (with_course (p.live s t) (with_participant (course_at p s t) r))
      (wider_on _ refl (λ z. (z.0, in_or_left (course_at p s t).mask (mask_of r) j z.1)) (λ z. z) x))
  step q (access s t b fs a told w g m) =
      still i f q (upd₂_cases (λ j u b. b.course ≡ course_at p j u) p.live s t _ refl (λ j u n. refl)) refl refl refl refl refl
  step q (request s t es c a l r v) =
      let held : Held p s t = λ z. omega arith in
      let b = with_course (p.live s t) (with_request (course_at p s t) (entry_count es)) in
      writes_all i f q s t c (part_now p q s t b refl refl (λ u n. refl) (λ u n. refl)) refl (course_at p s t).mask _ refl refl
      (λ j k n fw bk x. own_now s t b
      (asks_on (number s t c held (λ z. omega arith)) (alive s t c held) _ _ (all_in s t c held l j k n) (k, λ z. none_in j z.1) refl
      (λ y. y.0 a (i.rounds.joined t j (rw c a) (rw c r) (rw c (all_in s t c held l j k n)))) x))
      (λ j k n fw bk x. own_now s t b (skips_on (number s t c held (λ z. omega arith)) (alive s t c held) _ _ n (λ z. none_in j z.1) x))
  step q (abort s t c a d) =
      writes_all i f q s t c (part_now p q s t no_sub refl refl (λ u n. refl) (λ u n. upd_other p.dead t true u n)) refl
      (course_at p s t).mask (m_abort t) refl refl
      (λ j k n fw bk x. own_now s t no_sub (dead_now t (ends_on (number s t c a d) (alive s t c a) _ x)))
      (λ j k n fw bk x. own_now s t no_sub (dead_now t (ends_apart (number s t c a d) (alive s t c a) _ n x)))
  step q (cast s t es c a l w v) =
      let held : Held p s t = λ z. omega arith in
      let b = with_course (p.live s t) (with_queue_mark (course_at p s t) (p.clock s)) in
      writes_all i f q s t c (part_now p q s t b refl refl (λ u n. refl) (λ u n. refl)) refl (course_at p s t).mask (m_cert t es) refl refl
      (λ j k n fw bk x. own_now s t b
      (asks_on (number s t c held (λ z. omega arith)) (alive s t c held) _ _ (all_in s t c held l j k n) (k, λ z. none_in j z.1) refl
      (λ y. y.1 a) x))
      (λ j k n fw bk x. own_now s t b (skips_on (number s t c held (λ z. omega arith)) (alive s t c held) _ _ n (λ z. none_in j z.1) x))
  step q (decide s t c a l) =
      let held : Held p s t = λ z. omega arith in
      let b = with_course (p.live s t) (with_decision (course_at p s t) (p.clock s + 1)) in
      writes_all i f q s t c (part_now p q s t b refl refl (λ u n. upd_other p.num t _ u n) (λ u n. refl)) refl (course_at p s t).mask
      (m_commit t (p.clock s + 1)) refl refl
      (λ j k n fw bk x. own_now s t b (num_now t
      (decides_on (number s t c held (λ z. omega arith)) (alive s t c held) (p.clock s + 1) _ (all_in s t c held l j k n) a
      (omega arith) x)))
      (λ j k n fw bk x. own_now s t b
      (skips_on (number s t c held (λ z. omega arith)) (alive s t c held) _ _ n (λ z. n (heard_in s t c held j z)) x))
  step q (install s t a l) =
      by_same s (coordinator_of t)
      (λ c. writes_none i f q s t (sym c) (part_now p q s t no_sub refl refl (λ u n. refl) (λ u n. refl)) refl refl
      (λ r k fw bk x. own_now s t no_sub (rests_on _ (λ z. omega arith) (λ z. no_round _ _ _ (λ y. omega arith)) x)))
      (λ o. leaves i f q s t o (part_now p q s t no_sub refl refl (λ u n. refl) (λ u n. refl)) refl refl refl refl
      (λ fw bk x. there_now s t no_sub (installs_on _ a x)))
  step q (report s n a) = still i f q (λ j u. refl) refl refl refl refl refl
  step q (joins a s t d n x) =
      let o = said i n in
      answers i f q a s t (m_join t d) n refl (part_begun p q s t _ refl refl refl refl) refl refl refl (m_joined t 0) refl refl o.0 o.2
      (λ fw bk y. has_now s t (there_now s t (new_sub t d 0 (length (inst p s))) (joins_on y)))
  step q (full a s t d r n z) =
      let o = said i n in
      answers i f q a s t (m_join t d) n refl (part_same p q s t refl refl refl refl) refl refl refl (m_joined t r) refl refl o.0 o.2
      (λ fw bk y. full_on r (new_join house p a s t d i.posts n) y)
  step q (joined a s t r n x o) =
      let k = said i n in
      let b = with_course (p.live s t) (with_reply (course_at p s t) a r 0) in
      hears i f q a s t (m_joined t r) n refl (part_now p q s t b refl refl (λ u n. refl) (λ u n. refl)) refl refl refl refl k.0
      (λ z. k.1 (sym z))
      (λ fw bk y. own_now s t b
      (heard_on (m_joined t r) _ (λ z. ((λ u v. z.1 v), (λ u. absurd (omega arith)), λ u. absurd (omega arith))) y))
      (λ j l u v fw bk y. own_now s t b (wider_on _ refl (λ z. z) (reply_other s t a r 0 j (ends i n).0.0 u) y))
  step q (prepared a s t n m es x y v) =
      let o = said i x in
      let b = with_course (p.live s t) (with_stage (course_at p s t) m stage.prepared) in
      answers i f q a s t (m_prepare t n m) x refl (part_now p q s t b refl refl (λ u n. refl) (λ u n. refl)) refl refl refl (m_conc t es)
      refl refl o.0 o.4
      (λ fw bk z. there_now s t b (prepared_on n m es z))
  step q (lost a s t n m r x y z) =
      let o = said i x in
      let b = with_course (p.live s t) (with_stage (course_at p s t) m stage.rejected) in
      answers i f q a s t (m_prepare t n m) x refl (part_now p q s t b refl refl (λ u n. refl) (λ u n. refl)) refl refl refl (m_vote t _ r)
      refl refl o.0 o.4
      (λ fw bk w. there_now s t b (lost_on n m _ r z w))
  step q (unknown a s t n m r x y z) =
      let o = said i x in
      answers i f q a s t (m_prepare t n m) x refl (part_same p q s t refl refl refl refl) refl refl refl (m_vote t _ r) refl refl
      o.0 o.4
      (λ fw bk w. absurd (omega (arith, prepare_held n m w)))
  step q (gathers a s t es x y o) =
      let k = said i x in
      let b = with_course (p.live s t) (with_reply (course_at p s t) a 0 (entry_count es)) in
      hears i f q a s t (m_conc t es) x refl (part_now p q s t b refl refl (λ u n. refl) (λ u n. refl)) refl refl refl refl k.0
      (λ z. k.1 (sym z))
      (λ fw bk y. own_now s t b (heard_on (m_conc t es) _ (λ z. ((λ u v. absurd (omega arith)), (λ u. z.1), λ u. absurd (omega arith))) y))
      (λ j l u v fw bk y. own_now s t b (wider_on _ refl (λ z. z) (reply_other s t a 0 (entry_count es) j (ends i x).0.0 u) y))
  step q (certified a s t es x y v) =
      let o = said i x in
      let b = with_course (p.live s t) (with_queue_mark (course_at p s t) (p.clock s)) in
      answers i f q a s t (m_cert t es) x refl (part_now p q s t b refl refl (λ u n. refl) (λ u n. refl)) refl refl refl
      (m_vote t (p.clock s) 0) refl refl o.0 o.4
      (λ fw bk z. there_now s t b (certified_on (p.clock s) es z))
  step q (rejects a s t r es x y z) =
      let o = said i x in
      let b = with_course (p.live s t) (with_stage (course_at p s t) (course_at p s t).mask stage.rejected) in
      answers i f q a s t (m_cert t es) x refl (part_now p q s t b refl refl (λ u n. refl) (λ u n. refl)) refl refl refl
      (m_vote t (p.clock s) r) refl refl o.0 o.4
      (λ fw bk w. there_now s t b (rejects_on (p.clock s) r es z w))
  step q (votes a s t n x y o) =
      let k = said i x in
      let b = with_course (p.live s t) (with_reply (course_at p s t) a 0 0) in
      hears i f q a s t (m_vote t n 0) x refl (part_now p q s t b refl refl (λ u n. refl) (λ u n. refl)) refl refl refl refl k.0
      (λ z. k.1 (sym z))
      (λ fw bk w. own_now s t b
      (heard_on (m_vote t n 0) _
      (λ z. ((λ u v. absurd (omega arith)), (λ u. absurd (omega arith)), λ u. yes_queued t n _ _ (p.has a t) z)) w))
      (λ j l u v fw bk w. own_now s t b (wider_on _ refl (λ z. z) (reply_other s t a 0 0 j (ends i x).0.0 u) w))
  step q (commits a s t n x y) =
      let o = said i x in
      let b = with_course (p.live s t) (with_decision (course_at p s t) n) in
      takes i f q a s t (m_commit t n) x refl (part_now p q s t b refl refl (λ u n. refl) (λ u n. refl)) refl refl refl refl o.0
      (λ z. late i f t (rw o.1 o.2) (rw (o.0 ∙ sym z) (omega arith)))
      (λ fw bk w. there_now s t b (commits_on n (rw o.0 at (late i f t)) w))
  step q (aborts a s t x d) =
      let o = said i x in
      let part = part_now p q s t no_sub refl refl (λ u n. refl) (λ u n. refl) in
      by_same s a
      (λ e. own_channel i f q a s t (m_abort t) x refl part refl refl refl refl (o.0 ∙ sym e) (sym e)
      (λ r fw bk y. own_now s t no_sub
      (rests_on _ (λ z. omega (arith, rw (o.0 ∙ sym e) at (i.account.dead t o.1).1))
      (λ z. no_round _ _ _ (λ y. omega arith)) y)))
      (λ e. takes i f q a s t (m_abort t) x refl part refl refl refl refl o.0 e (λ fw bk y. there_now s t no_sub (aborts_on _ y)))
  step q (passes a s n m x) = passed (origin house p a s m (said i x))
    where
      part : Part s (tx_in m) p q
      part = part_same p q s (tx_in m) refl refl refl refl

      passed : (coordinator_of (tx_in m) ≡ a) ⊎ ((coordinator_of (tx_in m) ≡ s) × (s ≡ a → ⊥)) → Phases q
      passed (inl c) =
          by_same s a
          (λ e. own_channel i f q a s (tx_in m) m x refl part refl refl refl refl (c ∙ sym e) (sym e) (λ r fw bk y. y))
          (λ e. takes i f q a s (tx_in m) m x refl part refl refl refl refl c e (λ fw bk y. passes_ahead m (rw c at (late i f (tx_in m))) y))
      passed (inr (c, o)) =
          hears i f q a s (tx_in m) m x refl part refl refl refl refl c o (λ fw bk y. passes_back m y) (λ j l u v fw bk y. y)

pub phases_step : {house : House} {p q : Protocol} → Invariant house p → Phases p → Move house p q → Phases q
phases_step {q = q} i f m = step i f q m

pub phases_fresh : Phases fresh_protocol
unfolding fresh_protocol no_sub pending about
phases_fresh t r l n = idle (λ z. absurd (none_in r z.1))

pub phases_steps : {house : House} {v w : Stream} → house.sites ≤ 8 → Steps house v w → Standing house v → Phases v.protocol
    → Phases w.protocol
phases_steps few stop z f = f
phases_steps few (more ss (moves q m)) z f = phases_step (standing_steps few ss z).invariant (phases_steps few ss z f) m
phases_steps few (more ss (merges n m)) z f = phases_steps few ss z f
phases_steps few (more ss (replays c l)) z f = phases_steps few ss z f
