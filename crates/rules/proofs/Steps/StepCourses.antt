-- Courses after a move, part by part: how far each has come against what the account has of it.
use Prim.Native.Nat.{ℕ, ◌+◌, ◌≤◌, ◌<◌}
use mathlib.Core.Path.{◌≡◌, refl, sym, ◌∙◌}
use mathlib.Core.Bool.{Bool, true, false}
use native.Mathlib.Omega.{arith}
use Rattle.kinds.specs.declared.House.{House}
use Rattle.laws.specs.Choice.{set_not}
use Rattle.kinds.specs.Stage as stage
use Rattle.kinds.specs.declared.Course.{Course}
use Rattle.kinds.specs.declared.Sub.{Sub}
use Rattle.kinds.specs.State.{no_sub, with_course}
use Rattle.rules.specs.House.{coordinator_of}
use Rattle.rules.specs.Message.{entry_count}
use Rattle.rules.specs.Course.{new_sub, with_participant, with_reply, with_decision, with_queue_mark, with_request, with_stage}
use Rattle.rules.specs.World.{upd}
use Rattle.rules.proofs.Lists.Tables.{upd₂, upd_same, upd_cases, upd₂_cases, upd_both, upd₂_both, upd₂_three}
use Rattle.rules.proofs.Protocol.ProtocolTables.{Protocol, set_asked, set_mask, set_made, set_yes, set_queue_mark, set_num}
use Rattle.rules.proofs.Protocol.Protocol.{with_live, with_course_at}
use Rattle.rules.proofs.Protocol.Protocol.{AtStage, course_at, Move, begin, enlist, access, request, abort, cast, decide, install}
use Rattle.rules.proofs.Protocol.Protocol.{report}
use Rattle.rules.proofs.Protocol.Protocol.{joins, full, joined, prepared, lost, unknown, gathers, certified, rejects, votes, commits}
use Rattle.rules.proofs.Protocol.Protocol.{aborts}
use Rattle.rules.proofs.Protocol.Protocol.{passes, fresh_protocol}
use Rattle.rules.proofs.Protocol.Invariants.{Courses, Invariant}
use Rattle.rules.proofs.Protocol.Frames.{said, ends, new_tx, new_join, blank}

-- what the account has of a part, and its course
record CourseOk (m y a : Bool) (participants mark num : ℕ) (c : Course) : Type 0 where
  active : c.stage ≡ stage.active → (m ≡ false) × (y ≡ false)
  rejected : c.stage ≡ stage.rejected → y ≡ false
  mask : (c.stage ≡ stage.free → ⊥) → (c.stage ≡ stage.active → ⊥) → (a ≡ true) × (c.mask ≡ participants)
  prepared : c.stage ≡ stage.prepared → (m ≡ true) × (y ≡ false)
  queued : c.stage ≡ stage.queued → (y ≡ true) × (c.number ≡ mark)
  decided : c.stage ≡ stage.decided → (y ≡ true) × (c.number ≡ num) × (0 < num)
  stages : c.stage ≤ stage.rejected

abbrev CoursesAt : Protocol → Type 0
CoursesAt p = (s t : ℕ) → CourseOk (p.made s t) (p.yes s t) (p.asked t) (p.mask t) (p.queue_mark s t) (p.num t) (course_at p s t)

of_courses : (p : Protocol) → Courses p → CoursesAt p
of_courses p i s t =
    record {
      active = i.active s t;
      rejected = i.rejected s t;
      mask = i.mask s t;
      prepared = i.prepared s t;
      queued = i.queued s t;
      decided = i.decided s t;
      stages = i.stages s t;
    }

to_courses : (p : Protocol) → CoursesAt p → Courses p
to_courses p i =
    record {
      active = λ s t. (i s t).active;
      rejected = λ s t. (i s t).rejected;
      mask = λ s t. (i s t).mask;
      prepared = λ s t. (i s t).prepared;
      queued = λ s t. (i s t).queued;
      decided = λ s t. (i s t).decided;
      stages = λ s t. (i s t).stages;
    }

-- A part at each stage.
module _ (m y a : Bool) (w k n : ℕ) (c : Course) where
  at_free : c.stage ≡ stage.free → CourseOk m y a w k n c
  at_free e =
      record {
        active = λ f. absurd (omega arith);
        rejected = λ f. absurd (omega arith);
        mask = λ f g. absurd (f e);
        prepared = λ f. absurd (omega arith);
        queued = λ f. absurd (omega arith);
        decided = λ f. absurd (omega arith);
        stages = omega arith;
      }

  at_active : c.stage ≡ stage.active → m ≡ false → y ≡ false → CourseOk m y a w k n c
  at_active e x z =
      record {
        active = λ f. (x, z);
        rejected = λ f. absurd (omega arith);
        mask = λ f g. absurd (g e);
        prepared = λ f. absurd (omega arith);
        queued = λ f. absurd (omega arith);
        decided = λ f. absurd (omega arith);
        stages = omega arith;
      }

  at_rejected : c.stage ≡ stage.rejected → y ≡ false → (a ≡ true) × (c.mask ≡ w) → CourseOk m y a w k n c
  at_rejected e z x =
      record {
        active = λ f. absurd (omega arith);
        rejected = λ f. z;
        mask = λ f g. x;
        prepared = λ f. absurd (omega arith);
        queued = λ f. absurd (omega arith);
        decided = λ f. absurd (omega arith);
        stages = omega arith;
      }

  at_prepared : c.stage ≡ stage.prepared → (m ≡ true) × (y ≡ false) → (a ≡ true) × (c.mask ≡ w) → CourseOk m y a w k n c
  at_prepared e z x =
      record {
        active = λ f. absurd (omega arith);
        rejected = λ f. absurd (omega arith);
        mask = λ f g. x;
        prepared = λ f. z;
        queued = λ f. absurd (omega arith);
        decided = λ f. absurd (omega arith);
        stages = omega arith;
      }

  at_queued : c.stage ≡ stage.queued → (y ≡ true) × (c.number ≡ k) → (a ≡ true) × (c.mask ≡ w) → CourseOk m y a w k n c
  at_queued e z x =
      record {
        active = λ f. absurd (omega arith);
        rejected = λ f. absurd (omega arith);
        mask = λ f g. x;
        prepared = λ f. absurd (omega arith);
        queued = λ f. z;
        decided = λ f. absurd (omega arith);
        stages = omega arith;
      }

  at_decided : c.stage ≡ stage.decided → (y ≡ true) × (c.number ≡ n) × (0 < n) → (a ≡ true) × (c.mask ≡ w) → CourseOk m y a w k n c
  at_decided e z x =
      record {
        active = λ f. absurd (omega arith);
        rejected = λ f. absurd (omega arith);
        mask = λ f g. x;
        prepared = λ f. absurd (omega arith);
        queued = λ f. absurd (omega arith);
        decided = λ f. z;
        stages = omega arith;
      }

  -- a commit is asked for, or decided: no part elsewhere has come that far
  asked_now : CourseOk m y a w k n c → a ≡ false → (v : ℕ) → CourseOk m y true v k n c
  asked_now i e v =
      record {
        active = i.active;
        rejected = i.rejected;
        mask = λ f g. absurd (set_not a (i.mask f g).0 e);
        prepared = i.prepared;
        queued = i.queued;
        decided = i.decided;
        stages = i.stages;
      }

  decided_now : CourseOk m y a w k n c → n ≡ 0 → (v : ℕ) → CourseOk m y a w k v c
  decided_now i e v =
      record {
        active = i.active;
        rejected = i.rejected;
        mask = i.mask;
        prepared = i.prepared;
        queued = i.queued;
        decided = λ f. absurd (omega (arith, i.decided f));
        stages = i.stages;
      }

module _ (house : House) (p : Protocol) (i : Invariant house p) where
  all : CoursesAt p
  all = of_courses p i.courses

  -- one part changes, and nothing of the account
  one : (s t : ℕ) (b : Sub) → CourseOk (p.made s t) (p.yes s t) (p.asked t) (p.mask t) (p.queue_mark s t) (p.num t) b.course
      → CoursesAt (with_live p s t b)
  one s t b h =
      upd₂_cases (λ j u b. CourseOk (p.made j u) (p.yes j u) (p.asked u) (p.mask u) (p.queue_mark j u) (p.num u) b.course)
      p.live s t b h
      (λ j u n. all j u)

  gone : (s t : ℕ) → CoursesAt (with_live p s t no_sub)
  unfolding no_sub
  gone s t = one s t no_sub (at_free _ _ _ _ _ _ _ refl)

  -- a reply changes neither stage, mask nor number
  reply : (s t a r n : ℕ) → CoursesAt (with_live p s t (with_course (p.live s t) (with_reply (course_at p s t) a r n)))
  unfolding with_reply
  reply s t a r n =
      let k = all s t in
      one s t _ (record {
        active = k.active;
        rejected = k.rejected;
        mask = k.mask;
        prepared = k.prepared;
        queued = k.queued;
        decided = k.decided;
        stages = k.stages;
      })

  -- a yes, with the clock for its mark
  voted : (s t : ℕ) → AtStage p s t stage.prepared
      → CoursesAt (set_yes (upd₂ p.yes s t true)
      (set_queue_mark (upd₂ p.queue_mark s t (p.clock s)) (with_course_at p s t (with_queue_mark (course_at p s t) (p.clock s)))))
  unfolding with_queue_mark
  voted s t a =
      upd₂_three (λ j u y k b. CourseOk (p.made j u) y (p.asked u) (p.mask u) k (p.num u) b.course) p.yes p.queue_mark
      p.live s t
      true (p.clock s) _
      (at_queued _ _ _ _ _ _ _ refl (refl, refl) ((all s t).mask (λ f. omega arith) (λ f. omega arith))) (λ j u n. all j u)

  -- the list of a participant
  listed : (s t w : ℕ) → AtStage p s t stage.active → (p.asked t ≡ true) × (w ≡ p.mask t)
      → CoursesAt (set_made (upd₂ p.made s t true) (with_course_at p s t (with_stage (course_at p s t) w stage.prepared)))
  unfolding with_stage
  listed s t w a h =
      upd₂_both (λ j u m b. CourseOk m (p.yes j u) (p.asked u) (p.mask u) (p.queue_mark j u) (p.num u) b.course) p.made
      p.live s t true _
      (at_prepared _ _ _ _ _ _ _ refl (refl, ((all s t).active a).1) h) (λ j u n. all j u)

  -- the commit request
  requested : (s t n w : ℕ) → coordinator_of t ≡ s → AtStage p s t stage.active → w ≡ (course_at p s t).mask
      → CoursesAt (set_asked (upd p.asked t true)
      (set_mask (upd p.mask t w) (set_made (upd₂ p.made s t true) (with_course_at p s t (with_request (course_at p s t) n)))))
  unfolding with_request
  requested s t n w c a e =
      upd₂_both (λ j u m b. CourseOk m (p.yes j u) (upd p.asked t true u) (upd p.mask t w u) (p.queue_mark j u) (p.num u)
      b.course)
      p.made p.live s t true _
      (at_prepared _ _ _ _ _ _ _ refl (refl, ((all s t).active a).1) (upd_same p.asked t true, sym e ∙ sym (upd_same p.mask t w)))
      (λ j u x. upd_both (λ u b m. CourseOk (p.made j u) (p.yes j u) b m (p.queue_mark j u) (p.num u) (course_at p j u)) p.asked
      p.mask t true w
      (asked_now _ _ _ _ _ _ _ (all j t) (i.rounds.unasked t (rw c a)) w) (λ u y. all j u) u)

  -- the decision
  numbered : (s t n : ℕ) → coordinator_of t ≡ s → AtStage p s t stage.queued → 0 < n
      → CoursesAt (set_num (upd p.num t n) (with_course_at p s t (with_decision (course_at p s t) n)))
  unfolding with_decision
  numbered s t n c a l =
      let z : AtStage p (coordinator_of t) t stage.queued = rw c a in
      let e : p.num t ≡ 0 = i.rounds.undecided t (λ f. omega arith) (λ f. omega arith) in
      upd₂_cases (λ j u b. CourseOk (p.made j u) (p.yes j u) (p.asked u) (p.mask u) (p.queue_mark j u) (upd p.num t n u) b.course)
      p.live s t _
      (at_decided _ _ _ _ _ _ _ refl (((all s t).queued a).0, sym (upd_same p.num t n), rw (upd_same p.num t n) l)
      ((all s t).mask (λ f. omega arith) (λ f. omega arith)))
      (λ j u x. upd_cases (λ u m. CourseOk (p.made j u) (p.yes j u) (p.asked u) (p.mask u) (p.queue_mark j u) m (course_at p j u))
      p.num t n
      (decided_now _ _ _ _ _ _ _ (all j t) e n) (λ u y. all j u) u)

  step : (q : Protocol) → Move house p q → CoursesAt q
  unfolding new_sub with_participant with_decision with_queue_mark with_request with_stage
  step q (begin s t d l m n e) = let h = blank p s t i.account l (new_tx house p s t i.parts n e s) in
      one s t _ (at_active _ _ _ _ _ _ _ refl h.made h.yes)
  step q (enlist s t r c a l m n o) = let h = (all s t).active a in one s t _ (at_active _ _ _ _ _ _ _ a h.0 h.1)
  step q (access s t b fs a told w f m) = one s t _ (all s t)
  step q (request s t es c a l r v) = requested s t (entry_count es) (course_at p s t).mask c a refl
  step q (abort s t c a d) = gone s t
  step q (cast s t es c a l w v) = voted s t a
  step q (decide s t c a l) = numbered s t (p.clock s + 1) c a (omega arith)
  step q (install s t a l) = gone s t
  step q (report s n a) = all
  step q (joins a s t d n f) =
      let h = blank p s t i.account (ends i n).1.0 (new_join house p a s t d i.posts n) in
      one s t _ (at_active _ _ _ _ _ _ _ refl h.made h.yes)
  step q (full a s t d r n z) = all
  step q (joined a s t r n x o) = reply s t a r 0
  step q (prepared a s t n m es x y v) = let o = said i x in listed s t m y (o.1, o.2)
  step q (lost a s t n m r x y z) =
      let o = said i x in
      one s t _ (at_rejected _ _ _ _ _ _ _ refl ((all s t).active y).1 (o.1, o.2))
  step q (unknown a s t n m r x y z) = all
  step q (gathers a s t es x y o) = reply s t a 0 (entry_count es)
  step q (certified a s t es x y v) = voted s t y
  step q (rejects a s t r es x y z) =
      one s t _ (at_rejected _ _ _ _ _ _ _ refl ((all s t).prepared y).1 ((all s t).mask (λ f. omega arith) (λ f. omega arith)))
  step q (votes a s t n x y o) = reply s t a 0 0
  step q (commits a s t n x y) =
      let o = said i x in
      one s t _ (at_decided _ _ _ _ _ _ _ refl (((all s t).queued y).0, sym o.1, rw o.1 o.2)
      ((all s t).mask (λ f. omega arith) (λ f. omega arith)))
  step q (aborts a s t x d) = gone s t
  step q (passes a s n m x) = all

pub courses_step : (house : House) (p q : Protocol) → house.sites ≤ 8 → Move house p q → Invariant house p → Courses q
courses_step house p q h m i = to_courses q (step house p i q m)

pub courses_fresh : Courses fresh_protocol
unfolding fresh_protocol no_sub
courses_fresh = to_courses fresh_protocol (λ s t. at_free _ _ _ _ _ _ _ refl)
