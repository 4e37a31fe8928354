-- Order after a move: every log ascends, for the queue's least is installed, a state is below every decided number and no open mark is
-- below it, and a mark is the clock of its day and below the number that follows.
use Prim.Native.Nat.{ℕ, suc, ◌+◌, ◌≤◌, ◌<◌, ◌-◌}
use mathlib.Core.Path.{◌≡◌, refl, sym, ◌∙◌}
use mathlib.Core.Bool.{true, false}
use mathlib.Core.Logic.{◌⊎◌, inl, inr, ⊎_elim}
use mathlib.Core.List.{List, [], ◌∷◌, ◌++◌, append_assoc, append-nil}
use native.Mathlib.Omega.{arith}
use borrow.Author.Tests.{ltb-false, eqb-true, eqb-false}
use lib.Dec.{ltb, eqb}
use lib.ListN.{length, get_or}
use Rattle.kinds.specs.declared.House.{House}
use Rattle.laws.specs.Choice.{by_test, set_not, by_same}
use Rattle.laws.specs.Pair.{precedes, rank}
use Rattle.kinds.specs.Stage as stage
use Rattle.kinds.specs.declared.Sub.{Sub}
use Rattle.kinds.specs.State.{no_sub, past_entry}
use Rattle.rules.specs.House.{coordinator_of}
use Rattle.rules.specs.Live.{is_queued}
use Rattle.rules.specs.Queue.{queued_before}
use Rattle.rules.specs.Install.{entry_of}
use Rattle.rules.proofs.Lists.Tables.{All, a_nil, a_cons, all_append, all_one, all_map}
use Rattle.rules.proofs.Protocol.ProtocolTables.{Protocol, Rec, r_part, r_state, parts_of}
use Rattle.rules.proofs.Protocol.Protocol.{AtStage, LeastQueued, Move, fresh_protocol, course_at, Bound}
use Rattle.rules.proofs.Protocol.Invariants.{Installed, RecLow, RecBelow, Ascending, Order, Invariant, Held, Courses, Account}
use Rattle.rules.proofs.Protocol.Invariants.{StandsBefore}
use Rattle.rules.proofs.Protocol.Turns.{Logged, l_same, l_part, l_state, installed_last, Turn, t_stays, t_moves, t_reads, t_aborts}
use Rattle.rules.proofs.Protocol.Turns.{t_installs, t_begins}
use Rattle.rules.proofs.Protocol.News.{OwnStage, NumNow, YesNow}
use Rattle.rules.proofs.Protocol.Changes.{Change, change, still_installed, decided_kept}
use Rattle.rules.proofs.Protocol.Committed.{low_coordinator, committed_yes}
use Rattle.rules.proofs.Steps.StepClocks.{log_low, low_more}
use Rattle.rules.proofs.Steps.StepAccount.{account_step}

-- what a clock bounds is below the next number, for any coordinator
below_next : {n : ℕ} {l : List Rec} (c : ℕ) → All (RecLow n) l
    → ((j : ℕ) → j < length (parts_of l) → coordinator_of (get_or (parts_of l) j past_entry).tx ≤ 8)
    → All (RecBelow (n + 1) c) l
below_next c a_nil h = a_nil
below_next c (a_cons {x = r_part e} p ps) h =
    a_cons {x = r_part e} (omega (arith, h 0 (omega arith))) (below_next c ps (λ j l. h (suc j) (omega arith)))
below_next c (a_cons {x = r_state k} p ps) h = a_cons {x = r_state k} (omega arith) (below_next c ps h)

-- two logs, one behind the other
ascending_append : (before l m : List Rec) → Ascending before l → Ascending (before ++ l) m → Ascending before (l ++ m)
ascending_append before [] m o h = rw append-nil at h
ascending_append before (r ∷ l) m (a, o) h = (a, ascending_append (before ++ (r ∷ [])) l m o (rw append_assoc h))

-- a number that bounds a log is a state that may stand behind it
state_behind : (n m : ℕ) → n ≤ m → (r : Rec) → RecLow n r → StandsBefore (r_state m) r
state_behind n m h (r_part e) l = tt
state_behind n m h (r_state k) l = omega arith

number_behind : (n c m : ℕ) → n ≤ m + 1 → (r : Rec) → RecBelow n c r → StandsBefore (r_state m) r
number_behind n c m h (r_part e) l = tt
number_behind n c m h (r_state k) l = omega arith

coordinator_order : (x t : ℕ) → x ≤ t → coordinator_of x ≤ coordinator_of t
unfolding coordinator_of
coordinator_order x t h = omega arith

-- not behind in the queue, and no pair twice: below
not_behind : (n m x t : ℕ) → precedes m t n x ≡ false → coordinator_of x ≤ 8 → (n ≡ m → coordinator_of x ≡ coordinator_of t → ⊥)
    → rank n (coordinator_of x) < rank m (coordinator_of t)
unfolding precedes
not_behind n m x t e h f =
    by_test (ltb m n)
    (λ a. absurd (set_not true refl (rw a at e)))
    (λ a. by_test (eqb m n)
    (λ b. let k = eqb-true m n b in omega (arith, f (sym k), coordinator_order x t (ltb-false t x (rw (a, b) at e))))
    (λ b. let k = eqb-false m n b in omega (arith, ltb-false m n a)))

decided_queued : (b : Sub) → b.course.stage ≡ stage.decided → is_queued b ≡ true
unfolding is_queued
decided_queued b e = rw e

-- who voted yes and is held stands in the queue
pub yes_queued : {p : Protocol} → Courses p → (s t : ℕ) → Held p s t → p.yes s t ≡ true
    → AtStage p s t stage.queued ⊎ AtStage p s t stage.decided
yes_queued {p} c s t h y =
    by_same (course_at p s t).stage stage.queued (λ e. inl e)
    (λ n. by_same (course_at p s t).stage stage.decided (λ e. inr e)
    (λ m. by_same (course_at p s t).stage stage.active
    (λ e. absurd (set_not _ y (c.active s t e).1))
    (λ k. by_same (course_at p s t).stage stage.prepared
    (λ e. absurd (set_not _ y (c.prepared s t e).1))
    (λ l. absurd (set_not _ y (c.rejected s t (omega (arith, c.stages s t, h))))))))

yes_open : {p : Protocol} → Courses p → (s t : ℕ) → Held p s t → (AtStage p s t stage.decided → ⊥) → p.yes s t ≡ true
    → AtStage p s t stage.queued
yes_open {p} c s t h n y =
    ⊎_elim (λ (e : AtStage p s t stage.queued). e) (λ (e : AtStage p s t stage.decided). absurd (n e)) (yes_queued c s t h y)

-- not before in the queue, by number alone
not_lower : (n m x t : ℕ) → precedes m t n x ≡ false → n ≤ m
unfolding precedes
not_lower n m x t e = by_test (ltb m n) (λ a. absurd (set_not true refl (rw a at e))) (λ a. ltb-false m n a)

open_queued : (b : Sub) → b.course.stage ≡ stage.queued → is_queued b ≡ true
unfolding is_queued
open_queued b e = rw e

module _ {house : House} (few : house.sites ≤ 8) {p : Protocol} (i : Invariant house p) {q : Protocol} (c : Change house p q)
    (k : Account q) where
  -- an open mark stays above what is written
  open_kept : (s t : ℕ) → AtStage p s t stage.queued → All (RecLow (course_at p s t).number) (q.log s)
  unfolding entry_of queued_before
  open_kept s t x = go (c.logs s)
    where
      go : Logged p s (q.log s) → All (RecLow (course_at p s t).number) (q.log s)
      go (l_same e) = rw e (i.order.queued s t x)
      go (l_part u d l e) =
          rw e (all_append (i.order.queued s t x)
          (all_one (not_lower _ _ (p.live s u).tx (p.live s t).tx (l t (open_queued (p.live s t) x)))))
      go (l_state n st e) = rw e (all_append (i.order.queued s t x) (all_one (st.marks t x)))

  -- the mark of a yes: the clock of this move, or that of a part which was open
  marked : (s t : ℕ) → q.yes s t ≡ true → (p.yes s t ≡ true → AtStage p s t stage.queued) → All (RecLow (q.queue_mark s t)) (q.log s)
  marked s t y x = go (c.news.yes s t y)
    where
      go : (p.yes s t ≡ true) ⊎ YesNow p q s t (q.queue_mark s t) → All (RecLow (q.queue_mark s t)) (q.log s)
      go (inl e) = rw ((c.later.yes s t e).1, ← (i.courses.queued s t (x e)).1) (open_kept s t (x e))
      go (inr (u, v, e, z, m)) = rw e (log_low i c s)

  queued : (s t : ℕ) → AtStage q s t stage.queued → All (RecLow (course_at q s t).number) (q.log s)
  queued s t x = let (y, n) = c.courses.queued s t x in rw n (marked s t y (was (c.turns s t)))
    where
      was : Turn p q s t (q.live s t) → p.yes s t ≡ true → AtStage p s t stage.queued
      was (t_stays e d f) y = sym d ∙ x
      was (t_moves e d f g u v) y = yes_open i.courses s t d f y
      was (t_reads e d f g u v) y = absurd (omega arith)
      was (t_aborts e d f g) y = absurd (omega arith)
      was (t_installs e d f g) y = absurd (omega arith)
      was (t_begins d e f g) y = absurd (omega arith)

  -- the queue's least is below every other that is decided there
  least_below : (s u t : ℕ) → AtStage p s u stage.decided → LeastQueued p s u → AtStage p s t stage.decided → (u ≡ t → ⊥)
      → RecBelow (p.num t) (coordinator_of t) (r_part (entry_of (p.live s u)))
  unfolding entry_of queued_before
  least_below s u t d l x n =
      let e : (p.live s u).tx ≡ u = i.parts.tx s u (λ f. omega arith) in
      let f : (p.live s t).tx ≡ t = i.parts.tx s t (λ f. omega arith) in
      let (y, m, g) = i.courses.decided s u d in
      let b : precedes (p.num t) t (p.num u) u ≡ false =
      rw ((i.courses.decided s t x).1, m, e, f) at (l t (decided_queued (p.live s t) x)) in
      rw (e, m) (not_behind (p.num u) (p.num t) u t b (low_coordinator few i.parts s u (i.parts.has s u (λ f. omega arith)))
      (λ z o. n (i.clocks.once u t g z o)))

  -- an installed part is free
  gone : (s t : ℕ) → Installed q s t → AtStage q s t stage.decided → ⊥
  gone s t (j, (l, e)) d = let f = rw e at (c.parts.entry_gone s j l) in omega arith

  -- a decided pair stays above what is written
  still_above : (s t : ℕ) → AtStage p s t stage.decided → AtStage q s t stage.decided
      → All (RecBelow (p.num t) (coordinator_of t)) (q.log s)
  unfolding entry_of
  still_above s t x y = go (c.logs s)
    where
      go : Logged p s (q.log s) → All (RecBelow (p.num t) (coordinator_of t)) (q.log s)
      go (l_same e) = rw e (i.order.decided s t x)
      go (l_part u d l e) = rw e (all_append (i.order.decided s t x) (all_one (least_below s u t d l x other)))
        where
          other : u ≡ t → ⊥
          other z = gone s t (rw z at (installed_last p s u _ (i.parts.tx s u (λ f. omega arith)) e)) y
      go (l_state n st e) =
          let z = i.courses.decided s t x in
          rw e (all_append (i.order.decided s t x) (all_one (omega (arith, st.numbers t x, z.1, z.2))))

  -- a number is above the mark, and the mark at or above the log
  decided_now : (s t : ℕ) → AtStage q s t stage.decided → (p.yes s t ≡ true → AtStage p s t stage.queued)
      → All (RecBelow (q.num t) (coordinator_of t)) (q.log s)
  decided_now s t x w =
      let (y, e, n) = c.courses.decided s t x in
      let l = (committed_yes c.parts k t n s (c.parts.has s t (λ f. omega arith))).1 in
      let z : q.num t - 1 + 1 ≡ q.num t = omega arith in
      rw z at (below_next (coordinator_of t) (all_map (low_more (q.queue_mark s t) (q.num t - 1) (omega arith)) (marked s t y w))
      (λ j b. low_coordinator few c.parts s _ (c.parts.entry_has s j b)))

  decided : (s t : ℕ) → AtStage q s t stage.decided → All (RecBelow (q.num t) (coordinator_of t)) (q.log s)
  decided s t x = go (c.turns s t)
    where
      before : AtStage p s t stage.decided → All (RecBelow (q.num t) (coordinator_of t)) (q.log s)
      before y = rw (c.later.num t (i.courses.decided s t y).2) (still_above s t y x)

      go : Turn p q s t (q.live s t) → All (RecBelow (q.num t) (coordinator_of t)) (q.log s)
      go (t_stays e d f) = before (sym d ∙ x)
      go (t_moves e d f g u v) = decided_now s t x (yes_open i.courses s t d f)
      go (t_reads e d f g u v) = absurd (omega arith)
      go (t_aborts e d f g) = absurd (omega arith)
      go (t_installs e d f g) = absurd (omega arith)
      go (t_begins d e f g) = absurd (omega arith)

  ascends : (s : ℕ) → Ascending [] (q.log s)
  unfolding entry_of
  ascends s = go (c.logs s)
    where
      go : Logged p s (q.log s) → Ascending [] (q.log s)
      go (l_same e) = rw e (i.order.ascends s)
      go (l_part u x l e) =
          let (y, n, z) = i.courses.decided s u x in
          let f = i.parts.tx s u (λ f. omega arith) in
          rw e (ascending_append [] (p.log s) _ (i.order.ascends s) (rw (n, f) (i.order.decided s u x), tt))
      go (l_state n x e) = rw e (ascending_append [] (p.log s) _ (i.order.ascends s) (behind x.is, tt))
        where
          behind : Bound p s n → All (StandsBefore (r_state n)) (p.log s)
          behind (inl k) = all_map (state_behind (p.clock s) n (omega arith)) (i.clocks.log s)
          behind (inr (inl (u, g, k))) = all_map (state_behind (course_at p s u).number n (omega arith)) (i.order.queued s u g)
          behind (inr (inr (u, g, k))) =
              let z = (i.courses.decided s u g).1 in
              all_map (number_behind (p.num u) (coordinator_of u) n (omega arith)) (i.order.decided s u g)

  held : (t : ℕ) → 0 < q.num t → OwnStage q t stage.decided ⊎ Installed q (coordinator_of t) t
  held t n = go (c.news.num t n)
    where
      old : OwnStage p t stage.decided ⊎ Installed p (coordinator_of t) t → OwnStage q t stage.decided ⊎ Installed q (coordinator_of t) t
      old (inl a) = decided_kept i c (coordinator_of t) t a
      old (inr a) = inr (still_installed i c (coordinator_of t) t a)

      go : (0 < p.num t) ⊎ NumNow p q t (q.num t) → OwnStage q t stage.decided ⊎ Installed q (coordinator_of t) t
      go (inl a) = old (i.order.held t a)
      go (inr (x, y, e, z, o)) = inl z

pub order_step : (house : House) (p q : Protocol) → house.sites ≤ 8 → Move house p q → Invariant house p → Order q
order_step house p q few m i =
    let c = change house p q few m i in
    let k = account_step house p q few m i in
    record { queued = queued few i c k; decided = decided few i c k; ascends = ascends few i c k; held = held few i c k }

pub order_fresh : Order fresh_protocol
unfolding fresh_protocol no_sub
order_fresh =
    record {
      queued = λ s t h. absurd (omega arith);
      decided = λ s t h. absurd (omega arith);
      ascends = λ s. tt;
      held = λ t h. absurd (omega arith);
    }
