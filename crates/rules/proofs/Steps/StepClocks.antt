-- Clocks after a move: no clock falls, and what is new is at most the clock, or one above it.
use Prim.Native.Nat.{ℕ, zero, suc, ◌≤◌, ◌<◌}
use mathlib.Core.Path.{◌≡◌, refl, sym, ap, ◌∙◌}
use mathlib.Core.Bool.{true, false}
use mathlib.Core.Logic.{◌⊎◌, inl, inr}
use mathlib.Core.List.{List}
use native.Mathlib.Omega.{arith}
use borrow.Author.Tests.{eqb-true, eqb-false}
use lib.Dec.{eqb}
use lib.ListN.{length, get_or}
use Rattle.kinds.specs.declared.House.{House}
use Rattle.laws.specs.Choice.{by_test, set_not}
use Rattle.kinds.specs.Stage as stage
use Rattle.kinds.specs.State.{no_sub, past_entry}
use Rattle.rules.specs.House.{coordinator_of}
use Rattle.rules.specs.Install.{entry_of}
use Rattle.rules.proofs.Lists.Tables.{All, a_nil, a_cons, all_map, all_append, all_one}
use Rattle.rules.proofs.Protocol.ProtocolTables.{Protocol, Rec, r_part, r_state, parts_of}
use Rattle.rules.proofs.Protocol.Protocol.{AtStage, course_at, Move, fresh_protocol}
use Rattle.rules.proofs.Protocol.Invariants.{at, RecLow, Clocks, Invariant}
use Rattle.rules.proofs.Protocol.Turns.{Turn, t_stays, t_moves, t_reads, t_aborts, t_installs, t_begins, Logged, l_same, l_part}
use Rattle.rules.proofs.Protocol.Turns.{l_state}
use Rattle.rules.proofs.Protocol.News.{YesNow, NumNow}
use Rattle.rules.proofs.Protocol.Changes.{Change, change, snap_has, saw}
use Rattle.rules.proofs.Steps.StepAccount.{part_had}

pub low_more : (n m : ℕ) → n ≤ m → (r : Rec) → RecLow n r → RecLow m r
low_more n m h (r_part e) l = omega arith
low_more n m h (r_state k) l = omega arith

low_at : {n : ℕ} {l : List Rec} → All (RecLow n) l → (j : ℕ) → j < length (parts_of l) → (get_or (parts_of l) j past_entry).number ≤ n
low_at a_nil j h = absurd (omega arith)
low_at (a_cons {x = r_part e} p ps) zero h = p
low_at (a_cons {x = r_part e} p ps) (suc j) h = low_at ps j (omega arith)
low_at (a_cons {x = r_state k} p ps) j h = low_at ps j h

module _ {house : House} {p : Protocol} (i : Invariant house p) {q : Protocol} (c : Change house p q) where
  -- what is new in a log was not above the clock
  pub log_low : (s : ℕ) → All (RecLow (p.clock s)) (q.log s)
  unfolding entry_of
  log_low s = go (c.logs s)
    where
      go : Logged p s (q.log s) → All (RecLow (p.clock s)) (q.log s)
      go (l_same e) = rw e (i.clocks.log s)
      go (l_part t d f e) = rw e (all_append (i.clocks.log s) (all_one (i.clocks.decided s t d)))
      go (l_state n a e) = rw e (all_append (i.clocks.log s) (all_one a.clock))

  queued : (s t : ℕ) → AtStage q s t stage.queued → (course_at q s t).number ≤ q.clock s
  queued s t x = go (c.turns s t)
    where
      go : Turn p q s t (q.live s t) → (course_at q s t).number ≤ q.clock s
      go (t_stays e a b) = omega (arith, c.later.clock s, i.clocks.queued s t (sym a ∙ x))
      go (t_moves e a b d f g) = omega (arith, (c.courses.queued s t x).1, f x)
      go (t_reads e a b d f g) = absurd (omega arith)
      go (t_aborts e a b d) = absurd (omega arith)
      go (t_installs e a b d) = absurd (omega arith)
      go (t_begins a b d e) = absurd (omega arith)

  decided : (s t : ℕ) → AtStage q s t stage.decided → (course_at q s t).number ≤ q.clock s
  decided s t x = go (c.turns s t)
    where
      go : Turn p q s t (q.live s t) → (course_at q s t).number ≤ q.clock s
      go (t_stays e a b) = omega (arith, c.later.clock s, i.clocks.decided s t (sym a ∙ x))
      go (t_moves e a b d f g) = omega (arith, (c.courses.decided s t x).1, g x)
      go (t_reads e a b d f g) = absurd (omega arith)
      go (t_aborts e a b d) = absurd (omega arith)
      go (t_installs e a b d) = absurd (omega arith)
      go (t_begins a b d e) = absurd (omega arith)

  -- a new number lies above all of its coordinator's
  new_above : (t u : ℕ) → NumNow p q t (q.num t) → q.num t ≡ q.num u → coordinator_of t ≡ coordinator_of u → t ≡ u
  new_above t u (x, y, e, z, o) n k =
      by_test (eqb u t)
      (λ f. sym (eqb-true u t f))
      (λ f. absurd (omega (arith, e, n, o u (eqb-false u t f), i.clocks.num u, ap p.clock k)))

  once : (t u : ℕ) → 0 < q.num t → q.num t ≡ q.num u → coordinator_of t ≡ coordinator_of u → t ≡ u
  once t u l e k = go (c.news.num t l) (c.news.num u (omega arith))
    where
      go : (0 < p.num t) ⊎ NumNow p q t (q.num t) → (0 < p.num u) ⊎ NumNow p q u (q.num u) → t ≡ u
      go (inl a) (inl b) = i.clocks.once t u a (sym (c.later.num t a) ∙ e ∙ c.later.num u b) k
      go (inl a) (inr b) = sym (new_above u t b (sym e) (sym k))
      go (inr a) (inl b) = new_above t u a e k
      go (inr a) (inr b) = new_above t u a e k

  num : (t : ℕ) → q.num t ≤ q.clock (coordinator_of t)
  num t =
      by_test (eqb (q.num t) 0)
      (λ e. omega (arith, eqb-true (q.num t) 0 e))
      (λ e. let n = eqb-false (q.num t) 0 e in go (c.news.num t (omega arith)))
    where
      go : (0 < p.num t) ⊎ NumNow p q t (q.num t) → q.num t ≤ q.clock (coordinator_of t)
      go (inl a) = omega (arith, c.later.num t a, i.clocks.num t, c.later.clock (coordinator_of t))
      go (inr (x, y, e, z, o)) = omega (arith, (c.courses.decided (coordinator_of t) t z).1, decided (coordinator_of t) t z)

  mark : (s t j : ℕ) → q.yes s t ≡ true → j < q.snap s t → (at q s j).number ≤ q.queue_mark s t
  mark s t j y l = go (c.news.yes s t y)
    where
      go : (p.yes s t ≡ true) ⊎ YesNow p q s t (q.queue_mark s t) → (at q s j).number ≤ q.queue_mark s t
      go (inl e) =
          let a = (c.later.asked t (i.account.certed_asked t (i.account.yes s t e).0)).0 in
          let k = saw i c s t j (part_had i c t s a (snap_has i c s t (omega arith))) l in
          rw (k.2, (c.later.yes s t e).1) (i.clocks.mark s t j e k.0)
      go (inr (x, v, e, a, b)) =
          let k = saw i c s t j (i.parts.has s t (λ f. omega arith)) l in
          rw (k.2, e) (low_at (i.clocks.log s) j k.1)

  pub clocks_of : Clocks q
  clocks_of =
      record {
        log = λ s. all_map (low_more _ _ (c.later.clock s)) (log_low s);
        queued = queued;
        decided = decided;
        num = num;
        once = once;
        mark = mark;
      }

pub clocks_step : (house : House) (p q : Protocol) → house.sites ≤ 8 → Move house p q → Invariant house p → Clocks q
clocks_step house p q h m i = clocks_of i (change house p q h m i)

pub clocks_fresh : Clocks fresh_protocol
unfolding fresh_protocol no_sub
clocks_fresh =
    record {
      log = λ s. a_nil;
      queued = λ s t h. omega arith;
      decided = λ s t h. omega arith;
      num = λ t. omega arith;
      once = λ t u h. absurd (omega arith);
      mark = λ s t j h. absurd (set_not false h refl);
    }
