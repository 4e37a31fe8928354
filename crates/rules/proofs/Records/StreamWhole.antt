-- A due record is whole: at each participant its part is at the head. What stands before it in a log is below it, so were the head another,
-- or the queue empty, the record would not be due; and it is not yet emitted.
use Prim.Native.Nat.{ℕ, ◌≤◌, ◌<◌}
use mathlib.Core.Path.{◌≡◌, refl, sym, ap, ◌∙◌}
use mathlib.Core.Bool.{true, false}
use mathlib.Core.Logic.{◌⊎◌, inl, inr, ⊎_elim}
use mathlib.Core.List.{List, [], ◌∷◌}
use native.Mathlib.Omega.{arith}
use lib.ListN.{length}
use Rattle.kinds.specs.declared.House.{House}
use Rattle.laws.specs.Choice.{by_test, set_not}
use Rattle.kinds.specs.Stage as stage
use Rattle.kinds.specs.declared.Entry.{Entry}
use Rattle.rules.specs.House.{coordinator_of, in_mask}
use Rattle.rules.proofs.Protocol.ProtocolTables.{Protocol, inst}
use Rattle.rules.proofs.Protocol.Protocol.{AtStage}
use Rattle.rules.proofs.Protocol.Invariants.{Held, at, In, Installed, Invariant}
use Rattle.rules.proofs.Protocol.Committed.{committed_asked, committed_alive, committed_in}
use Rattle.rules.proofs.Steps.StepOrder.{yes_queued}
use Rattle.rules.proofs.Stream.Stream.{Merger, rank_of, DueAt, WholeAt}
use Rattle.rules.proofs.Stream.StreamInv.{Out, Streamed, Real, gone, head_real, not_gone}
use Rattle.rules.proofs.Stream.StreamDue.{head_low, head_not_out, due_low, due_below, due_behind}

module _ {house : House} (few : house.sites ≤ 8) {p : Protocol} {m : Merger} (inv : Invariant house p) (i : Streamed house p m) where
  -- g, a part that some site installed, and a site s at which it is due
  module _ {k : ℕ} (g : Entry) (real : Real p k g) (low : coordinator_of g.tx ≤ 8) (s : ℕ) (site : 1 ≤ s)
      (due : DueAt g (m.state s) (m.queue s)) where
    abbrev t : ℕ
    t = g.tx

    -- so it is installed there
    installed : p.yes s t ≡ true → p.queue_mark s t < p.num t → Held p s t ⊎ Installed p s t → Installed p s t
    installed y l (inr k) = k
    installed y l (inl h) = absurd (go (yes_queued inv.courses s t h y))
      where
        go : AtStage p s t stage.queued ⊎ AtStage p s t stage.decided → ⊥
        go (inl x) = let n = due_low few inv i g s site due _ (inv.order.queued s t x) in
            omega (arith, real.number, (inv.courses.queued s t x).1)
        go (inr x) = let n = due_below few inv i g s site due low _ _ real.committed (inv.order.decided s t x) in
            omega (arith, real.number)

    -- as the j-th part, and not emitted: at the head
    at_head : in_mask g.mask s ≡ true → (j : ℕ) → j < length (inst p s) → (at p s j).tx ≡ t → length (gone inv i s) ≤ j
        → WholeAt g s (m.queue s)
    at_head o j l e h =
        let a = inv.account.entry s j l in
        let ranks : rank_of (at p s j) ≡ rank_of g = omega (arith, a.0, ap p.num e, real.number, ap coordinator_of e) in
        ⊎_elim
        (λ (b : rank_of g < rank_of (at p s j)). absurd (omega arith))
        (λ (b : (q : List Entry) × (m.queue s ≡ at p s j ∷ q) × (rank_of g ≤ rank_of (at p s j))). rw b.1
        (inl (o, (ranks, e, a.2 ∙ ap p.mask e ∙ sym real.mask))))
        (due_behind few inv i g s site due low j l h)

    -- at a participant
    whole_in : (Out m t → ⊥) → in_mask g.mask s ≡ true → WholeAt g s (m.queue s)
    whole_in out e =
        let o : In (p.mask t) s = (site, rw real.mask at e) in
        let has = inv.account.asked_has t s (committed_asked inv.parts inv.account t real.committed) o in
        let (y, l) = inv.account.voted t s real.committed o in
        let (j, (b, k)) = installed y l (inv.account.kept s t has (committed_alive inv.parts inv.account t real.committed)) in
        at_head e j b k (⊎_elim (λ x. absurd (out (rw k at x))) (λ x. x) (not_gone inv i s j site b))

    -- elsewhere: a pair is one transaction's
    whole_apart : in_mask g.mask s ≡ false → WholeAt g s (m.queue s)
    whole_apart e = go (m.queue s) refl
      where
        other : (x : Entry) (q : List Entry) → m.queue s ≡ x ∷ q → rank_of x ≡ rank_of g → ⊥
        other x q f n =
            let r = head_real inv i s x q site f in
            let h = head_low few inv i s x q site f in
            let u : x.tx ≡ t = inv.clocks.once x.tx t r.committed (omega (arith, r.number, real.number)) (omega arith) in
            set_not _ (rw (real.mask, ← u) (committed_in inv.parts inv.account x.tx r.committed s r.has).1) e

        go : (q : List Entry) → m.queue s ≡ q → WholeAt g s q
        go [] f = e
        go (x ∷ q) f = inr (e, other x q f)

    whole_there : (Out m t → ⊥) → WholeAt g s (m.queue s)
    whole_there out = by_test (in_mask g.mask s) (whole_in out) whole_apart

  -- the head of some queue, where it is due at a site
  pub due_whole : (k : ℕ) (g : Entry) (r : List Entry) → 1 ≤ k → m.queue k ≡ g ∷ r → (s : ℕ) → 1 ≤ s → DueAt g (m.state s) (m.queue s)
      → WholeAt g s (m.queue s)
  due_whole k g r l q s h d =
      whole_there g (head_real inv i k g r l q) (head_low few inv i k g r l q) s h d (head_not_out few inv i k g r l q)
