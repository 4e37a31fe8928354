-- A drained house: the merger has taken every log, and each has a state at or above n. What is committed up to n is installed at its
-- coordinator, since a state stands below what comes behind it; so it was emitted, or is queued there behind a head not above it.
use Prim.Native.Nat.{ℕ, zero, suc, ◌≤◌, ◌<◌}
use mathlib.Core.Path.{◌≡◌, refl, ap, ◌∙◌}
use mathlib.Core.Logic.{◌⊎◌, inl, inr, ⊎_elim}
use mathlib.Core.List.{List, [], ◌∷◌, ◌++◌}
use native.Mathlib.Nat.{eq-or-lt_of_le}
use native.Mathlib.Omega.{arith}
use lib.ListN.{length, drop, length-append, drop_of_length-le}
use Rattle.kinds.specs.declared.House.{House}
use Rattle.laws.specs.Pair.{rank}
use Rattle.kinds.specs.Stage as stage
use Rattle.kinds.specs.declared.Entry.{Entry}
use Rattle.rules.specs.House.{coordinator_of}
use Rattle.rules.proofs.Lists.Tables.{all_take}
use Rattle.rules.proofs.Protocol.ProtocolTables.{Protocol, inst}
use Rattle.rules.proofs.Protocol.Protocol.{AtStage}
use Rattle.rules.proofs.Protocol.Invariants.{at, Installed, Invariant}
use Rattle.rules.proofs.Stream.Stream.{Merger, rank_of, item_rank}
use Rattle.rules.proofs.Stream.StreamInv.{item_at, Out, Streamed, gone, inst_split, head_at_lem, not_gone}
use Rattle.rules.proofs.Stream.StreamDue.{end_below, parts_ascend}
use Rattle.rules.proofs.Protocol.Committed.{coordinator_site}

abbrev pub DrainedAt : Protocol → Merger → ℕ → ℕ → Type 0
DrainedAt p m n s = (m.took s ≡ length (p.log s)) × (n ≤ m.state s)

-- the head at s is not above t
abbrev pub HeadUpTo : Protocol → Merger → ℕ → ℕ → Type 0
HeadUpTo p m t s = (e : Entry) × (l : List Entry) × (m.queue s ≡ e ∷ l) × (rank_of e ≤ rank (p.num t) (coordinator_of t))

module _ {house : House} {p : Protocol} {m : Merger} (inv : Invariant house p) (i : Streamed house p m) where
  -- n items have n ranks
  pub rank_index : (j : ℕ) → j < length m.out → j ≤ item_rank (item_at m j)
  rank_index zero h = omega arith
  rank_index (suc j) h = omega (arith, rank_index j (omega arith), i.ascends j (suc j) (omega arith) h)

  module _ (t : ℕ) (committed : 0 < p.num t) where
    abbrev c : ℕ
    c = coordinator_of t

    site : 1 ≤ c
    site = (coordinator_site inv t committed).0

    -- all taken: what was not emitted is queued
    queued_there : (j : ℕ) → j < length (inst p c) → (at p c j).tx ≡ t → length (gone inv i c) ≤ j → m.took c ≡ length (p.log c)
        → HeadUpTo p m t c
    queued_there j l e h k = go (m.queue c) refl
      where
        all : drop (m.took c) (p.log c) ≡ []
        all = drop_of_length-le (p.log c) {i = m.took c} (omega arith)

        number : (at p c j).number ≡ p.num t
        number = (inv.account.entry c j l).0 ∙ ap p.num e

        go : (q : List Entry) → m.queue c ≡ q → HeadUpTo p m t c
        go [] f =
            let s : inst p c ≡ gone inv i c ++ [] = rw (f, all) at (inst_split inv i c site) in
            absurd (omega (arith, ap length s, length-append (gone inv i c) []))
        go (x ∷ q) f =
            let (n, b) = head_at_lem inv i c x q site f in (
              x,
              q,
              f,
              ⊎_elim
                  (λ (z : length (gone inv i c) ≡ j).
                  let y : at p c j ≡ x = rw z at b in
                  omega (arith, number, ap (λ (y : Entry). y.number) y, ap (λ (y : Entry). coordinator_of y.tx) y, ap coordinator_of e))
                  (λ (z : length (gone inv i c) < j).
                  let v : rank_of x < rank_of (at p c j) = rw b at (parts_ascend [] (p.log c) (inv.order.ascends c) _ j z l) in
                  omega (arith, number, ap coordinator_of e))
                  (eq-or-lt_of_le h),
            )

    pub drained_head : (n : ℕ) → p.num t ≤ n → DrainedAt p m n c → Out m t ⊎ HeadUpTo p m t c
    drained_head n u (k, b) = go (inv.order.held t committed)
      where
        go : AtStage p c t stage.decided ⊎ Installed p c t → Out m t ⊎ HeadUpTo p m t c
        go (inl x) =
            absurd (omega (arith, (i.source c).ends, end_below _ 0 (all_take (m.took c) (p.log c) (inv.order.decided c t x)) committed))
        go (inr (j, (l, e))) = ⊎_elim (λ x. inl (rw e at x)) (λ x. inr (queued_there j l e x k)) (not_gone inv i c j site l)
