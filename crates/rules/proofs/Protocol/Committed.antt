-- A committed transaction: its commit was asked for, it is not dead, it has a part at its coordinator, and where it has a part it voted
-- yes.
use Prim.Native.Nat.{ℕ, ◌≤◌, ◌<◌}
use mathlib.Core.Path.{◌≡◌}
use mathlib.Core.Bool.{true, false}
use mathlib.Core.Logic.{◌⊎◌, inl, inr}
use native.Mathlib.Omega.{arith}
use Rattle.kinds.specs.declared.House.{House}
use Rattle.laws.specs.Choice.{unset}
use Rattle.kinds.specs.Stage as stage
use Rattle.rules.specs.House.{coordinator_of}
use Rattle.rules.proofs.Protocol.ProtocolTables.{Protocol}
use Rattle.rules.proofs.Protocol.Protocol.{AtStage}
use Rattle.rules.proofs.Protocol.Invariants.{In, Installed, Parts, Account, Invariant}

module _ {house : House} {p : Protocol} (k : Parts house p) (a : Account p) (u : ℕ) (n : 0 < p.num u) where
  pub committed_asked : p.asked u ≡ true
  committed_asked = a.certed_asked u (a.num_certed u n)

  pub committed_alive : p.dead u ≡ false
  committed_alive = unset _ (λ d. let z = (a.dead u d).0 in omega arith)

  pub committed_in : (s : ℕ) → p.has s u ≡ true → In (p.mask u) s
  committed_in s h = ((k.site s u h).0, a.has_asked u s committed_asked h)

  pub committed_yes : (s : ℕ) → p.has s u ≡ true → (p.yes s u ≡ true) × (p.queue_mark s u < p.num u)
  committed_yes s h = a.voted u s n (committed_in s h)

-- coordinators are sites
pub low_coordinator : {house : House} {p : Protocol} → house.sites ≤ 8 → Parts house p → (s t : ℕ) → p.has s t ≡ true
    → coordinator_of t ≤ 8
low_coordinator h k s t x = let z = k.site _ t (k.coordinator s t x) in omega arith

-- a committed transaction has a part at its coordinator
pub coordinator_has : {house : House} {p : Protocol} → Invariant house p → (t : ℕ) → 0 < p.num t → p.has (coordinator_of t) t ≡ true
coordinator_has {p = p} i t n = go (i.order.held t n)
  where
    go : AtStage p (coordinator_of t) t stage.decided ⊎ Installed p (coordinator_of t) t → p.has (coordinator_of t) t ≡ true
    go (inl x) = i.parts.has (coordinator_of t) t (λ f. omega arith)
    go (inr (j, (l, e))) = rw e at (i.parts.entry_has (coordinator_of t) j l)

pub coordinator_site : {house : House} {p : Protocol} → Invariant house p → (t : ℕ) → 0 < p.num t
    → (1 ≤ coordinator_of t) × (coordinator_of t ≤ house.sites)
coordinator_site i t n = i.parts.site (coordinator_of t) t (coordinator_has i t n)
