-- Writers after a move: a key is written only where no other held part has it, and no install after the snapshot.
use Prim.Native.Nat.{ℕ, ◌≤◌, ◌<◌}
use mathlib.Core.Path.{◌≡◌, refl, sym, ◌∙◌}
use mathlib.Core.Bool.{true}
use mathlib.Core.Logic.{◌⊎◌, inl, inr}
use native.Mathlib.Omega.{arith}
use borrow.Author.Tests.{ltb-true, ltb-false}
use lib.Dec.{ltb}
use lib.ListN.{length}
use Rattle.kinds.specs.declared.House.{House}
use Rattle.laws.specs.Choice.{by_test, unset, set_not}
use Rattle.kinds.specs.State.{no_sub}
use Rattle.rules.specs.KeysLaws.{none_written}
use Rattle.rules.specs.Keys.{wrote_key}
use Rattle.rules.specs.Install.{entry_of}
use Rattle.rules.proofs.Protocol.ProtocolTables.{Protocol, inst}
use Rattle.rules.proofs.Protocol.Protocol.{Move, fresh_protocol}
use Rattle.rules.proofs.Protocol.Invariants.{Held, at, Writers, Invariant}
use Rattle.rules.proofs.Protocol.Turns.{Unwritten, Turn, t_stays, t_moves, t_reads, t_aborts, t_installs, t_begins}
use Rattle.rules.proofs.Protocol.Changes.{Change, change, InstalledNow, stands, stood, part_new, snap_kept, keys_kept}

-- t, held, wrote k: before the move, or in it, where it alone wrote
abbrev Wrote : Protocol → Protocol → ℕ → ℕ → ℕ → Type 0
Wrote p q s t k = (wrote_key (p.keys s t) k ≡ true) ⊎ (Unwritten p s t k × ((u : ℕ) → (u ≡ t → ⊥) → q.keys s u ≡ p.keys s u))

module _ {house : House} {p : Protocol} (i : Invariant house p) {q : Protocol} (c : Change house p q) where
  wrote : (s t k : ℕ) → Held q s t → wrote_key (q.keys s t) k ≡ true → Held p s t × Wrote p q s t k
  wrote s t k h w = go (c.turns s t)
    where
      go : Turn p q s t (q.live s t) → Held p s t × Wrote p q s t k
      go (t_stays e a b) = ((λ f. h (a ∙ f)), inl (rw e.2 at w))
      go (t_moves e a b d f g) = (a, inl (rw e.2 at w))
      go (t_reads e a b d f g) =
          let x : Held p s t = λ z. omega arith in
          by_test (wrote_key (p.live s t).keys k)
          (λ z. (x, inl (rw (i.parts.keys s t x) at z)))
          (λ z. (x, inr (g k w z, f)))
      go (t_aborts e a b d) = absurd (h b)
      go (t_installs e a b d) = absurd (h b)
      go (t_begins a b d e) = absurd (none_written k (rw e at w))

  -- what another held part wrote before
  other : (s t u k : ℕ) → (t ≡ u → ⊥) → Held p s t → Wrote p q s t k → Held p s u → wrote_key (p.keys s u) k ≡ true → ⊥
  other s t u k n a (inl x) b e = set_not _ e (i.writers.apart s t u k n a b x)
  other s t u k n a (inr (x, f)) b e = set_not _ e (rw (i.parts.keys s u b) at (x.0 u (λ z. n (sym z)) b))

  apart : (s t u k : ℕ) → (t ≡ u → ⊥) → Held q s t → Held q s u → wrote_key (q.keys s t) k ≡ true → wrote_key (q.keys s u) k ≡ true → ⊥
  apart s t u k n h g v w = go (wrote s t k h v) (wrote s u k g w)
    where
      go : Held p s t × Wrote p q s t k → Held p s u × Wrote p q s u k → ⊥
      go (a, x) (b, inl y) = other s t u k n a x b y
      go (a, x) (b, inr (y, f)) = other s u t k (λ z. n (sym z)) b (inr (y, f)) a (rw (f t n) at v)

  -- an entry's transaction had its part before, and wrote no more
  entry_had : (s j : ℕ) → j < length (inst q s) → p.has s (at q s j).tx ≡ true
  entry_had s j m = go (part_new i c s _ (c.parts.entry_has s j m))
    where
      go : (p.has s (at q s j).tx ≡ true) ⊎ Held q s (at q s j).tx → p.has s (at q s j).tx ≡ true
      go (inl h) = h
      go (inr h) = absurd (h (c.parts.entry_gone s j m))

  entry_wrote : (s j k : ℕ) → j < length (inst q s) → wrote_key (q.keys s (at q s j).tx) k ≡ true
      → wrote_key (p.keys s (at q s j).tx) k ≡ true
  entry_wrote s j k m w = let f = c.parts.entry_gone s j m in rw (keys_kept i c s _ (entry_had s j m) (λ z. omega arith)) at w

  after : (s t j k : ℕ) → Held q s t → q.snap s t ≤ j → j < length (inst q s) → wrote_key (q.keys s t) k ≡ true
      → wrote_key (q.keys s (at q s j).tx) k ≡ true → ⊥
  unfolding entry_of
  after s t j k h l m v w = go (wrote s t k h v) (entry_wrote s j k m w) (stood i c s j m)
    where
      old : Held p s t → p.snap s t ≤ j → j < length (inst p s) → wrote_key (p.keys s (at p s j).tx) k ≡ true → Wrote p q s t k → ⊥
      old a b d e (inl x) = set_not _ e (i.writers.after s t j k a b d x)
      old a b d e (inr (x, f)) = set_not _ e (rw (i.parts.entry_keys s j d) at (x.1 j (rw (i.parts.snap s t a) b) d))

      go : Held p s t × Wrote p q s t k → wrote_key (p.keys s (at q s j).tx) k ≡ true
          → (j < length (inst p s)) ⊎ InstalledNow p s j (at q s j) → ⊥
      go (a, x) y (inl d) = old a (rw (snap_kept i c s t (i.parts.has s t a)) at l) d (rw (stands i c s j d).1 at y) x
      go (a, x) y (inr (u, d, f, z, e)) =
          let b : Held p s u = λ z. omega arith in
          let o : (at q s j).tx ≡ u = rw e (i.parts.tx s u b) in
          other s t u k (λ (n : t ≡ u). h (rw (o ∙ sym n) at (c.parts.entry_gone s j m))) a x b (rw o at y)

  seen : (s j m k : ℕ) → j < m → m < length (inst q s) → wrote_key (q.keys s (at q s j).tx) k ≡ true
      → wrote_key (q.keys s (at q s m).tx) k ≡ true
      → j < q.snap s (at q s m).tx
  unfolding entry_of
  seen s j m k l n v w =
      rw (snap_kept i c s _ (entry_had s m n)) (go (entry_wrote s j k (omega arith) v) (entry_wrote s m k n w) (stood i c s m n))
    where
      go : wrote_key (p.keys s (at q s j).tx) k ≡ true → wrote_key (p.keys s (at q s m).tx) k ≡ true
          → (m < length (inst p s)) ⊎ InstalledNow p s m (at q s m)
          → j < p.snap s (at q s m).tx
      go x y (inl d) =
          let a = (stands i c s j (omega arith)).1 in
          let b = (stands i c s m d).1 in
          rw b (i.writers.seen s j m k l d (rw a at x) (rw b at y))
      go x y (inr (u, d, f, z, e)) =
          let b : Held p s u = λ z. omega arith in
          let o : (at q s m).tx ≡ u = rw e (i.parts.tx s u b) in
          let h : j < length (inst p s) = omega arith in
          rw o (by_test (ltb j (p.snap s u))
          (λ t. ltb-true j (p.snap s u) t)
          (λ t. absurd
          (set_not _ (rw (stands i c s j h).1 at x) (i.writers.after s u j k b (ltb-false j (p.snap s u) t) h (rw o at y)))))

pub writers_step : (house : House) (p q : Protocol) → house.sites ≤ 8 → Move house p q → Invariant house p → Writers q
writers_step house p q h m i =
    let c = change house p q h m i in
    record {
      apart = λ s t u k n a b v. unset _ (apart i c s t u k n a b v);
      after = λ s t j k a l n v. unset _ (after i c s t j k a l n v);
      seen = seen i c;
    }

pub writers_fresh : Writers fresh_protocol
unfolding fresh_protocol no_sub
writers_fresh =
    record {
      apart = λ s t u k n a. absurd (a refl);
      after = λ s t j k a. absurd (a refl);
      seen = λ s j m k l n. absurd (omega arith);
    }
