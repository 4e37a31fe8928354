-- What demand 3 says of two committed transactions, at the machine's level: a pair names one transaction, the later writer of a key saw the
-- earlier, and what a transaction saw at one site and missed at another is independent of it everywhere.
use Prim.Native.Nat.{ℕ, ◌≤◌, ◌<◌}
use mathlib.Core.Path.{◌≡◌, sym, ap, ◌∙◌}
use mathlib.Core.Bool.{Bool, true, false}
use mathlib.Core.Logic.{◌⊎◌, inl, inr, ⊎_elim}
use mathlib.Core.List.{List}
use native.Mathlib.Nat.{eq-or-lt_of_le}
use native.Mathlib.Omega.{arith}
use borrow.Author.Tests.{ltb-true, ltb-false, eq-eqb}
use lib.Dec.{ltb}
use lib.ListN.{length}
use Rattle.kinds.specs.declared.House.{House}
use Rattle.laws.specs.Choice.{by_test, unset, set_not}
use Rattle.laws.specs.Pair.{rank}
use Rattle.rules.specs.House.{coordinator_of, serial_of}
use Rattle.rules.specs.Message.{entry_mark}
use Rattle.rules.specs.Keys.{wrote_key, dependent}
use Rattle.rules.proofs.Protocol.ProtocolTables.{Protocol, inst}
use Rattle.rules.proofs.Protocol.Protocol.{Listed, Within}
use Rattle.rules.proofs.Protocol.Invariants.{Held, at, Installed, Seen, Invariant}
use Rattle.rules.proofs.Protocol.Committed.{committed_alive, committed_in, committed_yes, low_coordinator}

positive_tx : (u : ℕ) → 1 ≤ serial_of u → 0 < u
unfolding serial_of
positive_tx u h = omega arith

-- an entry comes with its list
within_listed : (es fs : List ℕ) (u mask : ℕ) (d : Bool) → Within es fs → 0 < u → Listed es u mask d → Listed fs u mask d
within_listed es fs u mask d w z (j, l, (e, a, m)) =
    let (k, o, (f, b, q)) = w j l (rw e z) in
    (k, o, (f ∙ e, (λ r x. b r (a r x)), λ x. q (eq-eqb (entry_mark es j) 1 (m x))))

module _ {house : House} {p : Protocol} (i : Invariant house p) where
  -- a pair names one transaction
  pub pair_once : (t u : ℕ) → 0 < p.num t → p.num t ≡ p.num u → coordinator_of t ≡ coordinator_of u → t ≡ u
  pair_once = i.clocks.once

  -- what a committed transaction saw has a lower number
  pub seen_lower : (s t u : ℕ) → 0 < p.num t → Seen p s t u → p.num u < p.num t
  seen_lower s t u n (j, (l, e), k) =
      let y = committed_yes i.parts i.account t n s (i.account.snap s t (omega arith)) in
      let z : (at p s j).number ≡ p.num u = (i.account.entry s j l).0 ∙ ap p.num e in
      omega (arith, i.clocks.mark s t j y.0 k, y.1)

  -- (B) of two committed writers of a key the later saw the earlier there
  module _ (h : house.sites ≤ 8) (s t u k : ℕ) (nt : 0 < p.num t) (nu : 0 < p.num u) (n : t ≡ u → ⊥) (ht : p.has s t ≡ true)
      (hu : p.has s u ≡ true)
      (wt : wrote_key (p.keys s t) k ≡ true) (wu : wrote_key (p.keys s u) k ≡ true)
      (below : rank (p.num t) (coordinator_of t) < rank (p.num u) (coordinator_of u)) where
    not_seen : Seen p s t u → ⊥
    not_seen x = omega (arith, seen_lower s t u nt x, low_coordinator h i.parts s u hu)

    -- one installed at j, the other held
    held_saw : (x y j : ℕ) → j < length (inst p s) → (at p s j).tx ≡ y → Held p s x → wrote_key (p.keys s x) k ≡ true
        → wrote_key (p.keys s y) k ≡ true → Seen p s x y
    held_saw x y j l e a v w =
        by_test (ltb j (p.snap s x))
        (λ b. (j, (l, e), ltb-true j (p.snap s x) b))
        (λ b. absurd (set_not _ w (rw e at (i.writers.after s x j k a (ltb-false j (p.snap s x) b) l v))))

    -- both installed, y before x
    installed_saw : (x y j m : ℕ) → j < m → m < length (inst p s) → (at p s j).tx ≡ y → (at p s m).tx ≡ x → wrote_key (p.keys s x) k ≡ true
        → wrote_key (p.keys s y) k ≡ true → Seen p s x y
    installed_saw x y j m l b e f v w = (j, (omega arith, e), rw f at (i.writers.seen s j m k l b (rw e w) (rw f v)))

    pub later_saw : Seen p s u t
    later_saw = go (place t ht nt) (place u hu nu)
      where
        place : (x : ℕ) → p.has s x ≡ true → 0 < p.num x → Held p s x ⊎ Installed p s x
        place x a b = i.account.kept s x a (committed_alive i.parts i.account x b)

        go : Held p s t ⊎ Installed p s t → Held p s u ⊎ Installed p s u → Seen p s u t
        go (inl a) (inl b) = absurd (set_not _ wu (i.writers.apart s t u k n a b wt))
        go (inl a) (inr (j, (l, e))) = absurd (not_seen (held_saw t u j l e a wt wu))
        go (inr (j, (l, e))) (inl b) = held_saw u t j l e b wu wt
        go (inr (j, (l, e))) (inr (m, (b, f))) =
            by_test (ltb j m)
            (λ x. installed_saw u t j m (ltb-true j m x) b e f wu wt)
            (λ x. absurd (⊎_elim
            (λ (z : m ≡ j). n (sym e ∙ ap (λ (v : ℕ). (at p s v).tx) (sym z) ∙ f))
            (λ (z : m < j). not_seen (installed_saw t u m j z l f e wt wu))
            (eq-or-lt_of_le (ltb-false j m x))))

  -- (C) t saw u at s and missed it at r: they are independent wherever both have parts
  module _ (s r t u : ℕ) (nt : 0 < p.num t) (n : t ≡ u → ⊥) (seen : Seen p s t u) (ht : p.has r t ≡ true) (hu : p.has r u ≡ true)
      (missed : Seen p r t u → ⊥) where
    -- a site where t saw u
    module _ (o : ℕ) (saw : Seen p o t u) where
      number : 0 < p.num u
      number = let (j, (l, e), k) = saw in rw e at (i.account.entry o j l).1

      had : p.has o u ≡ true
      had = let (j, (l, e), k) = saw in rw e at (i.parts.entry_has o j l)

      -- its yes, on an entry for u
      on_yes : (d : Bool) → Listed (p.cert t) u (p.mask u) d → (d ≡ true → ⊥) × (dependent (p.keys o t) (p.keys o u) ≡ false)
      on_yes d (j, l, (e, a, m)) =
          let (x, (y, z), w) = saw in
          let b = (committed_yes i.parts i.account t nt o (i.account.snap o t (omega arith))).0 in
          let v = i.lists.yes o t j x b l (a o (committed_in i.parts i.account u number o had).1) (y, z ∙ sym e) w in
          ((λ f. v.0 (m f)), rw e at v.1)

    -- a site where both have parts: t saw u there, or its list has u, and so has the certificate
    covered : (o : ℕ) → p.has o t ≡ true → p.has o u ≡ true
        → Seen p o t u ⊎ Listed (p.cert t) u (p.mask u) (dependent (p.keys o t) (p.keys o u))
    covered o x y = go (i.lists.cover t u o s n k.0 y seen)
      where
        k : (p.made o t ≡ true) × Within (p.list o t) (p.cert t)
        k = i.account.certed t o (i.account.num_certed t nt) (committed_in i.parts i.account t nt o x)

        go : Seen p o t u ⊎ Listed (p.list o t) u (p.mask u) (dependent (p.keys o t) (p.keys o u))
            → Seen p o t u ⊎ Listed (p.cert t) u (p.mask u) (dependent (p.keys o t) (p.keys o u))
        go (inl a) = inl a
        go (inr a) = inr (within_listed (p.list o t) (p.cert t) u (p.mask u) _ k.1 (positive_tx u (i.parts.serial o u y).0) a)

    pub independent : (o : ℕ) → p.has o t ≡ true → p.has o u ≡ true → dependent (p.keys o t) (p.keys o u) ≡ false
    independent o x y = go (covered o x y) (covered r ht hu)
      where
        go : Seen p o t u ⊎ Listed (p.cert t) u (p.mask u) (dependent (p.keys o t) (p.keys o u))
            → Seen p r t u ⊎ Listed (p.cert t) u (p.mask u) (dependent (p.keys r t) (p.keys r u))
            → dependent (p.keys o t) (p.keys o u) ≡ false
        go a (inl b) = absurd (missed b)
        go (inl a) (inr b) = (on_yes o a _ b).1
        go (inr a) (inr b) = unset _ (on_yes s seen _ a).0
