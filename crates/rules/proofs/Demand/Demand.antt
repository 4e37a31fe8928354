-- Demand 3 of a house and its book, from what holds of the machine and what the book has of its tables.
use Prim.Native.Nat.{ℕ, ◌≤◌, ◌<◌}
use mathlib.Core.Path.{◌≡◌, refl, sym, ap, ◌∙◌}
use mathlib.Core.Bool.{true}
use mathlib.Core.Logic.{inl, inr, ⊎_elim}
use mathlib.Core.List.{List}
use native.Mathlib.Omega.{arith}
use lib.ListN.{length}
use Rattle.kinds.specs.declared.House.{House}
use Rattle.laws.specs.Choice.{set_not}
use Rattle.laws.specs.Pair.{precedes_rank}
use Rattle.rules.specs.House.{coordinator_of, GoodHouse}
use Rattle.rules.specs.Keys.{dependent}
use Rattle.rules.specs.KeysLaws.{conflict_dependent}
use Rattle.rules.specs.World.{World}
use Rattle.rules.specs.Book.{Fact}
use Rattle.rules.specs.Claim.{Committed, Dependent, on_write_of_other, on_own_write, Saw, Ordered, WritersInOrder, NoneHalfSeen}
use Rattle.rules.specs.Claim.{Holds}
use Rattle.rules.proofs.Protocol.ProtocolTables.{Protocol, inst}
use Rattle.rules.proofs.Protocol.Invariants.{at, Seen, Invariant}
use Rattle.rules.proofs.Protocol.Committed.{low_coordinator, coordinator_has}
use Rattle.rules.proofs.Steps.MachineClaims.{pair_once, later_saw, independent}
use Rattle.rules.proofs.Stream.Stream.{Stream}
use Rattle.rules.proofs.Stream.StreamReached.{Standing}
use Rattle.rules.proofs.Refine.RefineMerger.{StreamIs}
use Rattle.rules.proofs.Refine.RefineCopies.{copy_stands}
use Rattle.rules.proofs.Book.BookCopies.{BookIs, copy_holds}
use Rattle.rules.proofs.Book.BookReplays.{LastReplays}
use Rattle.rules.proofs.Book.Booked.{home, PairAt, Booked}

module _ {house : House} {p : Protocol} {b : List Fact} (few : house.sites ≤ 8) (i : Invariant house p) (x : Booked house b p) where
  -- a committed transaction has a part at its coordinator, which is a site
  pub low : (t : ℕ) → 0 < p.num t → coordinator_of t < 16
  low t z = let l = low_coordinator few i.parts (coordinator_of t) t (coordinator_has i t z) in omega arith

  book_is : BookIs house b p
  book_is =
      record {
        commit = x.commits.commit;
        committed = x.commits.committed;
        wrote = λ t k z (v, w). x.writes.wrote t k v w;
        last = λ t k z (h, w). (x.writes.last (home house k) t k h w).1;
        low = low;
      }

  ordered : Ordered b
  ordered =
      record {
        one = λ t u n c y z.
            let (a, e, f) = x.commits.commit t n c y in
            let (d, g, h) = x.commits.commit u n c z in
            pair_once i t u a (e ∙ sym g) (f ∙ sym h);
        once = λ t n c m d y z.
            let (a, e, f) = x.commits.commit t n c y in
            let (k, g, h) = x.commits.commit t m d z in
            (sym e ∙ g, sym f ∙ h);
      }

  -- the pair of an install is that of its transaction,
  pub pair_at : (s j t n c : ℕ) → j < length (inst p s) → (at p s j).tx ≡ t → p.num t ≡ n → coordinator_of t ≡ c → PairAt p s j n c
  pair_at s j t n c l e f g = ((i.account.entry s j l).0 ∙ ap p.num e ∙ f, ap coordinator_of e ∙ g)

  -- and of no other
  pub pair_of : (s j t n c : ℕ) → j < length (inst p s) → PairAt p s j n c → Committed b t n c → (at p s j).tx ≡ t
  pair_of s j t n c l (g, k) y =
      let (a, e, f) = x.commits.commit t n c y in
      let (o, q, _, _) = i.account.entry s j l in
      pair_once i (at p s j).tx t q (sym o ∙ g ∙ sym e) (k ∙ sym f)

  writers : WritersInOrder house b
  writers t u k n c m d y z (v, f) (w, g) e =
      let (nt, et, ct) = x.commits.commit t n c y in
      let (nu, eu, cu) = x.commits.commit u m d z in
      let (ht, wt) = x.writes.wrote t k v f in
      let (hu, wu) = x.writes.wrote u k w g in
      let r = precedes_rank n c m d (rw ct at (low t nt)) (rw cu at (low u nu)) e in
      let s = home house k in
      let (j, (l, q), o) =
      later_saw i few s t u k nt nu (λ a. omega (arith, ap p.num a, ap coordinator_of a)) ht hu wt wu (omega arith) in
      x.sees.before s u j n c hu o (pair_at s j t n c l q et ct)

  -- what the book saw, the machine saw
  saw_seen : (s t u : ℕ) → p.has s t ≡ true → Saw b s t u → Seen p s t u
  saw_seen s t u h saw =
      let (j, l, y) = x.sees.seen s t saw.number saw.coordinator saw.before in
      let m : j < length (inst p s) = omega (arith, i.parts.low s t h) in
      (j, (m, pair_of s j u saw.number saw.coordinator m y saw.committed), l)

  seen_saw : (s t u : ℕ) → p.has s t ≡ true → Seen p s t u → Saw b s t u
  seen_saw s t u h (j, (l, e), k) =
      let z : 0 < p.num u = rw e at (i.account.entry s j l).1 in
      record {
        number = p.num u;
        coordinator = coordinator_of u;
        committed = x.commits.committed u z;
        before = x.sees.before s t j (p.num u) (coordinator_of u) h k (pair_at s j u (p.num u) (coordinator_of u) l e refl refl);
      }

  -- one used a key that the other wrote: their parts at its site are dependent
  abbrev DependentAt : ℕ → ℕ → ℕ → Type 0
  DependentAt t u s = (p.has s t ≡ true) × (p.has s u ≡ true) × (dependent (p.keys s t) (p.keys s u) ≡ true)

  dependent_at : (t u : ℕ) → Dependent b t u → (s : ℕ) × DependentAt t u s
  dependent_at t u (on_write_of_other k y (v, z)) =
      let (h, a) = x.writes.used t k y in
      let (g, w) = x.writes.wrote u k v z in
      (home house k, (h, g, conflict_dependent _ _ (record { key = k; how = ⊎_elim (λ r. inr (inr (r, w))) (λ r. inl (r, w)) a })))
  dependent_at t u (on_own_write k (v, y) z) =
      let (h, w) = x.writes.wrote t k v y in
      let (g, a) = x.writes.used u k z in
      (home house k, (h, g, conflict_dependent _ _ (record { key = k; how = ⊎_elim (λ r. inr (inl (w, r))) (λ r. inl (w, r)) a })))

  half_seen : NoneHalfSeen b
  half_seen t u n c s r d y touching at-s saw at-r missed =
      let (nt, _, _) = x.commits.commit t n c y in
      let (home_site, (ht, hu, e)) = dependent_at t u touching in
      let has = x.begins.began in
      let first = saw_seen s t u (has s t at-s.one) saw in
      let second : Seen p r t u → ⊥ = λ v. missed (seen_saw r t u (has r t at-r.one) v) in
      let f = independent i s r t u nt d first (has r t at-r.one) (has r u at-r.other) second home_site ht hu in
      set_not _ e f

pub holds : {house : House} {w : World} {v : Stream} {b : List Fact} → GoodHouse house → Standing house v → StreamIs house w v
    → Booked house b v.protocol → LastReplays b w
    → Holds house b w
holds good z x y r =
    let few = good.few in
    record {
      copies = λ c k h. copy_holds (book_is few z.invariant y) (copy_stands x z c k h) (r c);
      once = record { began = y.begins.once; installed = y.installs.once };
      ordered = ordered few z.invariant y;
      writers = writers few z.invariant y;
      half_seen = half_seen few z.invariant y;
    }
