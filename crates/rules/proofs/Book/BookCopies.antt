-- (A) in the book's words: a copy's pair is that of its last replay in the book, and what the committed leave by the account's tables they
-- leave by the book, where the book's commits and writes are the account's.
use Prim.Native.Nat.{ℕ, ◌≤◌, ◌<◌}
use mathlib.Core.Path.{◌≡◌}
use mathlib.Core.Logic.{inl, inr, ⊎_elim}
use mathlib.Core.List.{List}
use native.Mathlib.Omega.{arith}
use Rattle.laws.specs.Choice.{unset}
use Rattle.laws.specs.Pair.{rank, precedes, precedes_rank, not_precedes_rank}
use Rattle.kinds.specs.declared.Value.{Value}
use Rattle.kinds.specs.declared.House.{House}
use Rattle.rules.specs.House.{coordinator_of, home_of}
use Rattle.rules.specs.Keys.{wrote_value}
use Rattle.rules.specs.Copy.{copy_number, copy_coordinator}
use Rattle.rules.specs.World.{World}
use Rattle.rules.specs.Book.{Fact}
use Rattle.rules.specs.Claim.{Committed, Wrote, LastWrite, UpTo, LeftBy, unwritten, written, LastReplay, Reaches, start, commit}
use Rattle.rules.specs.Claim.{CopyHolds}
use Rattle.rules.proofs.Protocol.ProtocolTables.{Protocol}
use Rattle.rules.proofs.Stream.StreamClaims.{rank_in, WroteIn, LeftUpTo}
use Rattle.rules.proofs.Refine.RefineCopies.{CopyStands}

-- The book's commits and writes are the account's.
pub record BookIs (o : House) (b : List Fact) (p : Protocol) : Type 0 where
  pub commit : (t n c : ℕ) → Committed b t n c → (0 < p.num t) × (p.num t ≡ n) × (coordinator_of t ≡ c)
  pub committed : (t : ℕ) → 0 < p.num t → Committed b t (p.num t) (coordinator_of t)
  pub wrote : (t k : ℕ) → 0 < p.num t → Wrote b t k → WroteIn p o t k
  pub last : (t k : ℕ) → 0 < p.num t → WroteIn p o t k → LastWrite b t k (wrote_value (p.keys (home_of o k) t) k)
  pub low : (t : ℕ) → 0 < p.num t → coordinator_of t < 16

pub up_to : (n c m d : ℕ) → c < 16 → d < 16 → rank m d ≤ rank n c → UpTo n c m d
up_to n c m d x y h = unset (precedes n c m d) (λ e. omega (arith, precedes_rank n c m d x y e))

module _ {o : House} {b : List Fact} {p : Protocol} (i : BookIs o b p) (n c k : ℕ) (v : Value) (l : c < 16) where
  -- a commit of the book up to (n, c)
  ranked : (t m d : ℕ) → Committed b t m d → UpTo n c m d → (0 < p.num t) × (rank_in p t ≤ rank n c)
  ranked t m d a u =
      let (z, e, f) = i.commit t m d a in
      let y = i.low t z in
      (z, omega (arith, not_precedes_rank n c m d l (omega arith) u))

  pub left_by : LeftUpTo p o (rank n c) k v → LeftBy b n c k v
  left_by (inl (f, e)) = unwritten (λ t m d a u w. let (z, r) = ranked t m d a u in f t z r (i.wrote t k z w)) e
  left_by (inr (t, z, r, w, e, g)) =
      written (record {
        tx = t;
        number = p.num t;
        coordinator = coordinator_of t;
        committed = i.committed t z;
        up_to = up_to n c (p.num t) (coordinator_of t) l (i.low t z) r;
        wrote = rw e at (i.last t k z w);
        greatest = λ u m d a q s. let (y, h) = ranked u m d a q in
            let (_, f, j) = i.commit u m d a in
            let x = i.low u y in
            up_to (p.num t) (coordinator_of t) m d (i.low t z) (omega arith) (omega (arith, g u y h (i.wrote u k y s)));
      })

-- what is claimed of a copy
pub copy_holds : {house : House} {b : List Fact} {p : Protocol} {w : World} {c k : ℕ} → BookIs house b p
    → CopyStands house p (w.copy c) k
    → LastReplay c b (copy_number (w.copy c)) (copy_coordinator (w.copy c)) → CopyHolds b w c k
copy_holds {b = b} {p = p} i s r =
    record {
      value = s.value;
      number = s.number;
      coordinator = s.coordinator;
      answers = s.answers;
      last = rw (s.pair.0, s.pair.1) at r;
      up_to = ⊎_elim (λ a. start a.0 a.1) committed_pair s.up_to;
      left = left_by i s.number s.coordinator _ s.value s.low s.left;
    }
  where
    committed_pair : (t : ℕ) × (0 < p.num t) × (p.num t ≡ s.number) × (coordinator_of t ≡ s.coordinator)
        → Reaches b s.number s.coordinator
    committed_pair (t, z, e, f) = commit t (rw (e, f) at (i.committed t z))
