-- What the first installs at a site leave at a key by the machine's tables, their transactions leave there by the book.
use Prim.Native.Nat.{ℕ, ◌≤◌, ◌<◌}
use mathlib.Core.Path.{◌≡◌, refl, ◌∙◌}
use mathlib.Core.Bool.{true, false}
use mathlib.Core.Logic.{inl, inr, ⊎_elim}
use mathlib.Core.List.{List}
use native.Mathlib.Omega.{arith}
use native.Mathlib.Nat.{eq-or-lt_of_le}
use lib.ListN.{length}
use Rattle.kinds.specs.declared.House.{House}
use Rattle.laws.specs.Choice.{set_not}
use Rattle.kinds.specs.declared.Value.{Value}
use Rattle.rules.specs.House.{coordinator_of}
use Rattle.rules.specs.Keys.{wrote_key, wrote_value}
use Rattle.rules.specs.KeysLaws.{by_order}
use Rattle.rules.specs.World.{here}
use Rattle.rules.specs.Book.{Fact}
use Rattle.rules.specs.Claim.{Committed, Wrote, LastWrite, UpTo}
use Rattle.rules.specs.Left.{Writer, LeftOf, unwritten, written}
use Rattle.rules.proofs.Protocol.ProtocolTables.{Protocol, inst}
use Rattle.rules.proofs.Protocol.Invariants.{at, Invariant}
use Rattle.rules.proofs.Steps.MachineClaims.{seen_lower}
use Rattle.rules.proofs.Stream.StreamClaims.{rank_in}
use Rattle.rules.proofs.Book.BookLists.{is_behind}
use Rattle.rules.proofs.Book.BookCopies.{up_to}
use Rattle.rules.proofs.Book.Booked.{home, PairAt, Booked}
use Rattle.rules.proofs.Demand.Demand.{low, pair_at}
use Rattle.rules.proofs.Reading.Versions.{left_none, LastSince}

-- the pairs that count are those of the first n installs at s
pub record Counted (b : List Fact) (p : Protocol) (s n : ℕ) (Counts : ℕ → ℕ → Type 0) : Type 0 where
  pub few : n ≤ length (inst p s)
  pub place : (t m c : ℕ) → Committed b t m c → Counts m c → (j : ℕ) × (j < n) × ((at p s j).tx ≡ t)
  pub pair : (j m c : ℕ) → j < n → PairAt p s j m c → Counts m c

last_wrote : {b : List Fact} {t k : ℕ} {v : Value} → LastWrite b t k v → Wrote b t k
last_wrote {v = v} h = (v, rw h.split (is_behind h.front here))

-- what a transaction wrote of a key, it wrote at the key's site
pub wrote_here : {house : House} {p : Protocol} {b : List Fact} → Booked house b p → (s k : ℕ) → home house k ≡ s → (t : ℕ) → Wrote b t k
    → wrote_key (p.keys s t) k ≡ true
wrote_here x s k e t (v, z) = rw e at (x.writes.wrote t k v z).1

module _ {house : House} {p : Protocol} {b : List Fact} (few : house.sites ≤ 8) (i : Invariant house p) (x : Booked house b p) (s k : ℕ)
    (e : home house k ≡ s) {n : ℕ} {Counts : ℕ → ℕ → Type 0} (counted : Counted b p s n Counts) where
  inside : (j : ℕ) → j < n → j < length (inst p s)
  inside j l = omega (arith, counted.few)

  -- a writer that counts is one of the first n
  writer_at : (u m c : ℕ) → Writer b Counts k u m c → (j : ℕ) × (j < n) × ((at p s j).tx ≡ u) × (wrote_key (at p s j).keys k ≡ true)
  writer_at u m c z =
      let (j, l, q) = counted.place u m c z.committed z.counts in
      (j, l, q, rw (i.parts.entry_keys s j (inside j l), q) (wrote_here x s k e u z.wrote))

  -- of two installed writers the later has the higher pair, since it saw the other
  higher : (j m : ℕ) → j ≤ m → m < length (inst p s) → wrote_key (at p s j).keys k ≡ true → wrote_key (at p s m).keys k ≡ true
      → rank_in p (at p s j).tx ≤ rank_in p (at p s m).tx
  higher j m l h a c =
      ⊎_elim
      (λ (q : j ≡ m). rw q (omega arith))
      (λ (q : j < m).
      let a' = rw (i.parts.entry_keys s j (omega arith)) at a in
      let c' = rw (i.parts.entry_keys s m h) at c in
      let z = seen_lower i s (at p s m).tx (at p s j).tx (i.account.entry s m h).1
      (j, (omega arith, refl), i.writers.seen s j m k q h a' c') in
      omega (arith, low few i x (at p s j).tx (i.account.entry s j (omega arith)).1))
      (eq-or-lt_of_le l)

  module _ (v : Value) (j : ℕ) (l : j < n) (w : wrote_key (at p s j).keys k ≡ true) (q : v ≡ wrote_value (at p s j).keys k)
      (last : (m : ℕ) → j < m → m < n → wrote_key (at p s m).keys k ≡ false) where
    abbrev writer : ℕ
    writer = (at p s j).tx

    decided : 0 < p.num writer
    decided = (i.account.entry s j (inside j l)).1

    wrote_last : LastWrite b writer k v
    wrote_last =
        let f = i.parts.entry_keys s j (inside j l) in
        let o = (x.writes.last s writer k (i.parts.entry_has s j (inside j l)) (rw f at w)).1 in
        rw (q, f) o

    greatest : (u m d : ℕ) → Writer b Counts k u m d → UpTo (p.num writer) (coordinator_of writer) m d
    greatest u m d z =
        let (o, a, y, r) = writer_at u m d z in
        let (nu, eu, cu) = x.commits.commit u m d z.committed in
        let first : o ≤ j = by_order j o (λ a'. absurd (set_not _ r (last o a' a))) (λ a'. a') in
        let rank = rw y at (higher o j first (inside j l) r w) in
        rw (← eu, ← cu)
        (up_to (p.num writer) (coordinator_of writer) (p.num u) (coordinator_of u) (low few i x writer decided) (low few i x u nu) rank)

    left_last : LeftOf b Counts k v
    left_last =
        let pair = pair_at few i x s j writer (p.num writer) (coordinator_of writer) (inside j l) refl refl refl in
        written (record {
          writer = writer;
          number = p.num writer;
          coordinator = coordinator_of writer;
          is = record {
            committed = x.commits.committed writer decided;
            counts = counted.pair j (p.num writer) (coordinator_of writer) l pair;
            wrote = last_wrote wrote_last;
          };
          wrote = wrote_last;
          greatest = greatest;
        })

  pub left_of : (v : Value) → LastSince (at p s) k 0 n v → LeftOf b Counts k v
  left_of v (inl (none, q)) =
      unwritten (λ u m c z. let (j, l, y, w) = writer_at u m c z in set_not _ w (none j (omega arith) l)) (q ∙ left_none (at p s) k)
  left_of v (inr (j, z, l, w, q, last)) = left_last v j l w q last
