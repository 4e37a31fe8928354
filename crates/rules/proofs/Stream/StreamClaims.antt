-- What demand 3 says of a copy, at the machines' level (A): it has replayed the committed transactions up to a pair, in the order of their
-- pairs, each whole; and what their writes leave at a key is the last write of the greatest of them that wrote it.
use Prim.Native.Nat.{ℕ, zero, suc, ◌+◌, ◌≤◌, ◌<◌}
use mathlib.Core.Path.{◌≡◌, refl, sym, ap, ◌∙◌}
use mathlib.Core.Bool.{Bool, true, false}
use mathlib.Core.Logic.{◌⊎◌, inl, inr, ⊎_elim}
use mathlib.Core.List.{List, [], ◌∷◌, ◌++◌}
use native.Mathlib.Nat.{eq-or-lt_of_le}
use native.Mathlib.Omega.{arith}
use borrow.Author.Tests.{ltb-true, ltb-false}
use lib.Dec.{ltb}
use lib.ListN.{length, take}
use lib.Seq.{take-suc}
use Rattle.laws.specs.Choice.{pick, by_test, picked_left, picked_right, set_not}
use Rattle.laws.specs.Pair.{rank}
use Rattle.kinds.specs.State.{fresh}
use Rattle.kinds.specs.declared.Value.{Value}
use Rattle.kinds.specs.declared.House.{House}
use Rattle.kinds.specs.declared.Keys.{Keys}
use Rattle.rules.specs.House.{coordinator_of, in_mask, home_of}
use Rattle.rules.specs.HouseLaws.{home_positive}
use Rattle.rules.specs.Keys.{wrote_key, wrote_value}
use Rattle.rules.proofs.Protocol.ProtocolTables.{Protocol}
use Rattle.rules.proofs.Protocol.Invariants.{In, Invariant}
use Rattle.rules.proofs.Protocol.Committed.{committed_asked, committed_in}
use Rattle.rules.proofs.Stream.Stream.{Item, Merger, item_rank}
use Rattle.rules.proofs.Stream.StreamInv.{past_item, item_at, Streamed, item_real, item_number, item_committed, item_mask}

-- the rank of the n-th item, 0 before the first
abbrev pub last_rank : Merger → ℕ → ℕ
last_rank m zero = 0
last_rank m (suc n) = item_rank (item_at m n)

-- a transaction's rank
abbrev pub rank_in : Protocol → ℕ → ℕ
rank_in p t = rank (p.num t) (coordinator_of t)

-- The first n items are the committed up to the rank of the last of them, in order, each whole.
pub record Prefix (p : Protocol) (m : Merger) (n : ℕ) : Type 0 where
  pub within : n ≤ length m.out
  pub ascends : (i j : ℕ) → i < j → j < n → item_rank (item_at m i) < item_rank (item_at m j)
  pub committed : (j : ℕ) → j < n → 0 < p.num (item_at m j).tx
  pub number : (j : ℕ) → j < n → (item_at m j).number ≡ p.num (item_at m j).tx
  pub mask : (j : ℕ) → j < n → (item_at m j).mask ≡ p.mask (item_at m j).tx
  pub parts : (j s : ℕ) → j < n → In (item_at m j).mask s → (item_at m j).keys s ≡ p.keys s (item_at m j).tx
  pub low : (j : ℕ) → j < n → rank_in p (item_at m j).tx ≤ last_rank m n
  pub all : (t : ℕ) → 0 < p.num t → rank_in p t ≤ last_rank m n → (j : ℕ) × (j < n) × ((item_at m j).tx ≡ t)

module _ {house : House} {p : Protocol} {m : Merger} (inv : Invariant house p) (i : Streamed house p m) where
  pub item_rank_lem : (j : ℕ) → j < length m.out → rank_in p (item_at m j).tx ≡ item_rank (item_at m j)
  item_rank_lem j l = omega (arith, item_number inv i j l)

  pub prefix : (n : ℕ) → n ≤ length m.out → Prefix p m n
  prefix n h =
      record {
        within = h;
        ascends = λ a b l k. i.ascends a b l (omega arith);
        committed = λ j l. item_committed inv i j (omega arith);
        number = λ j l. item_number inv i j (omega arith);
        mask = λ j l. item_mask inv i j (omega arith);
        parts = λ j s l k. (item_real inv i s j (omega arith) k).keys;
        low = λ j l. low n j h l;
        all = λ t z l. all n t h z l;
      }
    where
      low : (n j : ℕ) → n ≤ length m.out → j < n → rank_in p (item_at m j).tx ≤ last_rank m n
      low zero j h l = absurd (omega arith)
      low (suc n) j h l =
          ⊎_elim
          (λ (e : j ≡ n). rw e (omega (arith, item_rank_lem n h)))
          (λ (e : j < n). omega (arith, item_rank_lem j (omega arith), i.ascends j n e h))
          (eq-or-lt_of_le (omega arith))

      -- what is not above the last stands at or before it
      all : (n t : ℕ) → n ≤ length m.out → 0 < p.num t → rank_in p t ≤ last_rank m n → (j : ℕ) × (j < n) × ((item_at m j).tx ≡ t)
      all zero t h z l = absurd (omega arith)
      all (suc n) t h z l =
          let (j, k, e) = i.whole t n z h l in
          by_test (ltb j (suc n))
          (λ b. (j, ltb-true j (suc n) b, e))
          (λ b. absurd (omega (arith, i.ascends n j (omega (arith, ltb-false j (suc n) b)) k, item_rank_lem j k, ap (rank_in p) e)))

-- What items leave at a key. Every key belongs to one site, so an item has at most one part that wrote it.
abbrev pub item_wrote : House → ℕ → Item → Bool
item_wrote o k x = pick (in_mask x.mask (home_of o k)) (wrote_key (x.keys (home_of o k)) k) false

abbrev pub leaves : House → ℕ → Value → Item → Value
leaves o k v x = pick (item_wrote o k x) (wrote_value (x.keys (home_of o k)) k) v

abbrev pub left_in : House → ℕ → Value → List Item → Value
left_in o k v [] = v
left_in o k v (x ∷ l) = left_in o k (leaves o k v x) l

-- t wrote k
abbrev pub WroteIn : Protocol → House → ℕ → ℕ → Type 0
WroteIn p o t k = (p.has (home_of o k) t ≡ true) × (wrote_key (p.keys (home_of o k) t) k ≡ true)

-- v is what the writes of the committed up to a rank, by rank, leave at k
abbrev pub LeftUpTo : Protocol → House → ℕ → ℕ → Value → Type 0
LeftUpTo p o e k v =
    (((t : ℕ) → 0 < p.num t → rank_in p t ≤ e → WroteIn p o t k → ⊥) × (v ≡ fresh))
    ⊎ ((t : ℕ) × (0 < p.num t) × (rank_in p t ≤ e) × WroteIn p o t k × (wrote_value (p.keys (home_of o k) t) k ≡ v)
    × ((u : ℕ) → 0 < p.num u → rank_in p u ≤ e → WroteIn p o u k → rank_in p u ≤ rank_in p t))

pub left_more : (o : House) (k : ℕ) (v : Value) (l : List Item) (x : Item) → left_in o k v (l ++ (x ∷ [])) ≡ leaves o k (left_in o k v l) x
left_more o k v [] x = refl
left_more o k v (y ∷ l) x = left_more o k (leaves o k v y) l x

module _ (m : Merger) (o : House) (k : ℕ) where
  abbrev value : ℕ → Value
  value n = left_in o k fresh (take n m.out)

  abbrev NoneWrote : ℕ → ℕ → Type 0
  NoneWrote a n = (j : ℕ) → a ≤ j → j < n → item_wrote o k (item_at m j) ≡ false

  -- the last of the first n items that wrote k
  abbrev LastWriter : ℕ → Value → Type 0
  LastWriter n v =
      (NoneWrote 0 n × (v ≡ fresh))
      ⊎ ((j : ℕ) × (j < n) × (item_wrote o k (item_at m j) ≡ true) × (wrote_value ((item_at m j).keys (home_of o k)) k ≡ v) × NoneWrote (j + 1) n)

  none_more : (a n : ℕ) → NoneWrote a n → item_wrote o k (item_at m n) ≡ false → NoneWrote a (suc n)
  none_more a n f e j l h = ⊎_elim (λ (q : j ≡ n). rw q e) (λ (q : j < n). f j l q) (eq-or-lt_of_le (omega arith))

  last_writer : (n : ℕ) → n ≤ length m.out → LastWriter n (value n)
  last_writer zero h = inl ((λ j l n. absurd (omega arith)), refl)
  last_writer (suc n) h =
      rw (take-suc m.out n past_item h, left_more o k fresh (take n m.out) (item_at m n))
      (by_test (item_wrote o k (item_at m n))
      (λ e. inr (n, omega arith, e, rw e, λ j l x. absurd (omega arith)))
      (λ e. rw e (go e (last_writer n (omega arith)))))
    where
      go : item_wrote o k (item_at m n) ≡ false → LastWriter n (value n) → LastWriter (suc n) (value n)
      go e (inl (f, v)) = inl (none_more 0 n f e, v)
      go e (inr (j, l, w, v, f)) = inr (j, omega arith, w, v, none_more (j + 1) n f e)

module _ {house : House} {p : Protocol} {m : Merger} (inv : Invariant house p) (i : Streamed house p m) (o : House) (k n : ℕ)
    (h : n ≤ length m.out) where
  q : Prefix p m n
  q = prefix inv i n h

  wrote : (j : ℕ) → j < n → item_wrote o k (item_at m j) ≡ true
      → WroteIn p o (item_at m j).tx k × ((item_at m j).keys (home_of o k) ≡ p.keys (home_of o k) (item_at m j).tx)
  wrote j l e =
      let t = (item_at m j).tx in
      let a : in_mask (item_at m j).mask (home_of o k) ≡ true = picked_left _ _ e in
      let b : In (item_at m j).mask (home_of o k) = (home_positive o k, a) in
      let c : (item_at m j).keys (home_of o k) ≡ p.keys (home_of o k) t = q.parts j (home_of o k) l b in
      let d : wrote_key ((item_at m j).keys (home_of o k)) k ≡ true = picked_right (in_mask (item_at m j).mask (home_of o k)) _ e in (
        (
          inv.account.asked_has t (home_of o k) (committed_asked inv.parts inv.account t (q.committed j l)) (rw (q.mask j l) at b),
          rw c at d,
        ),
        c,
      )

  -- an item whose transaction wrote k
  writes : (j : ℕ) → j < n → WroteIn p o (item_at m j).tx k → item_wrote o k (item_at m j) ≡ true
  writes j l (a, w) =
      let t = (item_at m j).tx in
      let b : In (item_at m j).mask (home_of o k) =
      rw (q.mask j l) (committed_in inv.parts inv.account t (q.committed j l) (home_of o k) a) in
      rw (b.1, q.parts j (home_of o k) l b) w

  pub left_upto : LeftUpTo p o (last_rank m n) k (left_in o k fresh (take n m.out))
  left_upto = go (last_writer m o k n h)
    where
      go : LastWriter m o k n (left_in o k fresh (take n m.out)) → LeftUpTo p o (last_rank m n) k (left_in o k fresh (take n m.out))
      go (inl (f, v)) = inl ((λ t z l w. none t (q.all t z l) w), v)
        where
          none : (t : ℕ) → (j : ℕ) × (j < n) × ((item_at m j).tx ≡ t) → WroteIn p o t k → ⊥
          none t (j, a, e) w = set_not _ (writes j a (rw e w)) (f j (omega arith) a)
      go (inr (j, l, w, v, f)) =
          let (a, b) = wrote j l w in
          inr (
            (item_at m j).tx,
            q.committed j l,
            q.low j l,
            a,
            ap (λ (y : Keys). wrote_value y k) (sym b)
                ∙ v,
            λ u z y x. greatest u (q.all u z y) x,
          )
        where
          greatest : (u : ℕ) → (i : ℕ) × (i < n) × ((item_at m i).tx ≡ u) → WroteIn p o u k → rank_in p u ≤ rank_in p (item_at m j).tx
          greatest u (c, d, e) x =
              by_test (ltb j c)
              (λ y. absurd (set_not _ (writes c d (rw e x)) (f c (omega (arith, ltb-true j c y)) d)))
              (λ y. ⊎_elim
              (λ (z : c ≡ j). rw (← e, z) (omega arith))
              (λ (z : c < j). rw (← e) (omega (arith, q.number c d, q.number j l, q.ascends c j z l)))
              (eq-or-lt_of_le (ltb-false j c y)))
