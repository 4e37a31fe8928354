-- The keys of a part after a read and after a write: what the book is told, and what stays.
use Prim.Native.Nat.{ℕ, ◌+◌, ◌≤◌, ◌<◌}
use mathlib.Core.Path.{◌≡◌, refl, sym, ap, ◌∙◌}
use mathlib.Core.Bool.{Bool, true, false}
use mathlib.Core.Logic.{◌⊎◌, inl, inr, ⊎_elim}
use mathlib.Core.List.{List}
use native.Mathlib.Omega.{arith}
use borrow.Author.Tests.{ltb-true, eqb-true, eq-eqb, ne_eqb}
use lib.Dec.{eqb}
use lib.ListN.{get_or, set, length-set}
use lib.Seq.{get_or-set_same, get_or-set_other}
use Rattle.laws.specs.Choice.{by_test, set_not}
use Rattle.laws.specs.Scan.{first_below, first_below_lem, before_first, at_first}
use Rattle.kinds.specs.Sizes as sizes
use Rattle.kinds.specs.declared.Keys.{Keys}
use Rattle.kinds.specs.State.{fresh}
use Rattle.kinds.specs.declared.Value.{Value}
use Rattle.rules.specs.Keys.{key_place, wrote_key, wrote_value, read_key, with_read, with_write}
use Rattle.rules.specs.KeysLaws.{by_order, wrote_among, among_wrote, read_among, among_read}
use Rattle.rules.proofs.Refine.Refines.{Sized}

-- A read leaves the writes.
pub read_wrote : (b : Keys) (k j : ℕ) → wrote_key (with_read b k) j ≡ wrote_key b j
unfolding with_read wrote_key
read_wrote b k j = by_test (read_key b k) (λ e. rw e) (λ e. rw e)

pub read_value : (b : Keys) (k j : ℕ) → wrote_value (with_read b k) j ≡ wrote_value b j
unfolding with_read wrote_value
read_value b k j = by_test (read_key b k) (λ e. rw e) (λ e. rw e)

pub read_sized : (b : Keys) (k : ℕ) → Sized b → Sized (with_read b k)
unfolding with_read
read_sized b k z =
    by_test (read_key b k) (λ e. rw e z)
    (λ e. rw e (record {
      reads_size = length-set b.reads b.read k
          ∙ z.reads_size;
      writes_size = z.writes_size;
      values_size = z.values_size;
    }))

-- Its key enters the set, beside the others.
pub read_kept : (b : Keys) (k j : ℕ) → read_key b j ≡ true → read_key (with_read b k) j ≡ true
unfolding with_read
read_kept b k j t =
    let (i, l, q) = read_among b j t in
    by_test (read_key b k)
    (λ e. rw e t)
    (λ e. rw e (among_read _ j (i, omega arith, get_or-set_other b.reads b.read i k 0 (λ y. omega arith) ∙ q)))

pub read_new : (b : Keys) (k : ℕ) → Sized b → (read_key b k ≡ false → b.read < sizes.reads) → read_key (with_read b k) k ≡ true
unfolding with_read
read_new b k z room =
    by_test (read_key b k)
    (λ e. rw e e)
    (λ e. let h = room e in
    rw e (among_read _ k (b.read, omega arith, get_or-set_same b.reads b.read k 0 (omega (arith, z.reads_size)))))

-- A write leaves the keys read.
pub write_reads : (b : Keys) (k : ℕ) (v : Value) (j : ℕ) → read_key (with_write b k v) j ≡ read_key b j
unfolding with_write read_key
write_reads b k v j = by_test (wrote_key b k) (λ e. rw e) (λ e. rw e)

pub write_sized : (b : Keys) (k : ℕ) (v : Value) → Sized b → Sized (with_write b k v)
unfolding with_write
write_sized b k v z =
    by_test (wrote_key b k)
    (λ e. rw e (record {
      reads_size = z.reads_size;
      writes_size = z.writes_size;
      values_size = length-set b.values _ v
          ∙ z.values_size;
    }))
    (λ e. rw e
    (record {
      reads_size = z.reads_size;
      writes_size = length-set b.writes b.wrote k ∙ z.writes_size;
      values_size = length-set b.values b.wrote v ∙ z.values_size;
    }))

-- The keys `new` have v at k, and elsewhere the writes of b.
pub record Sets (b new : Keys) (k : ℕ) (v : Value) : Type 0 where
  pub wrote : wrote_key new k ≡ true
  pub value : wrote_value new k ≡ v
  pub others : (j : ℕ) → (j ≡ k → ⊥) → (wrote_key new j ≡ wrote_key b j) × (wrote_key b j ≡ true → wrote_value new j ≡ wrote_value b j)

-- the place of a written key
pub place_low : (b : Keys) (k : ℕ) → wrote_key b k ≡ true → key_place b.writes b.wrote k < b.wrote
unfolding wrote_key
place_low b k t = ltb-true _ _ t

pub place_is : (keys : List ℕ) (n k : ℕ) → key_place keys n k < n → get_or keys (key_place keys n k) 0 ≡ k
unfolding key_place
place_is keys n k h = eqb-true _ _ (at_first (λ i. eqb (get_or keys i 0) k) n h)

-- Over an own write.
module _ (b : Keys) (k : ℕ) (v : Value) (e : wrote_key b k ≡ true) where
  abbrev over : Keys
  over = record {
    read = b.read;
    wrote = b.wrote;
    reads = b.reads;
    writes = b.writes;
    values = set b.values (key_place b.writes b.wrote k) v;
  }

  over_wrote : (j : ℕ) → wrote_key over j ≡ wrote_key b j
  unfolding wrote_key
  over_wrote j = refl

  pub again_wrote : (j : ℕ) → wrote_key (with_write b k v) j ≡ wrote_key b j
  unfolding with_write
  again_wrote j = rw e (over_wrote j)

  over_value : Sized b → b.wrote ≤ sizes.writes → wrote_value over k ≡ v
  unfolding wrote_value
  over_value z few = get_or-set_same b.values (key_place b.writes b.wrote k) v fresh (omega (arith, place_low b k e, z.values_size))

  over_other : (j : ℕ) → (j ≡ k → ⊥) → wrote_key b j ≡ true → wrote_value over j ≡ wrote_value b j
  unfolding wrote_value
  over_other j n t =
      get_or-set_other b.values (key_place b.writes b.wrote k) (key_place b.writes b.wrote j) v fresh
      (λ q. n (sym (place_is b.writes b.wrote j (place_low b j t)) ∙ ap (λ (i : ℕ). get_or b.writes i 0) q
      ∙ place_is b.writes b.wrote k (place_low b k e)))

  pub again_sets : Sized b → b.wrote ≤ sizes.writes → Sets b (with_write b k v) k v
  unfolding with_write
  again_sets z few =
      rw e
      (record {
        wrote = over_wrote k ∙ e;
        value = over_value z few;
        others = λ j n. (over_wrote j, over_other j n);
      })

-- A first write of its key.
module _ (b : Keys) (k : ℕ) (v : Value) (z : Sized b) (room : b.wrote < sizes.writes) (e : wrote_key b k ≡ false) where
  pub first_kept : (j : ℕ) → wrote_key b j ≡ true → wrote_key (with_write b k v) j ≡ true
  unfolding with_write
  first_kept j t =
      let (i, l, q) = wrote_among b j t in
      rw e (among_wrote _ j (i, omega arith, get_or-set_other b.writes b.wrote i k 0 (λ y. omega arith) ∙ q))

  pub first_new : (j : ℕ) → wrote_key (with_write b k v) j ≡ true → (wrote_key b j ≡ true) ⊎ (j ≡ k)
  unfolding with_write
  first_new j t =
      let (i, l, q) = wrote_among _ j (rw e at t) in
      by_order i b.wrote
      (λ y. inl (among_wrote b j (i, y, sym (get_or-set_other b.writes b.wrote i k 0 (λ z. omega arith)) ∙ q)))
      (λ y. let o : i ≡ b.wrote = omega arith in
      inr (sym q ∙ ap (λ (n : ℕ). get_or (set b.writes b.wrote k) n 0) o
      ∙ get_or-set_same b.writes b.wrote k 0 (omega (arith, z.writes_size))))

  abbrev behind : Keys
  behind = record {
    read = b.read;
    wrote = b.wrote + 1;
    reads = b.reads;
    writes = set b.writes b.wrote k;
    values = set b.values b.wrote v;
  }

  behind_is : with_write b k v ≡ behind
  unfolding with_write
  behind_is = rw e

  -- the new key stands last, the others where they stood
  last_place : key_place behind.writes behind.wrote k ≡ b.wrote
  unfolding key_place
  last_place =
      sym
      (first_below_lem (λ i. eqb (get_or behind.writes i 0) k) behind.wrote b.wrote (omega arith)
      (λ i l. ne_eqb _ k
      (λ q. set_not _ (among_wrote b k (i, l, sym (get_or-set_other b.writes b.wrote i k 0 (λ y. omega arith)) ∙ q)) e))
      (eq-eqb _ k (get_or-set_same b.writes b.wrote k 0 (omega (arith, z.writes_size)))))

  old_place : (j : ℕ) → wrote_key b j ≡ true → key_place behind.writes behind.wrote j ≡ key_place b.writes b.wrote j
  unfolding key_place
  old_place j t =
      let test : ℕ → Bool = λ i. eqb (get_or b.writes i 0) j in
      let h : first_below test b.wrote < b.wrote = place_low b j t in
      let same : (i : ℕ) → i < b.wrote
      → get_or behind.writes i 0 ≡ get_or b.writes i 0 = λ i l. get_or-set_other b.writes b.wrote i k 0 (λ y. omega arith) in
      sym
      (first_below_lem (λ i. eqb (get_or behind.writes i 0) j) behind.wrote (first_below test b.wrote) (omega arith)
      (λ i l. rw (same i (omega arith)) (before_first test b.wrote i l))
      (rw (same (first_below test b.wrote) h) (at_first test b.wrote h)))

  behind_value : wrote_value behind k ≡ v
  unfolding wrote_value
  behind_value = rw last_place (get_or-set_same b.values b.wrote v fresh (omega (arith, z.values_size)))

  behind_other : (j : ℕ) → wrote_key b j ≡ true → wrote_value behind j ≡ wrote_value b j
  unfolding wrote_value
  behind_other j t =
      rw (old_place j t)
      (get_or-set_other b.values b.wrote (key_place b.writes b.wrote j) v fresh (λ q. omega (arith, place_low b j t)))

  first_wrote : wrote_key (with_write b k v) k ≡ true
  first_wrote =
      rw behind_is (among_wrote behind k (b.wrote, omega arith, get_or-set_same b.writes b.wrote k 0 (omega (arith, z.writes_size))))

  first_other : (j : ℕ) → (j ≡ k → ⊥) → wrote_key (with_write b k v) j ≡ wrote_key b j
  first_other j n =
      by_test (wrote_key b j)
      (λ t. first_kept j t ∙ sym t)
      (λ t. by_test (wrote_key (with_write b k v) j)
      (λ u. absurd (⊎_elim (λ (o : wrote_key b j ≡ true). set_not _ o t) (λ (o : j ≡ k). n o) (first_new j u)))
      (λ u. u ∙ sym t))

  pub first_sets : Sets b (with_write b k v) k v
  first_sets =
      record {
        wrote = first_wrote;
        value = rw behind_is behind_value;
        others = λ j n. (first_other j n, λ t. rw behind_is (behind_other j t));
      }
