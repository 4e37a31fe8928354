-- A copy with the writes of an item laid over it: at each key the value that the item leaves there.
use Prim.Native.Nat.{ℕ, zero, suc, ◌+◌, ◌*◌, ◌≤◌, ◌<◌}
use mathlib.Core.Path.{◌≡◌, refl, sym, ap, ◌∙◌}
use mathlib.Core.Bool.{false}
use mathlib.Core.List.{List, ◌++◌}
use native.Mathlib.Omega.{arith}
use borrow.Author.Tests.{eqb-true, eqb-false, ne_eqb}
use lib.Dec.{eqb}
use lib.ListN.{length, get_or, length-append, get_or-append}
use lib.Seq.{get_or-append-add}
use Rattle.laws.specs.Choice.{pick, by_test, set_not, unset}
use Rattle.laws.specs.Scan.{fold_below, split_last}
use Rattle.kinds.specs.Sizes as sizes
use Rattle.kinds.specs.Word as word
use Rattle.kinds.specs.declared.Value.{Value}
use Rattle.kinds.specs.declared.House.{House}
use Rattle.kinds.specs.declared.Keys.{Keys}
use Rattle.rules.proofs.MergerJoin.{halved}
use Rattle.rules.specs.House.{in_mask, home_of}
use Rattle.rules.specs.HouseLaws.{home_positive}
use Rattle.rules.specs.Keys.{wrote_key, wrote_value, sorted_key, sorted_count}
use Rattle.rules.specs.KeysLaws.{by_order, words_length, sorted_low, sorted_wrote, wrote_sorted, word_key, word_value}
use Rattle.rules.specs.ValueLaws.{put_length, put_same, put_before, put_other, value_left, value_right}
use Rattle.rules.specs.Record.{write_key, write_value}
use Rattle.rules.specs.Merger.{writes_in}
use Rattle.rules.specs.Copy.{copy_value, put_writes}
use Rattle.rules.proofs.Stream.Stream.{Item}
use Rattle.rules.proofs.Stream.StreamClaims.{leaves}
use Rattle.rules.proofs.Refine.RefineMerger.{key_words, site_writes, item_writes, Placed}

-- the value at key k after the first n writes over v
unfoldable pub laid : List ℕ → ℕ → ℕ → Value → Value
laid ws k zero v = v
laid ws k (suc n) v = pick (eqb (write_key ws n) k) (write_value ws n) (laid ws k n v)

-- A copy's words under the writes.
pub length_put : (copy ws : List ℕ) (n : ℕ) → length (put_writes copy ws n) ≡ length copy
unfolding put_writes fold_below
length_put copy ws zero = refl
length_put copy ws (suc n) =
    put_length (put_writes copy ws n) (sizes.copy_header + sizes.value * write_key ws n) (write_value ws n) ∙ length_put copy ws n

pub put_header : (copy ws : List ℕ) (n i : ℕ) → i < sizes.copy_header → get_or (put_writes copy ws n) i 0 ≡ get_or copy i 0
unfolding put_writes fold_below
put_header copy ws zero i h = refl
put_header copy ws (suc n) i h =
    put_before (put_writes copy ws n) (sizes.copy_header + sizes.value * write_key ws n) (write_value ws n) i (omega arith)
    ∙ put_header copy ws n i h

pub put_value_lem : (copy ws : List ℕ) (n k : ℕ) → length copy ≡ sizes.copy → k < sizes.keys
    → copy_value (put_writes copy ws n) k ≡ laid ws k n (copy_value copy k)
unfolding put_writes fold_below laid
put_value_lem copy ws zero k e h = refl
put_value_lem copy ws (suc n) k e h =
    let l = length_put copy ws n in
    by_test (eqb (write_key ws n) k)
    (λ t. let q = eqb-true (write_key ws n) k t in
    rw t (rw q (put_same (put_writes copy ws n) (sizes.copy_header + sizes.value * k) (write_value ws n) (omega arith))))
    (λ t. let q = eqb-false (write_key ws n) k t in
    rw t (put_other (put_writes copy ws n) sizes.copy_header (write_key ws n) k (write_value ws n) q ∙ put_value_lem copy ws n k e h))

-- Writes behind writes.
module _ (ws p : List ℕ) (a k : ℕ) (v : Value) (e : length ws ≡ sizes.write * a) where
  laid_left : (n : ℕ) → n ≤ a → laid (ws ++ p) k n v ≡ laid ws k n v
  unfolding laid
  laid_left zero h = refl
  laid_left (suc n) h =
      rw (
        get_or-append ws p 0 (sizes.write * n + word.write_key) (omega arith),
        value_left ws p (sizes.write * n + word.write_value) (omega arith),
        laid_left n (omega arith),
      )

  laid_append : (b : ℕ) → laid (ws ++ p) k (a + b) v ≡ laid p k b (laid ws k a v)
  unfolding laid
  laid_append zero = let z : a + 0 ≡ a = omega arith in rw z (laid_left a (omega arith))
  laid_append (suc b) =
      let z : a + suc b ≡ suc (a + b) = omega arith in
      let x : sizes.write * (a + b) + word.write_key ≡ length ws + (sizes.write * b + word.write_key) = omega arith in
      let y : sizes.write * (a + b) + word.write_value ≡ length ws + (sizes.write * b + word.write_value) = omega arith in
      rw z (rw (
        x,
        y,
        get_or-append-add ws p (sizes.write * b + word.write_key) 0,
        value_right ws p (sizes.write * b + word.write_value),
        laid_append b,
      ))

-- The writes of one part.
module _ (b : Keys) (k : ℕ) (v : Value) where
  key_at : (j : ℕ) → j < sorted_count b → write_key (key_words b) j ≡ sorted_key b j
  key_at j h = word_key b (sorted_count b) j h

  laid_hit : (n j : ℕ) → n ≤ sorted_count b → j < n → sorted_key b j ≡ k → laid (key_words b) k n v ≡ wrote_value b k
  unfolding laid
  laid_hit zero j h l e = absurd (omega arith)
  laid_hit (suc n) j h l e =
      by_test (eqb (write_key (key_words b) n) k)
      (λ t. rw t (word_value b (sorted_count b) n h ∙ ap (wrote_value b) (sym (key_at n h) ∙ eqb-true (write_key (key_words b) n) k t)))
      (λ t. rw t
      (split_last l
      (λ (q : j ≡ n). absurd (eqb-false (write_key (key_words b) n) k t (key_at n h ∙ ap (sorted_key b) (sym q) ∙ e)))
      (λ (q : j < n). laid_hit n j (omega arith) q e)))

  laid_miss : (n : ℕ) → n ≤ sorted_count b → ((j : ℕ) → j < n → sorted_key b j ≡ k → ⊥) → laid (key_words b) k n v ≡ v
  unfolding laid
  laid_miss zero h f = refl
  laid_miss (suc n) h f =
      rw (ne_eqb (write_key (key_words b) n) k (λ e. f n (omega arith) (sym (key_at n h) ∙ e)))
      (laid_miss n (omega arith) (λ j l. f j (omega arith)))

  laid_sorted : k < sizes.keys → laid (key_words b) k (sorted_count b) v ≡ pick (wrote_key b k) (wrote_value b k) v
  laid_sorted h =
      by_test (wrote_key b k)
      (λ t. let (j, l, e) = wrote_sorted b k h t in rw t (laid_hit (sorted_count b) j (omega arith) l e))
      (λ t. rw t (laid_miss (sorted_count b) (omega arith) (λ j l e. set_not _ (rw e at (sorted_wrote b j (sorted_low b j l))) t)))

-- The writes of an item, site by site.
key_count : (b : Keys) → writes_in (key_words b) ≡ sorted_count b
key_count b = halved (length (key_words b)) (sorted_count b) (words_length b (sorted_count b))

site_size : (x : Item) (i : ℕ) → length (site_writes x i) ≡ sizes.write * writes_in (site_writes x i)
site_size x i =
    by_test (in_mask x.mask (i + 1))
    (λ t. rw (t, key_count (x.keys (i + 1))) (words_length (x.keys (i + 1)) (sorted_count (x.keys (i + 1)))))
    (λ t. rw t)

pub item_size : (n : ℕ) (x : Item) → length (item_writes n x) ≡ sizes.write * writes_in (item_writes n x)
unfolding item_writes fold_below
item_size zero x = refl
item_size (suc n) x =
    let a = item_size n x in
    let b = site_size x n in
    omega (arith, length-append (item_writes n x) (site_writes x n))

item_count : (n : ℕ) (x : Item) → writes_in (item_writes n x ++ site_writes x n) ≡ writes_in (item_writes n x) + writes_in (site_writes x n)
item_count n x = halved _ _ (length-append (item_writes n x) (site_writes x n) ∙ omega (arith, item_size n x, site_size x n))

module _ {house : House} (x : Item) (c : Placed house x) (k : ℕ) (h : k < sizes.keys) where
  abbrev o : House
  o = house

  block_here : (i : ℕ) (v : Value) → home_of o k ≡ i + 1 → laid (site_writes x i) k (writes_in (site_writes x i)) v ≡ leaves o k v x
  unfolding laid
  block_here i v e =
      by_test (in_mask x.mask (i + 1))
      (λ t. rw (e, t, key_count (x.keys (i + 1))) (laid_sorted (x.keys (i + 1)) k v h))
      (λ t. rw (e, t))

  block_there : (i : ℕ) (v : Value) → (home_of o k ≡ i + 1 → ⊥) → laid (site_writes x i) k (writes_in (site_writes x i)) v ≡ v
  unfolding laid
  block_there i v e =
      by_test (in_mask x.mask (i + 1))
      (λ t. let b = x.keys (i + 1) in
      let n : wrote_key b k ≡ false =
      unset _ (λ u. let (j, l, q) = wrote_sorted b k h u in e (ap (home_of o) (sym q) ∙ c.keys (i + 1) j (omega arith) t l)) in
      rw (t, key_count b) (laid_sorted b k v h ∙ rw n))
      (λ t. rw t)

  -- nothing below the key's site, and there what the item leaves
  module _ (v : Value) where
    below : (n : ℕ) → n < home_of o k → laid (item_writes n x) k (writes_in (item_writes n x)) v ≡ v
    unfolding item_writes fold_below laid
    below zero l = refl
    below (suc n) l =
        rw (
          item_count n x,
          laid_append (item_writes n x) (site_writes x n) (writes_in (item_writes n x)) k v (item_size n x) (writes_in (site_writes x n)),
          below n (omega arith),
        )
        (block_there n v (λ e. omega arith))

    beyond : (n : ℕ) → home_of o k ≤ n → laid (item_writes n x) k (writes_in (item_writes n x)) v ≡ leaves o k v x
    unfolding item_writes fold_below
    beyond zero l = absurd (omega (arith, home_positive o k))
    beyond (suc n) l =
        rw (
          item_count n x,
          laid_append (item_writes n x) (site_writes x n) (writes_in (item_writes n x)) k v (item_size n x) (writes_in (site_writes x n)),
        )
        (by_order n (home_of o k)
        (λ a. rw (below n a) (block_here n v (omega arith)))
        (λ a. rw (beyond n a) (block_there n (leaves o k v x) (λ e. omega arith))))

    pub laid_item : laid (item_writes house.sites x) k (writes_in (item_writes house.sites x)) v ≡ leaves o k v x
    laid_item =
        by_order house.sites (home_of o k)
        (λ a. let n : in_mask x.mask (home_of o k) ≡ false = unset _ (λ t. omega (arith, c.few (home_of o k) (home_positive o k) t)) in
        below house.sites a ∙ rw n)
        (λ a. beyond house.sites a)
