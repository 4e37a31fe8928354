-- Laws of a house: what a good table is, where keys live by it, and the house that a start makes.
use Rattle.std.specs.Prelude.{ℕ, zero, suc, ◌+◌, ◌-◌, ◌≤◌, ◌<◌, ◌≡◌, refl, Bool, eqb, get_or, length, replicate, take, drop}
use Rattle.std.proofs.Common.{sym, ap, ◌∙◌, length-take-le, get_or-append-add, get_or-take, get_or-drop}
use Rattle.std.proofs.Math.Bool.{true, false}
use mathlib.Core.List.{List, [], ◌∷◌, ◌++◌}
use native.Mathlib.Omega.{arith}
use borrow.Author.Tests.{leb-true, le-leb, ltb-true, lt-ltb, ltb-false, le-ltb, eqb-true, eq-eqb, ne_eqb}
use Rattle.std.proofs.Math.Dec.{ltb, leb}
use Rattle.std.proofs.lemmas.List.{length-replicate, get_or-replicate}
use Rattle.std.proofs.Math.ListN.{get_or-append}
use Rattle.laws.specs.Choice.{pick, every_at, by_test, set_not}
use Rattle.laws.specs.Scan.{first_below, all_below, first_below_lem, first_below_none, first_le, before_first, at_first, all_below_lem, all_below_at}
use Rattle.laws.specs.Overlay.{overlay, length_overlay}
use Rattle.kinds.specs.Sizes as sizes
use Rattle.kinds.specs.declared.House.{House}
use Rattle.rules.specs.House.{count_ok, table_ok, rest_ok, house_ok, GoodTable, GoodHouse, house_of, is_key, ends_above}
use Rattle.rules.specs.House.{home_of, first_key, end_key, in_range}

-- The tests and what they say.
pub count_clear : (n : ℕ) → count_ok n ≡ true → (1 ≤ n) × (n ≤ sizes.sites)
unfolding count_ok
count_clear n e =
    let l = leb 1 n ∷ leb n sizes.sites ∷ [] in
    (leb-true _ _ (every_at l 0 e), leb-true _ _ (every_at l 1 e))

pub clear_count : (n : ℕ) → 1 ≤ n → n ≤ sizes.sites → count_ok n ≡ true
unfolding count_ok
clear_count n a b = rw (le-leb 1 n a, le-leb n sizes.sites b)

pub table_good : (n : ℕ) (t : List ℕ) → table_ok n t ≡ true → GoodTable n t
unfolding table_ok
table_good n t e =
    let rises : ℕ → Bool = λ i. ltb (get_or t i 0) (get_or t (i + 1) 0) in
    let is-low : ℕ → Bool = λ i. ltb (get_or t i 0) sizes.keys in
    let l = eqb (get_or t 0 0) 0 ∷ all_below rises (n - 1) ∷ all_below is-low n ∷ [] in
    record {
      zero = eqb-true _ _ (every_at l 0 e);
      rising = λ i h. ltb-true _ _ (all_below_at rises (n - 1) i (every_at l 1 e) (omega arith));
      low = λ i h. ltb-true _ _ (all_below_at is-low n i (every_at l 2 e) h);
    }

pub good_table : (n : ℕ) (t : List ℕ) → GoodTable n t → table_ok n t ≡ true
unfolding table_ok
good_table n t g =
    rw (
      eq-eqb _ _ g.zero,
      ← all_below_lem (λ i. ltb (get_or t i 0) (get_or t (i + 1) 0)) (n - 1) (λ i h. lt-ltb _ _ (g.rising i (omega arith))),
      ← all_below_lem (λ i. ltb (get_or t i 0) sizes.keys) n (λ i h. lt-ltb _ _ (g.low i h)),
    )

-- a house that passes has 1 to 8 sites and a good table,
pub house_passed : (o : House) → house_ok o ≡ true → (1 ≤ o.sites) × (o.sites ≤ sizes.sites) × GoodTable o.sites o.firsts
unfolding house_ok
house_passed o e =
    let l = count_ok o.sites ∷ table_ok o.sites o.firsts ∷ rest_ok o.sites o.firsts ∷ [] in
    let c = count_clear o.sites (every_at l 0 e) in
    (c.0, c.1, table_good o.sites o.firsts (every_at l 1 e))

-- and a good one passes
pub good_passes : (o : House) → GoodHouse o → house_ok o ≡ true
unfolding house_ok rest_ok
good_passes o g =
    rw (
      clear_count o.sites g.some g.few,
      good_table o.sites o.firsts g.table,
      ← all_below_lem (λ i. pick (ltb i o.sites) true (eqb (get_or o.firsts i 0) 0)) sizes.sites rest,
    )
  where
    rest : (i : ℕ) → i < sizes.sites → pick (ltb i o.sites) true (eqb (get_or o.firsts i 0) 0) ≡ true
    rest i h =
        by_test (ltb i o.sites)
        (λ t. rw t)
        (λ t. rw (t, eq-eqb _ _ (g.rest i (ltb-false i o.sites t) h)))

-- exactly: eight places, and what the tests ask
pub passed_good : (o : House) → house_ok o ≡ true → length o.firsts ≡ sizes.sites → GoodHouse o
unfolding house_ok rest_ok
passed_good o e size =
    let n = o.sites in
    let t : ℕ → Bool = λ i. pick (ltb i n) true (eqb (get_or o.firsts i 0) 0) in
    let l = count_ok n ∷ table_ok n o.firsts ∷ all_below t sizes.sites ∷ [] in
    let (some, few, table) = house_passed o e in
    record {
      some = some;
      few = few;
      table = table;
      size = size;
      rest = λ i a b. eqb-true _ _ (rw (le-ltb i n a) at (all_below_at t sizes.sites i (every_at l 2 e) b));
    }

-- Where keys live.
pub home_positive : (o : House) (k : ℕ) → 1 ≤ home_of o k
unfolding home_of
home_positive o k = by_test (is_key k) (λ t. rw t (omega arith)) (λ t. rw t (omega arith))

-- a key of one of eight sites is below 2,048
pub key_low : (o : House) (own k : ℕ) → own ≤ sizes.sites → home_of o k ≡ own → k < sizes.keys
unfolding home_of is_key
key_low o own k h e = by_test (ltb k sizes.keys) (λ t. ltb-true k sizes.keys t) (λ t. absurd (let x = rw t at e in omega arith))

-- whatever the table, the sites of ascending keys do not descend
pub home_rises : (o : House) (k m : ℕ) → k ≤ m → home_of o k ≤ home_of o m
unfolding home_of is_key
home_rises o k m h =
    by_test (ltb m sizes.keys)
    (λ t. let l : k < sizes.keys = omega (arith, ltb-true m sizes.keys t) in
    rw (t, lt-ltb k sizes.keys l) (omega (arith, below)))
    (λ t. by_test (ltb k sizes.keys)
    (λ u. rw (t, u) (omega (arith, first_le (ends_above o k) (sizes.sites - 1))))
    (λ u. rw (t, u) (omega arith)))
  where
    at_m : ℕ
    at_m = first_below (ends_above o m) (sizes.sites - 1)

    also : (i : ℕ) → ends_above o m i ≡ true → ends_above o k i ≡ true
    also i e =
        by_test (ltb (i + 1) o.sites)
        (λ t. rw t (lt-ltb k _ (omega (arith, ltb-true m (get_or o.firsts (i + 1) 0) (rw t at e)))))
        (λ t. rw t)

    below : first_below (ends_above o k) (sizes.sites - 1) ≤ at_m
    below =
        by_test (ltb at_m (first_below (ends_above o k) (sizes.sites - 1)))
        (λ t. let l = ltb-true _ _ t in
        let a : at_m < sizes.sites - 1 = omega (arith, first_le (ends_above o k) (sizes.sites - 1)) in
        absurd (set_not _ (also at_m (at_first (ends_above o m) (sizes.sites - 1) a))
        (before_first (ends_above o k) (sizes.sites - 1) at_m l)))
        (λ t. ltb-false _ _ t)

module _ (o : House) (some : 1 ≤ o.sites) (few : o.sites ≤ sizes.sites) (table : GoodTable o.sites o.firsts) where
  abbrev first : ℕ → ℕ
  first i = get_or o.firsts i 0

  -- first keys ascend over any distance
  ascends : (i d : ℕ) → i + d < o.sites → first i ≤ first (i + d)
  ascends i zero h = let z : i + zero ≡ i = omega arith in rw z (omega arith)
  ascends i (suc d) h =
      let z : i + suc d ≡ i + d + 1 = omega arith in
      rw z (omega (arith, ascends i d (omega arith), table.rising (i + d) (omega arith)))

  -- a key in the range of a site lives there
  pub in_range_home : (s k : ℕ) → 1 ≤ s → s ≤ o.sites → in_range o s k ≡ true → home_of o k ≡ s
  unfolding in_range home_of is_key
  in_range_home s k a b e =
      let l = leb (first_key o s) k ∷ ltb k (end_key o s) ∷ [] in
      go (s - 1) (omega arith) (omega arith) (leb-true (first_key o s) k (every_at l 0 e)) (ltb-true k (end_key o s) (every_at l 1 e))
    where
      go : (j : ℕ) → j + 1 ≡ s → j < o.sites → first j ≤ k → k < end_key o s → home_of o k ≡ s
      go j z h low high =
          let more : (j + 1 < o.sites) → k < first (j + 1) = λ q. rw (← z, lt-ltb (j + 1) o.sites q) at high in
          let key : k < sizes.keys = by_test (ltb (j + 1) o.sites)
          (λ t. let q = ltb-true _ _ t in omega (arith, more q, table.low (j + 1) q))
          (λ t. rw (← z, t) at high) in
          let none : (i : ℕ) → i < j → ends_above o k i ≡ false = λ i q.
          let d : i + 1 + (j - (i + 1)) ≡ j = omega arith in
          let up : first (i + 1) ≤ first j = rw d at (ascends (i + 1) (j - (i + 1)) (omega arith)) in
          rw (lt-ltb (i + 1) o.sites (omega arith)) (le-ltb k (first (i + 1)) (omega arith)) in
          let ends : ends_above o k j ≡ true = by_test (ltb (j + 1) o.sites)
          (λ t. rw t (lt-ltb k (first (j + 1)) (more (ltb-true _ _ t))))
          (λ t. rw t) in
          let found : j ≡ first_below (ends_above o k) (sizes.sites - 1) = by_test (ltb j (sizes.sites - 1))
          (λ t. first_below_lem (ends_above o k) (sizes.sites - 1) j (ltb-true _ _ t) none ends)
          (λ t. let q : j ≡ sizes.sites - 1 = omega (arith, ltb-false j (sizes.sites - 1) t) in
          q ∙ first_below_none (ends_above o k) (sizes.sites - 1) (λ i b. none i (omega arith))) in
          rw (lt-ltb k sizes.keys key, ← found) z

  abbrev at : ℕ → ℕ
  at k = first_below (ends_above o k) (sizes.sites - 1)

  at_site : (k : ℕ) → at k < o.sites
  at_site k =
      by_test (ltb (at k) o.sites)
      (λ t. ltb-true _ _ t)
      (λ t. let q = ltb-false (at k) o.sites t in
      let last : ends_above o k (o.sites - 1) ≡ true = rw (le-ltb (o.sites - 1 + 1) o.sites (omega arith)) in
      absurd (set_not _ last (before_first (ends_above o k) (sizes.sites - 1) (o.sites - 1) (omega arith))))

  reaches : (k i : ℕ) → i ≡ at k → first i ≤ k
  reaches k zero z = omega (arith, table.zero)
  reaches k (suc j) z =
      let e = before_first (ends_above o k) (sizes.sites - 1) j (omega arith) in
      let h : j + 1 < o.sites = omega (arith, at_site k) in
      let y : j + 1 ≡ suc j = omega arith in
      rw y at (ltb-false k (first (j + 1)) (rw (lt-ltb (j + 1) o.sites h) at e))

  ends : (k : ℕ) → k < sizes.keys → k < end_key o (at k + 1)
  ends k h =
      by_test (ltb (at k + 1) o.sites)
      (λ t. let l : at k < sizes.sites - 1 = omega (arith, ltb-true (at k + 1) o.sites t) in
      rw t (ltb-true k (first (at k + 1)) (rw t at (at_first (ends_above o k) (sizes.sites - 1) l))))
      (λ t. rw t h)

  -- a key lives at a site of the house, in its range
  pub home_site : (k : ℕ) → k < sizes.keys → home_of o k ≤ o.sites
  unfolding home_of is_key
  home_site k h = rw (lt-ltb k sizes.keys h) (omega (arith, at_site k))

  pub home_in_range : (k : ℕ) → k < sizes.keys → in_range o (home_of o k) k ≡ true
  unfolding in_range home_of is_key
  home_in_range k h =
      let z : at k + 1 - 1 ≡ at k = omega arith in
      rw (lt-ltb k sizes.keys h, z, le-leb (first (at k)) k (reaches k (at k) refl), lt-ltb k (end_key o (at k + 1)) (ends k h))

  -- so the range of a site says which keys live there
  pub range_is : (s k : ℕ) → 1 ≤ s → s ≤ o.sites → eqb (home_of o k) s ≡ in_range o s k
  range_is s k a b =
      by_test (in_range o s k)
      (λ t. rw t (eq-eqb (home_of o k) s (in_range_home s k a b t)))
      (λ t. rw t (ne_eqb (home_of o k) s (λ e.
      set_not _ (rw e at (home_in_range k (key_low o s k (omega arith) e))) t)))

-- The house that a start makes.
same_words_lem : (xs ys : List ℕ) → length xs ≡ length ys → ((i : ℕ) → i < length xs → get_or xs i 0 ≡ get_or ys i 0) → xs ≡ ys
same_words_lem [] [] e f = refl
same_words_lem [] (y ∷ ys) e f = absurd (omega arith)
same_words_lem (x ∷ xs) [] e f = absurd (omega arith)
same_words_lem (x ∷ xs) (y ∷ ys) e f = λ i. f 0 (omega arith) i ∷ same_words_lem xs ys (omega arith) (λ j h. f (suc j) (omega arith)) i

-- a table in eight places, and its words
pub table_at : (t : List ℕ) (i : ℕ) → length t ≤ sizes.sites → i < length t → get_or (overlay (replicate sizes.sites 0) t) i 0 ≡ get_or t i 0
unfolding overlay
table_at t i h l = get_or-append t (drop (length t) (replicate sizes.sites 0)) 0 i l

pub table_behind : (t : List ℕ) (i : ℕ) → length t ≤ sizes.sites → length t ≤ i → i < sizes.sites
    → get_or (overlay (replicate sizes.sites 0) t) i 0 ≡ 0
unfolding overlay
table_behind t i h l b =
    let z : i ≡ length t + (i - length t) = omega arith in
    ap (λ (j : ℕ). get_or (t ++ drop (length t) (replicate sizes.sites 0)) j 0) z
    ∙ get_or-append-add t (drop (length t) (replicate sizes.sites 0)) (i - length t) 0
    ∙ get_or-drop (length t) (replicate sizes.sites 0) (i - length t) 0
    ∙ ap (λ (j : ℕ). get_or (replicate sizes.sites 0) j 0) (sym z)
    ∙ get_or-replicate {A = ℕ} sizes.sites i 0 0 b

-- a good table makes a good house,
pub good_start : (n : ℕ) (t : List ℕ) → 1 ≤ n → n ≤ sizes.sites → length t ≡ n → GoodTable n t → GoodHouse (house_of n t)
good_start n t some few e g =
    let same : (i : ℕ) → i < n → get_or (overlay (replicate sizes.sites 0) t) i 0 ≡ get_or t i 0 = λ i h.
    table_at t i (omega arith) (omega arith) in
    record {
      some = some;
      few = few;
      table =
          record {
            zero = same 0 (omega arith) ∙ g.zero;
            rising = λ i h. rw (same i (omega arith), same (i + 1) h) (g.rising i h);
            low = λ i h. rw (same i h) (g.low i h);
          };
      size = length_overlay (replicate sizes.sites 0) t (rw (length-replicate {A = ℕ} sizes.sites 0) (omega arith))
          ∙ length-replicate {A = ℕ} sizes.sites 0;
      rest = λ i a b. table_behind t i (omega arith) (omega arith) b;
    }

-- and a good house is made from its own table
pub house_again : (o : House) → GoodHouse o → house_of o.sites (take o.sites o.firsts) ≡ o
house_again o g =
    let t = take o.sites o.firsts in
    let e : length t ≡ o.sites = length-take-le o.sites o.firsts (omega (arith, g.few, g.size)) in
    let long : length (overlay (replicate sizes.sites 0) t) ≡ sizes.sites =
    length_overlay (replicate sizes.sites 0) t (rw (length-replicate {A = ℕ} sizes.sites 0) (omega (arith, g.few)))
    ∙ length-replicate {A = ℕ} sizes.sites 0 in
    let words = same_words_lem (overlay (replicate sizes.sites 0) t) o.firsts (long ∙ sym g.size)
    (λ i h. by_test (ltb i o.sites)
    (λ u. let l = ltb-true _ _ u in
    table_at t i (omega (arith, g.few)) (omega arith) ∙ get_or-take o.sites o.firsts i 0 l)
    (λ u. let l = ltb-false i o.sites u in
    let b : i < sizes.sites = omega arith in
    table_behind t i (omega (arith, g.few)) (omega arith) b ∙ sym (g.rest i l b))) in
    λ i. record { sites = o.sites; firsts = words i }
