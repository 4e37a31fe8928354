-- Keys live in their ranges: KeysPlaced.
use Prim.Native.Nat.{ℕ, zero, suc, ◌+◌, ◌-◌, ◌*◌, ◌/◌, ◌≤◌, ◌<◌}
use mathlib.Core.Path.{◌≡◌, refl, sym, ◌∙◌}
use mathlib.Core.Bool.{true}
use mathlib.Core.List.{List, [], ◌∷◌}
use native.Mathlib.Omega.{arith}
use borrow.Author.Tests.{leb-true, le-leb, ltb-true, lt-ltb, ltb-false}
use lib.Dec.{ltb, leb}
use lib.ListN.{get_or, length}
use lib.Seq.{length-take-le, get_or-take}
use Rattle.laws.specs.Choice.{every_at, by_test}
use Rattle.kinds.specs.Sizes as sizes
use Rattle.kinds.specs.declared.House.{House}
use Rattle.rules.specs.House.{GoodTable, GoodHouse, house_of, even_table, first_key, end_key, in_range, home_of}
use Rattle.rules.specs.HouseLaws.{home_positive, home_site, home_in_range, in_range_home, table_at, good_start}
use Rattle.rules.specs.Tables.{InRange, even_home, KeysPlaced}

-- the range as numbers and as a test
range_tested : (o : House) → (s k : ℕ) → k < sizes.keys → InRange o s k → in_range o s k ≡ true
unfolding in_range
range_tested o s k h r =
    let z : s + 1 - 1 ≡ s = omega arith in
    by_test (ltb s o.sites)
    (λ t. rw (t, le-leb (first_key o s) k r.from, lt-ltb k (get_or o.firsts s 0) (rw z at (r.to (ltb-true s o.sites t)))))
    (λ t. rw (t, le-leb (first_key o s) k r.from, lt-ltb k sizes.keys h))

tested_range : (o : House) (s k : ℕ) → 1 ≤ s → s ≤ o.sites → in_range o s k ≡ true → InRange o s k
unfolding in_range
tested_range o s k a b e =
    let l = leb (first_key o s) k ∷ ltb k (end_key o s) ∷ [] in
    let z : s + 1 - 1 ≡ s = omega arith in
    record {
      first = a;
      last = b;
      from = leb-true _ _ (every_at l 0 e);
      to = λ h. rw z (rw (lt-ltb s o.sites h) at (ltb-true k (end_key o s) (every_at l 1 e)));
    }

lives : (o : House) → GoodHouse o → (k : ℕ) → k < sizes.keys → InRange o (home_of o k) k
lives o g k h =
    tested_range o (home_of o k) k (home_positive o k) (home_site o g.some g.few g.table k h)
    (home_in_range o g.some g.few g.table k h)

alone : (o : House) → GoodHouse o → (k s : ℕ) → k < sizes.keys → InRange o s k → s ≡ home_of o k
alone o g k s h r = sym (in_range_home o g.some g.few g.table s k r.first r.last (range_tested o s k h r))

-- The even table.
abbrev firsts : List ℕ
firsts = 0 ∷ 256 ∷ 512 ∷ 768 ∷ 1024 ∷ 1280 ∷ 1536 ∷ 1792 ∷ []

first_at : (i : ℕ) → i < sizes.sites → get_or firsts i 0 ≡ 256 * i
first_at zero h = refl
first_at (suc zero) h = refl
first_at (suc (suc zero)) h = refl
first_at (suc (suc (suc zero))) h = refl
first_at (suc (suc (suc (suc zero)))) h = refl
first_at (suc (suc (suc (suc (suc zero))))) h = refl
first_at (suc (suc (suc (suc (suc (suc zero)))))) h = refl
first_at (suc (suc (suc (suc (suc (suc (suc zero))))))) h = refl
first_at (suc (suc (suc (suc (suc (suc (suc (suc i)))))))) h = absurd (omega arith)

module _ (n : ℕ) (some : 1 ≤ n) (few : n ≤ sizes.sites) where
  even_at : (i : ℕ) → i < n → get_or (even_table n) i 0 ≡ 256 * i
  unfolding even_table
  even_at i h = get_or-take n firsts i 0 h ∙ first_at i (omega arith)

  even_long : length (even_table n) ≡ n
  unfolding even_table
  even_long = length-take-le n firsts few

  even_table_lem : GoodTable n (even_table n)
  even_table_lem =
      record {
        zero = even_at 0 some;
        rising = λ i h. rw (even_at i (omega arith), even_at (i + 1) h) (omega arith);
        low = λ i h. rw (even_at i h) (omega arith);
      }

  even_good : GoodHouse (house_of n (even_table n))
  even_good = good_start n (even_table n) some few even_long even_table_lem

  first_key_lem : (s : ℕ) → 1 ≤ s → s ≤ n → first_key (house_of n (even_table n)) s ≡ 256 * (s - 1)
  first_key_lem s a b = table_at (even_table n) (s - 1) (omega (arith, even_long)) (omega (arith, even_long)) ∙ even_at (s - 1) (omega arith)

  even : (k : ℕ) → k < sizes.keys → home_of (house_of n (even_table n)) k ≡ even_home n k
  even k h =
      by_test (ltb (k / sizes.site_keys) n)
      (λ t. let l = ltb-true (k / sizes.site_keys) n t in
      rw t (sym (alone o even_good k (k / sizes.site_keys + 1) h (record {
        first = omega arith;
        last = omega arith;
        from = rw (first_key_lem (k / sizes.site_keys + 1) (omega arith) (omega arith)) (omega arith);
        to = λ q. rw (first_key_lem (k / sizes.site_keys + 1 + 1) (omega arith) (omega arith)) (omega arith);
      }))))
      (λ t. let l = ltb-false (k / sizes.site_keys) n t in
      rw t (sym (alone o even_good k n h (record {
        first = some;
        last = omega arith;
        from = rw (first_key_lem n some (omega arith)) (omega arith);
        to = λ q. absurd (omega arith);
      }))))
    where
      o : House
      o = house_of n (even_table n)

whole : (k : ℕ) → k < sizes.keys → home_of (house_of sizes.sites (even_table sizes.sites)) k ≡ k / sizes.site_keys + 1
whole k h =
    let l : k / sizes.site_keys < sizes.sites = omega arith in
    rw (lt-ltb (k / sizes.site_keys) sizes.sites l) at (even sizes.sites (omega arith) (omega arith) k h)

pub keys_placed : KeysPlaced
keys_placed = record { lives = lives; alone = alone; even_good = even_good; even = even; whole = whole }
