-- Q3.1: the `count` keys from `first` on are those that live at site `own`.
use Rattle.std.specs.Prelude.{◌≡◌, ℕ, ◌+◌, ◌-◌, ◌%◌, ◌^◌, ◌<◌, ◌≤◌, true, false, List, ◌==◌, nat_lt, slice_index}
use Rattle.std.proofs.Common.{sym, arith, le-leb, le-ltb, lt-ltb, ltb-true, ltb-false}
use Rattle.std.proofs.lemmas.Bool.{lt-leb}
use Rattle.laws.specs.Choice.{by_test, pick_same}
use Rattle.laws.specs.Scan.{all_below}
use Rattle.kinds.specs.Sizes as sizes
use Rattle.kinds.specs.declared.House.{House}
use Rattle.rules.specs.House.{GoodTable, home_of, first_key, end_key, within}
use Rattle.rules.specs.Keys.{keys_at}

pub record RangeOf (o : House) (own first count : ℕ) : Type 0 where
  pub here : (k : ℕ) → (home_of o k == own) ≡ within first (first + count) k
  pub low : first + count ≤ sizes.keys

-- so the first n keys of a list live there where each is in the range
pub keys_within : (o : House) (own first count : ℕ) (keys : List ℕ) (n : ℕ) → RangeOf o own first count
    → all_below (λ i. within first (first + count) (slice_index keys i)) n ≡ keys_at o own keys n
unfolding keys_at
keys_within o own first count keys n range = λ j. all_below (λ i. sym (range.here (slice_index keys i)) j) n

-- how far a key is above `first`, where one below it wraps: that says whether it is in the range
pub inside : (first count k above : ℕ) → first + count ≤ sizes.keys → (above + first) % 2 ^ 64 ≡ k → above < count
    → within first (first + count) k ≡ true
inside first count k above low e h =
    let same : k ≡ above + first = omega arith in
    rw (le-leb first k (omega arith), lt-ltb k (first + count) (omega arith))

pub outside : (first count k above : ℕ) → first + count ≤ sizes.keys → above < 2 ^ 64 → (above + first) % 2 ^ 64 ≡ k → count ≤ above
    → within first (first + count) k ≡ false
outside first count k above low fits e h =
    by_test (nat_lt (above + first) (2 ^ 64))
    (λ t. let l : above + first < 2 ^ 64 = ltb-true _ _ t in rw (le-ltb k (first + count) (omega arith), pick_same))
    (λ t. let l : 2 ^ 64 ≤ above + first = ltb-false _ _ t in rw (lt-leb first k (omega arith)))

-- the range of a site of a house with a good table
pub range_rises : (o : House) (own : ℕ) → GoodTable o.sites o.firsts → 1 ≤ own → own ≤ o.sites
    → (first_key o own ≤ end_key o own) × (end_key o own ≤ sizes.keys)
range_rises o own table some high =
    by_test (nat_lt own o.sites)
    (λ t. let l = ltb-true own o.sites t in
    let z : own - 1 + 1 ≡ own = omega arith in
    let up = rw z at (table.rising (own - 1) (omega arith)) in
    rw t (omega arith, omega (arith, table.low own l)))
    (λ t. rw t (omega (arith, table.low (own - 1) (omega arith)), omega arith))
