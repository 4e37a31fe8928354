-- What installs leave at a key is the write of the last of them that wrote it; and the version that a snapshot sees is what the installs
-- within it leave.
use Prim.Native.Nat.{ℕ, zero, suc, ◌+◌, ◌-◌, ◌≤◌, ◌<◌}
use mathlib.Core.Path.{◌≡◌, refl, sym, ap, ◌∙◌}
use mathlib.Core.Bool.{true, false}
use mathlib.Core.Logic.{◌⊎◌, inl, inr}
use mathlib.Core.List.{List}
use native.Mathlib.Omega.{arith}
use borrow.Author.Tests.{ltb-false}
use lib.ListN.{length, get_or}
use Rattle.laws.specs.Choice.{pick, by_test}
use Rattle.laws.specs.Scan.{split_last}
use Rattle.kinds.specs.Sizes as sizes
use Rattle.kinds.specs.declared.Entry.{Entry}
use Rattle.kinds.specs.declared.Snapshot.{Snapshot}
use Rattle.kinds.specs.State.{fresh, past_entry}
use Rattle.kinds.specs.declared.Value.{Value}
use Rattle.rules.specs.Value.{base_value}
use Rattle.rules.specs.Keys.{wrote_key, wrote_value}
use Rattle.rules.specs.KeysLaws.{by_order}
use Rattle.rules.specs.History.{recall, remembered, forgotten, is_forgotten, within, version_of}
use Rattle.rules.specs.HistoryLaws.{version_wrote, version_base}
use Rattle.rules.proofs.Refine.Refines.{HistoryIs}

-- what the first n entries leave at k, over zeros
unfoldable pub left_below : (ℕ → Entry) → ℕ → ℕ → Value
left_below f k zero = fresh
left_below f k (suc n) = pick (wrote_key (f n).keys k) (wrote_value (f n).keys k) (left_below f k n)

pub left_none : (f : ℕ → Entry) (k : ℕ) → left_below f k 0 ≡ fresh
unfolding left_below
left_none f k = refl

pub left_wrote : (f : ℕ → Entry) (k n : ℕ) → wrote_key (f n).keys k ≡ true → left_below f k (suc n) ≡ wrote_value (f n).keys k
unfolding left_below
left_wrote f k n e = rw e

pub left_other : (f : ℕ → Entry) (k n : ℕ) → wrote_key (f n).keys k ≡ false → left_below f k (suc n) ≡ left_below f k n
unfolding left_below
left_other f k n e = rw e

-- only the first n matter
pub left_same : (f g : ℕ → Entry) (k n : ℕ) → ((i : ℕ) → i < n → f i ≡ g i) → left_below f k n ≡ left_below g k n
unfolding left_below
left_same f g k zero e = refl
left_same f g k (suc n) e = rw (e n (omega arith), left_same f g k n (λ i l. e i (omega arith)))

-- v is the write of the last of the entries from a to n that wrote k, or what those before a leave
abbrev pub LastSince : (ℕ → Entry) → ℕ → ℕ → ℕ → Value → Type 0
LastSince f k a n v =
    (((i : ℕ) → a ≤ i → i < n → wrote_key (f i).keys k ≡ false) × (v ≡ left_below f k a))
    ⊎ ((i : ℕ) × (a ≤ i) × (i < n) × (wrote_key (f i).keys k ≡ true) × (v ≡ wrote_value (f i).keys k)
    × ((j : ℕ) → i < j → j < n → wrote_key (f j).keys k ≡ false))

module _ (f : ℕ → Entry) (k : ℕ) where
  since_here : (n : ℕ) → LastSince f k n n (left_below f k n)
  since_here n = inl ((λ i l h. absurd (omega arith)), refl)

  since_more : (a n : ℕ) (v : Value) → wrote_key (f n).keys k ≡ false → LastSince f k a n v → LastSince f k a (suc n) v
  since_more a n v e (inl (none, q)) = inl ((λ i l h. split_last h (λ (z : i ≡ n). rw z e) (λ (z : i < n). none i l z)), q)
  since_more a n v e (inr (i, l, h, t, q, none)) =
      inr (i, l, omega arith, t, q, λ j x y. split_last y (λ (z : j ≡ n). rw z e) (λ (z : j < n). none j x z))

  pub left_since : (a n : ℕ) → a ≤ n → LastSince f k a n (left_below f k n)
  left_since a zero h = let z : a ≡ 0 = omega arith in rw z (since_here 0)
  left_since a (suc n) h =
      by_order n a
      (λ l. let z : a ≡ suc n = omega arith in rw z (since_here (suc n)))
      (λ l. by_test (wrote_key (f n).keys k)
      (λ e. inr (n, l, omega arith, e, left_wrote f k n e, λ j x y. absurd (omega arith)))
      (λ e. rw (left_other f k n e) (since_more a n (left_below f k n) e (left_since a n l))))

-- The version that a snapshot sees, where no install after it is forgotten and the base values are what the forgotten ones left.
module _ (history es : List Entry) (base : List ℕ) (p : Snapshot) (k : ℕ) (x : HistoryIs history es) where
  abbrev entry : ℕ → Entry
  entry i = get_or es i past_entry

  abbrev size : ℕ
  size = length es

  recalled : (i j : ℕ) → i < remembered size → forgotten size + i ≡ j
      → wrote_key (recall history size i).keys k ≡ wrote_key (entry j).keys k
  recalled i j h e = ap (λ (a : Entry). wrote_key a.keys k) (x.recalls i h ∙ ap entry e)

  -- the number within the snapshot, and where they begin
  record Spans : Type 0 where
    inside : forgotten size + within size p ≡ p.installs
    few : within size p ≤ remembered size

  spans : p.installs ≤ size → is_forgotten size p ≡ false → Spans
  unfolding is_forgotten within remembered forgotten
  spans l e = let g = ltb-false p.installs (size - sizes.history) e in record { inside = omega arith; few = omega arith }

  pub version_left : p.installs ≤ size → is_forgotten size p ≡ false → base_value base k ≡ left_below entry k (forgotten size)
      → version_of history size base p k ≡ left_below entry k p.installs
  version_left l e b = go (spans l e) (left_since entry k (forgotten size) p.installs (omega (arith, (spans l e).inside)))
    where
      go : Spans → LastSince entry k (forgotten size) p.installs (left_below entry k p.installs)
          → version_of history size base p k ≡ left_below entry k p.installs
      go n (inl (none, q)) =
          version_base history size base p k
          (λ j h. recalled j (forgotten size + j) (omega (arith, n.few)) refl
          ∙ none (forgotten size + j) (omega arith) (omega (arith, n.inside)))
          ∙ b ∙ sym q
      go n (inr (i, a, h, t, q, none)) =
          let j = i - forgotten size in
          let o : forgotten size + j ≡ i = omega arith in
          let m : j < within size p = omega (arith, n.inside) in
          version_wrote history size base p k j m (recalled j i (omega (arith, n.few)) o ∙ t)
          (λ u y z. recalled u (forgotten size + u) (omega (arith, n.few)) refl
          ∙ none (forgotten size + u) (omega arith) (omega (arith, n.inside)))
          ∙ ap (λ (a : Entry). wrote_value a.keys k) (x.recalls j (omega (arith, n.few)) ∙ ap entry o) ∙ sym q
