-- The base values of a site are what its forgotten installs left: an install forgets the oldest of 32 into them, and nothing else changes
-- them.
use Prim.Native.Nat.{ℕ, suc, ◌+◌, ◌*◌, ◌≤◌, ◌<◌}
use mathlib.Core.Path.{◌≡◌, sym, ap, ◌∙◌}
use mathlib.Core.List.{List}
use native.Mathlib.Omega.{arith}
use borrow.Author.Tests.{le-leb, lt-leb}
use lib.ListN.{length, get_or}
use Rattle.laws.specs.Choice.{by_test, by_same}
use Rattle.kinds.specs.Sizes as sizes
use Rattle.kinds.specs.declared.House.{House}
use Rattle.kinds.specs.declared.Entry.{Entry}
use Rattle.kinds.specs.declared.Site.{Site}
use Rattle.kinds.specs.State.{past_entry, entry_at}
use Rattle.rules.specs.Value.{base_value}
use Rattle.rules.specs.Keys.{wrote_key}
use Rattle.rules.specs.KeysLaws.{by_order}
use Rattle.rules.specs.History.{slot_of, remembered, forgotten, forget_into}
use Rattle.rules.specs.Install.{base_after}
use Rattle.rules.specs.World.{World}
use Rattle.rules.proofs.Protocol.ProtocolTables.{Protocol, inst}
use Rattle.rules.proofs.Protocol.Invariants.{at}
use Rattle.rules.proofs.Refine.Refines.{HistoryIs, Refines}
use Rattle.rules.proofs.Book.BookKept.{at_same}
use Rattle.rules.proofs.Reading.KeysOnce.{EachOnce, forget_other, forget_wrote}
use Rattle.rules.proofs.Reading.Versions.{left_below, left_wrote, left_other, left_same}
use Rattle.rules.proofs.Reading.MovesTold.{WritesOnce}

abbrev pub BasesAre : House → World → Protocol → Type 0
BasesAre house w p =
    (s k : ℕ) → 1 ≤ s → s ≤ house.sites → k < sizes.keys → base_value (w.base s) k ≡ left_below (at p s) k (forgotten (length (inst p s)))

-- what is forgotten of one install more: nothing while fewer than 32 are remembered, else the oldest
forgotten_same : (n : ℕ) → n < sizes.history → forgotten (n + 1) ≡ forgotten n
unfolding forgotten
forgotten_same n h = omega arith

forgotten_more : (n : ℕ) → sizes.history ≤ n → forgotten (n + 1) ≡ suc (forgotten n)
unfolding forgotten
forgotten_more n h = omega arith

forgotten_low : (n : ℕ) → sizes.history ≤ n → (0 < remembered n) × (forgotten n < n) × (slot_of n ≡ slot_of (forgotten n + 0))
unfolding forgotten remembered
forgotten_low n h = (omega arith, omega arith, omega arith)

-- The values after a forgotten entry.
forgets : (f : ℕ → Entry) (k n : ℕ) (base : List ℕ) → EachOnce (f n).keys → sizes.value * k + sizes.value ≤ length base
    → base_value base k ≡ left_below f k n
    → base_value (forget_into base (f n).keys) k ≡ left_below f k (suc n)
forgets f k n base o low b =
    by_test (wrote_key (f n).keys k)
    (λ e. forget_wrote (f n).keys k base o low e ∙ sym (left_wrote f k n e))
    (λ e. forget_other (f n).keys k base e ∙ b ∙ sym (left_other f k n e))

module _ (x : Site) (base : List ℕ) (es : List Entry) (k : ℕ) (h : HistoryIs x.history es) (z : x.counters.installs ≡ length es)
    (size : length base ≡ sizes.base) (low : k < sizes.keys) where
  abbrev entry : ℕ → Entry
  entry i = get_or es i past_entry

  -- the slot of the next install has the oldest
  oldest : sizes.history ≤ length es → entry_at x (slot_of (length es)) ≡ entry (forgotten (length es))
  oldest l =
      let (m, _, q) = forgotten_low (length es) l in
      let o : forgotten (length es) + 0 ≡ forgotten (length es) = omega arith in
      ap (λ (i : ℕ). get_or x.history i past_entry) q ∙ h.recalls 0 m ∙ ap entry o

  base_after_lem : ((i : ℕ) → i < length es → EachOnce (entry i).keys) → base_value base k ≡ left_below entry k (forgotten (length es))
      → base_value (base_after x base) k ≡ left_below entry k (forgotten (length es + 1))
  unfolding base_after
  base_after_lem o b =
      by_order (length es) sizes.history
      (λ l. rw (z, lt-leb sizes.history (length es) l, forgotten_same (length es) l) b)
      (λ l. rw (z, le-leb sizes.history (length es) l, forgotten_more (length es) l, oldest l)
      (forgets entry k (forgotten (length es)) base (o (forgotten (length es)) (forgotten_low (length es) l).1) (omega arith) b))

-- Where the installs and the base values stay.
pub bases_kept : (house : House) (w x : World) (p q : Protocol) → ((s : ℕ) → x.base s ≡ w.base s) → ((s : ℕ) → inst q s ≡ inst p s)
    → BasesAre house w p → BasesAre house x q
bases_kept house w x p q e f b s k l h low =
    rw (e s, f s) (b s k l h low ∙ left_same (at p s) (at q s) k (forgotten (length (inst p s))) (λ i n. sym (at_same p q f s i)))

-- A site with one install more; the others stay.
pub record Installs (w x : World) (s : ℕ) : Type 0 where
  pub base : x.base s ≡ base_after (w.site s) (w.base s)
  pub count : (x.site s).counters.installs ≡ (w.site s).counters.installs + 1
  pub others : (j : ℕ) → (j ≡ s → ⊥) → (x.base j ≡ w.base j) × (x.site j ≡ w.site j)

module _ {house : House} {w x : World} {p q : Protocol} (r : Refines house w p) (t : Refines house x q) (o : WritesOnce p)
    (kept : (s j : ℕ) → j < length (inst p s) → (j < length (inst q s)) × (at q s j ≡ at p s j)) (b : BasesAre house w p) where
  -- what they leave is told by the old ones
  left_kept : (s k n : ℕ) → n ≤ length (inst p s) → left_below (at p s) k n ≡ left_below (at q s) k n
  left_kept s k n h = left_same (at p s) (at q s) k n (λ i l. sym (kept s i (omega arith)).1)

  few : (n : ℕ) → (forgotten n ≤ n) × (forgotten (n + 1) ≤ n)
  unfolding forgotten
  few n = (omega arith, omega arith)

  pub bases_installed : (s : ℕ) → Installs w x s → BasesAre house x q
  bases_installed s i j k l h low = by_same j s here there
    where
      here : j ≡ s → base_value (x.base j) k ≡ left_below (at q j) k (forgotten (length (inst q j)))
      here e =
          let y = r.site j l h in
          let m : length (inst q j) ≡ length (inst p j) + 1 =
          sym (t.site j l h).counters.installs_are ∙ rw e i.count ∙ ap (λ (a : ℕ). a + 1) y.counters.installs_are in
          let d : x.base j ≡ base_after (w.site j) (w.base j) = rw e i.base in
          rw (d, m)
          (base_after_lem (w.site j) (w.base j) (inst p j) k y.history y.counters.installs_are y.base_size low (o.entry j)
          (b j k l h low)
          ∙ left_kept j k (forgotten (length (inst p j) + 1)) (few (length (inst p j))).1)

      there : (j ≡ s → ⊥) → base_value (x.base j) k ≡ left_below (at q j) k (forgotten (length (inst q j)))
      there f =
          let (d, e) = i.others j f in
          let m : length (inst q j) ≡ length (inst p j) =
          sym (t.site j l h).counters.installs_are ∙ ap (λ (a : Site). a.counters.installs) e
          ∙ (r.site j l h).counters.installs_are in
          rw (d, m) (b j k l h low ∙ left_kept j k (forgotten (length (inst p j))) (few (length (inst p j))).0)
