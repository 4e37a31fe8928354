-- C9, C23 and C54: the version that a snapshot sees is the last one within it, and what is forgotten is what came before the
-- last 32.
use Rattle.std.specs.Prelude.{ℕ, ◌+◌, ◌-◌, ◌≤◌, ◌<◌, ◌≡◌, List, true, false, ltb}
use Rattle.std.proofs.Math.Path.{refl}
use Rattle.std.proofs.Common.{◌∙◌, mod-eq_of_lt}
use native.Mathlib.Omega.{arith}
use borrow.Author.Tests.{ltb-true, ltb-false, lt-ltb, le-ltb}
use Rattle.laws.specs.Choice.{by_test}
use Rattle.laws.specs.Scan.{NoneBelow, first_below_lem, first_below_none}
use Rattle.kinds.specs.declared.Entry.{Entry}
use Rattle.kinds.specs.declared.Snapshot.{Snapshot}
use Rattle.rules.specs.Value.{base_value}
use Rattle.rules.specs.Keys.{wrote_key, wrote_value}
use Rattle.rules.specs.History.{remembered, forgotten, slot_of, recall, is_forgotten, within, backwards, newer, version_of}

-- The last 32 are remembered, the others forgotten.

pub remembered_few : (n : ℕ) → remembered n ≤ 32
unfolding remembered
remembered_few n = omega arith

pub all_installs : (n : ℕ) → forgotten n + remembered n ≡ n
unfolding forgotten remembered
all_installs n = omega arith

pub within_remembered : (n : ℕ) (p : Snapshot) → within n p ≤ remembered n
unfolding within remembered forgotten
within_remembered n p = omega arith

pub within_few : (n : ℕ) (p : Snapshot) → within n p ≤ 32
within_few n p = omega (arith, within_remembered n p, remembered_few n)

-- An install after the snapshot has been forgotten: a number above the snapshot's is at or below the last forgotten.

pub forgotten_after : (n : ℕ) (p : Snapshot) → is_forgotten n p ≡ true → (m : ℕ) × (p.installs < m) × (m ≤ forgotten n)
unfolding is_forgotten
forgotten_after n p t = (forgotten n, ltb-true _ _ t, omega arith)

pub after_forgotten : (n : ℕ) (p : Snapshot) (m : ℕ) → p.installs < m → m ≤ forgotten n → is_forgotten n p ≡ true
unfolding is_forgotten
after_forgotten n p m h l = lt-ltb p.installs (forgotten n) (omega arith)

-- A remembered install's slot is one of the history's.

pub slot_low : (n : ℕ) → slot_of n < 32
slot_low n = omega arith

-- and among those in use
pub slot_used : (n i : ℕ) → i < remembered n → slot_of (forgotten n + i) < remembered n
unfolding remembered forgotten
slot_used n i h =
    by_test (ltb 32 n)
    (λ t. omega (arith, ltb-true 32 n t, slot_low (n - 32 + i)))
    (λ f. omega (arith, ltb-false 32 n f, small (n - 32 + i) (omega (arith, ltb-false 32 n f))))
  where
    small : (m : ℕ) → m < 32 → slot_of m ≡ m
    small m h = mod-eq_of_lt h

-- Reading goes backwards from the newest version within the snapshot, and ends at the first that wrote the key.

module _ (history : List Entry) (installs : ℕ) (base : List ℕ) (p : Snapshot) (k v : ℕ) (e : v ≡ within installs p) where
  pub version_found : (j : ℕ) → j < v → NoneBelow (λ i. wrote_key (backwards history installs v i).keys k) j
      → wrote_key (backwards history installs v j).keys k ≡ true
      → version_of history installs base p k ≡ wrote_value (backwards history installs v j).keys k
  unfolding version_of newer
  version_found j h none t =
      let n = first_below_lem (λ i. wrote_key (backwards history installs v i).keys k) v j h none t in
      rw (← e, ← n, lt-ltb j v h)

  pub version_none : NoneBelow (λ i. wrote_key (backwards history installs v i).keys k) v
      → version_of history installs base p k ≡ base_value base k
  unfolding version_of newer
  version_none none =
      let n = first_below_none (λ i. wrote_key (backwards history installs v i).keys k) v none in
      rw (← e, ← n, le-ltb v v (omega arith))

-- So the version is that of the last install within the snapshot that wrote the key, else the base value.

module _ (history : List Entry) (installs : ℕ) (base : List ℕ) (p : Snapshot) (k : ℕ) where
  pub version_wrote : (i : ℕ) → i < within installs p → wrote_key (recall history installs i).keys k ≡ true
      → ((j : ℕ) → i < j → j < within installs p → wrote_key (recall history installs j).keys k ≡ false)
      → version_of history installs base p k ≡ wrote_value (recall history installs i).keys k
  unfolding backwards
  version_wrote i h t none =
      let v = within installs p in
      let q : v - 1 - (v - 1 - i) ≡ i = omega arith in
      version_found history installs base p k v refl (v - 1 - i) (omega arith) (λ j l. none (v - 1 - j) (omega arith) (omega arith))
      (rw q t) ∙ rw q

  pub version_base : ((j : ℕ) → j < within installs p → wrote_key (recall history installs j).keys k ≡ false)
      → version_of history installs base p k ≡ base_value base k
  unfolding backwards
  version_base none =
      let v = within installs p in
      version_none history installs base p k v refl (λ j l. none (v - 1 - j) (omega arith))
