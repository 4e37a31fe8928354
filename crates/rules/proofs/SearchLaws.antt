-- Q5.1 to Q5.3: where the search ends, what it answers there, and that it finds the version that the snapshot sees.
use Rattle.std.specs.Prelude.{ℕ, zero, suc, ◌+◌, ◌-◌, ◌<◌, ◌≡◌, List}
use Rattle.std.proofs.Common.{sym, ap, ◌∙◌, ⊎_elim}
use native.Mathlib.Omega.{arith}
use Rattle.laws.specs.Scan.{NoneBelow, LastBelow, split_last, last_below}
use Rattle.kinds.specs.declared.Entry.{Entry}
use Rattle.kinds.specs.declared.Search.{Search}
use Rattle.kinds.specs.declared.Snapshot.{Snapshot}
use Rattle.kinds.specs.declared.Value.{Value}
use Rattle.rules.specs.Value.{base_value}
use Rattle.rules.specs.Keys.{wrote_value}
use Rattle.rules.specs.History.{recall, within, version_of, walk, search_in}
use Rattle.rules.specs.HistoryLaws.{version_wrote, version_base}
use Rattle.rules.specs.SearchLaws.{answer, has, walk_end, walk_hit, walk_on}

module _ (entry : ℕ → Entry) (k : ℕ) (v : Value) where
  -- All steps: to the last that has the key, or past all.
  pub walk_last : (left looked i : ℕ) → LastBelow (has entry k) left i
      → walk entry k v left looked ≡ answer (wrote_value (entry i).keys k) (looked + (left - i))
  walk_last zero looked i l = absurd (omega (arith, l.low))
  walk_last (suc left) looked i l =
      split_last l.low
      (λ (z : i ≡ left).
      let n : suc left - i ≡ 1 = omega arith in
      rw (n, z) (walk_hit entry k v left looked (rw z at l.holds)))
      (λ (z : i < left).
      let n : looked + 1 + (left - i) ≡ looked + (suc left - i) = omega arith in
      walk_on entry k v left looked (l.later left z (omega arith))
      ∙ rw n at (walk_last left (looked + 1) i (record { low = z; holds = l.holds; later = λ j a b. l.later j a (omega arith) })))

  pub walk_none : (left looked : ℕ) → NoneBelow (has entry k) left → walk entry k v left looked ≡ answer v (looked + left)
  walk_none zero looked none = let n : looked + 0 ≡ looked = omega arith in rw n (walk_end entry k v looked)
  walk_none (suc left) looked none =
      let n : looked + 1 + left ≡ looked + suc left = omega arith in
      walk_on entry k v left looked (none left (omega arith)) ∙ rw n at (walk_none left (looked + 1) (λ j a. none j (omega arith)))

-- The search: the base value, or the last entry within the snapshot that has the key.
module _ (history : List Entry) (installs : ℕ) (base : List ℕ) (p : Snapshot) (k : ℕ) where
  pub search_none : NoneBelow (has (recall history installs) k) (within installs p)
      → search_in history installs base p k ≡ answer (base_value base k) (within installs p)
  unfolding search_in
  search_none none =
      let n : 0 + within installs p ≡ within installs p = omega arith in
      rw n at (walk_none (recall history installs) k (base_value base k) (within installs p) 0 none)

  pub search_last : (i : ℕ) → LastBelow (has (recall history installs) k) (within installs p) i
      → search_in history installs base p k ≡ answer (wrote_value (recall history installs i).keys k) (within installs p - i)
  unfolding search_in
  search_last i l =
      let n : 0 + (within installs p - i) ≡ within installs p - i = omega arith in
      rw n at (walk_last (recall history installs) k (base_value base k) (within installs p) 0 i l)

  -- so it finds the version that the snapshot sees
  pub search_same : (search_in history installs base p k).value ≡ version_of history installs base p k
  search_same =
      let here = has (recall history installs) k in
      ⊎_elim
      (λ (none : NoneBelow here (within installs p)).
      ap (λ (a : Search). a.value) (search_none none) ∙ sym (version_base history installs base p k none))
      (λ ((i, l) : (i : ℕ) × LastBelow here (within installs p) i).
      ap (λ (a : Search). a.value) (search_last i l) ∙ sym (version_wrote history installs base p k i l.low l.holds l.later))
      (last_below here (within installs p))
