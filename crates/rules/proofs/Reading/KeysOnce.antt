-- Each key stands once among a part's writes, so forgetting the part leaves the value that it wrote.
use Prim.Native.Nat.{ℕ, zero, suc, ◌+◌, ◌*◌, ◌≤◌, ◌<◌}
use mathlib.Core.Path.{◌≡◌, refl, sym, ◌∙◌}
use mathlib.Core.Bool.{true, false}
use mathlib.Core.List.{List}
use native.Mathlib.Omega.{arith}
use lib.ListN.{length, get_or, set}
use lib.Seq.{get_or-set_same, get_or-set_other}
use Rattle.laws.specs.Choice.{by_test, set_not}
use Rattle.laws.specs.Scan.{split_last, fold_below}
use Rattle.kinds.specs.Sizes as sizes
use Rattle.kinds.specs.declared.Keys.{Keys}
use Rattle.kinds.specs.State.{fresh, no_keys}
use Rattle.kinds.specs.declared.Value.{Value}
use Rattle.rules.specs.Value.{put_value, base_value}
use Rattle.rules.specs.ValueLaws.{put_same, base_other}
use Rattle.rules.specs.Keys.{key_place, wrote_key, wrote_value, read_key, with_read, with_write}
use Rattle.rules.specs.KeysLaws.{by_order, among_wrote}
use Rattle.rules.specs.History.{forget_into}
use Rattle.rules.proofs.Refine.Refines.{Sized}
use Rattle.rules.proofs.Refine.KeysTold.{place_low, place_is}
use Rattle.rules.proofs.Refine.RefineLog.{forget_length}

abbrev pub EachOnce : Keys → Type 0
EachOnce b = (i j : ℕ) → i < b.wrote → j < b.wrote → get_or b.writes i 0 ≡ get_or b.writes j 0 → i ≡ j

-- Of a part that began, and after a read or a write.
pub once_none : EachOnce no_keys
unfolding no_keys
once_none i j h l e = absurd (omega arith)

pub once_read : (b : Keys) (k : ℕ) → EachOnce b → EachOnce (with_read b k)
unfolding with_read
once_read b k o = by_test (read_key b k) (λ e. rw e o) (λ e. rw e o)

pub once_again : (b : Keys) (k : ℕ) (v : Value) → wrote_key b k ≡ true → EachOnce b → EachOnce (with_write b k v)
unfolding with_write
once_again b k v e o = rw e o

-- a first write stands behind the others, none of which is of its key
module _ (b : Keys) (k : ℕ) (z : Sized b) (room : b.wrote < sizes.writes) (e : wrote_key b k ≡ false) where
  abbrev more : List ℕ
  more = set b.writes b.wrote k

  older : (i : ℕ) → i < b.wrote → get_or more i 0 ≡ get_or b.writes i 0
  older i h = get_or-set_other b.writes b.wrote i k 0 (λ q. omega arith)

  newest : get_or more b.wrote 0 ≡ k
  newest = get_or-set_same b.writes b.wrote k 0 (omega (arith, z.writes_size))

  differ : (i : ℕ) → i < b.wrote → get_or more i 0 ≡ get_or more b.wrote 0 → ⊥
  differ i h q = set_not _ (among_wrote b k (i, h, sym (older i h) ∙ q ∙ newest)) e

  pub once_first : (v : Value) → EachOnce b → EachOnce (with_write b k v)
  unfolding with_write
  once_first v o = rw e each
    where
      each : (i j : ℕ) → i < b.wrote + 1 → j < b.wrote + 1 → get_or more i 0 ≡ get_or more j 0 → i ≡ j
      each i j h l q =
          by_order i b.wrote
          (λ x. by_order j b.wrote
          (λ y. o i j x y (sym (older i x) ∙ q ∙ older j y))
          (λ y. let n : j ≡ b.wrote = omega arith in absurd (differ i x (rw n at q))))
          (λ x. let m : i ≡ b.wrote = omega arith in
          by_order j b.wrote
          (λ y. absurd (differ j y (sym (rw m at q))))
          (λ y. omega arith))

-- Forgetting the first n writes: a key of none of them keeps its value, and one has the value of the last of them.
module _ (b : Keys) (k : ℕ) (base : List ℕ) where
  abbrev forgets : ℕ → List ℕ
  forgets n = fold_below (λ i l. put_value l (sizes.value * get_or b.writes i 0) (get_or b.values i fresh)) n base

  keeps : (n : ℕ) → ((i : ℕ) → i < n → get_or b.writes i 0 ≡ k → ⊥) → base_value (forgets n) k ≡ base_value base k
  unfolding fold_below
  keeps zero h = refl
  keeps (suc n) h =
      base_other (forgets n) (get_or b.writes n 0) k (get_or b.values n fresh) (h n (omega arith))
      ∙ keeps n (λ i l. h i (omega arith))

  leaves : (n i : ℕ) → sizes.value * k + sizes.value ≤ length base → i < n → get_or b.writes i 0 ≡ k
      → ((j : ℕ) → i < j → j < n → get_or b.writes j 0 ≡ k → ⊥)
      → base_value (forgets n) k ≡ get_or b.values i fresh
  unfolding fold_below
  leaves zero i low h e last = absurd (omega arith)
  leaves (suc n) i low h e last =
      split_last h
      (λ (q : i ≡ n). rw (← q, e)
      (put_same (forgets i) (sizes.value * k) (get_or b.values i fresh) (omega (arith, forget_length b i base))))
      (λ (l : i < n).
      base_other (forgets n) (get_or b.writes n 0) k (get_or b.values n fresh) (last n l (omega arith))
      ∙ leaves n i low l e (λ j x y. last j x (omega arith)))

  pub forget_other : wrote_key b k ≡ false → base_value (forget_into base b) k ≡ base_value base k
  unfolding forget_into
  forget_other e = keeps b.wrote (λ i h q. set_not _ (among_wrote b k (i, h, q)) e)

  pub forget_wrote : EachOnce b → sizes.value * k + sizes.value ≤ length base → wrote_key b k ≡ true
      → base_value (forget_into base b) k ≡ wrote_value b k
  unfolding forget_into wrote_value
  forget_wrote o low e =
      let i = key_place b.writes b.wrote k in
      let h = place_low b k e in
      let q = place_is b.writes b.wrote k h in
      leaves b.wrote i low h q (λ j x y z. omega (arith, o i j h y (q ∙ sym z)))
