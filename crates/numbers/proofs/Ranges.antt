-- What `all` answers of the numbers below n, as the scan by index.
use Rattle.std.proofs.Common.{ℕ, ◌<◌, ◌≡◌, ◌∙◌, arith, Bool, true, false, List, length, get_or}
use denote.Param.Members.{Mut}
use Rattle.std.proofs.iter.Yields.{nat_range_steps}
use Rattle.std.proofs.lemmas.Iterator.{cases_from_all, YieldsList-from_range}
use Rattle.std.proofs.lemmas.List.FromFn.{length-range_with_len, get_or-range_with_len}
use Rattle.std.specs.Prelude.{MatchBool, MatchOption, Option}
use Rattle.std.specs.declared.ops.Range.{Range}
use Rattle.std.specs.Fn.{Called}
use Rattle.std.specs.Iterator.{YieldsThen}
use Rattle.std.specs.List.{AllWithin, FoldsTo, HoldsAt, range_with_len}
use Rattle.laws.specs.Scan.{all_below, all_below_lem, not_all_below}

module _ (t : ℕ → Bool) (n : ℕ) where
  abbrev Passes : ℕ → Type 0
  Passes i = t i ≡ true

  abbrev Fails : ℕ → Type 0
  Fails i = t i ≡ false

  item : (k : ℕ) → k < n → get_or (range_with_len 0 n) k 0 ≡ k
  item k b = get_or-range_with_len 0 n k 0 b ∙ omega arith

  -- by the facts that the library's lemma gives of the run
  all_in_range : (r : Bool)
      → MatchBool r (AllWithin Passes (range_with_len 0 n) 0 (length (range_with_len 0 n)))
      ((k : ℕ) × (k < length (range_with_len 0 n)) × HoldsAt Fails (range_with_len 0 n) k)
      → r ≡ all_below t n
  all_in_range true passes =
      all_below_lem _ _ (λ k b. rw (item k b) at (passes k 0 (omega arith) (omega (arith, length-range_with_len 0 n))))
  all_in_range false (k, low, fails) =
      let b : k < n = omega (arith, length-range_with_len 0 n) in
      not_all_below _ _ k b (rw (item k b) at (fails 0))

-- whether all pass, where the closure says of a number what t does and stays as it is
pub all_over_range : {F : Type 0} {g : Mut F (ℕ × Unit {0}) Bool} {s : Range ℕ} (u : Range ℕ) (f : F) (t : ℕ → Bool) (n : ℕ) (r : Bool)
    → s ≡ record { start = 0; end = n }
    → (xs : List ℕ) × (o : Option ℕ) × (j : F) × YieldsThen nat_range_steps s xs o u × FoldsTo (λ p x q. Called g p (x, tt) true q) f xs j
    × MatchOption o (r ≡ true) (λ x. (r ≡ false) × ((h : F) × Called g j (x, tt) false h))
    → ((x : ℕ) (q : F) → Called g f (x, tt) true q → (q ≡ f) × (t x ≡ true))
    → ((x : ℕ) (q : F) → Called g f (x, tt) false q → t x ≡ false)
    → r ≡ all_below t n
all_over_range u f t n r e ran passes fails =
    all_in_range t n r
    (cases_from_all u f r (λ i. t i ≡ true) (λ i. t i ≡ false) ran (YieldsList-from_range 0 n n e (omega arith)) passes fails)
