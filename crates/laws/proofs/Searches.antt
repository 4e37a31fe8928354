-- What `position`, `any` and `all` answer of a list, as the scans by index: by the facts that std's lemmas give of their runs.
use Rattle.std.proofs.Common.{ℕ, ◌<◌, ◌≡◌, arith, List, Bool, true, false, length, get_or, unwrap_or}
use Rattle.std.specs.Prelude.{MatchOption, MatchBool, Option, None, Some}
use Rattle.std.specs.List.{AllWithin, HoldsAt}
use Rattle.laws.specs.Scan.{first_below, any_below, all_below, first_below_none, first_below_lem, any_below_lem, not_any_below, all_below_lem, not_all_below}

module _ {X : Type 0} (t : X → Bool) (xs : List X) (d : X) where
  abbrev Passes : X → Type 0
  Passes x = t x ≡ true

  abbrev Fails : X → Type 0
  Fails x = t x ≡ false

  -- the first place that passes
  pub first_found : (r : Option ℕ)
      → MatchOption r (AllWithin Fails xs 0 (length xs)) (λ i. (i < length xs) × HoldsAt Passes xs i × AllWithin Fails xs 0 i)
      → unwrap_or r (length xs) ≡ first_below (λ i. t (get_or xs i d)) (length xs)
  first_found None fails = first_below_none _ _ (λ k b. fails k d (omega arith) b)
  first_found (Some i) (low, passes, fails) = first_below_lem _ _ i low (λ k b. fails k d (omega arith) b) (passes d)

  -- whether one passes
  pub some_found : (r : Bool)
      → MatchBool r ((k : ℕ) × (k < length xs) × HoldsAt Passes xs k) (AllWithin Fails xs 0 (length xs))
      → r ≡ any_below (λ i. t (get_or xs i d)) (length xs)
  some_found true (k, low, passes) = any_below_lem _ _ k low (passes d)
  some_found false fails = not_any_below _ _ (λ k b. fails k d (omega arith) b)

  -- whether all pass
  pub all_found : (r : Bool)
      → MatchBool r (AllWithin Passes xs 0 (length xs)) ((k : ℕ) × (k < length xs) × HoldsAt Fails xs k)
      → r ≡ all_below (λ i. t (get_or xs i d)) (length xs)
  all_found true passes = all_below_lem _ _ (λ k b. passes k d (omega arith) b)
  all_found false (k, low, fails) = not_all_below _ _ k low (fails d)
