-- Different numbers, counted.
use Prim.Native.Nat.{ℕ, zero, suc, ◌≤◌, ◌<◌}
use mathlib.Core.Path.{◌≡◌, sym, ◌∙◌}
use native.Mathlib.Omega.{arith}
use borrow.Author.Tests.{eqb-true, eqb-false}
use lib.Dec.{eqb}
use Rattle.laws.specs.Choice.{pick, by_test}
use Rattle.rules.specs.KeysLaws.{by_order}

-- Different numbers below n, one for each of m, are at least m many.
module _ (m n : ℕ) (f : ℕ → ℕ) (low : (i : ℕ) → i < suc m → f i < suc n)
    (apart : (i j : ℕ) → i < suc m → j < suc m → f i ≡ f j → i ≡ j) where
  -- the last of them takes the place of n
  abbrev less : ℕ → ℕ
  less i = pick (eqb (f i) n) (f m) (f i)

  less_is : (P : ℕ → Type 0) (i : ℕ) → (f i ≡ n → P (f m)) → ((f i ≡ n → ⊥) → P (f i)) → P (less i)
  less_is P i g h = by_test (eqb (f i) n) (λ e. rw e (g (eqb-true (f i) n e))) (λ e. rw e (h (eqb-false (f i) n e)))

  last_apart : (i : ℕ) → i < m → f i ≡ f m → ⊥
  last_apart i h e = omega (arith, apart i m (omega arith) (omega arith) e)

  less_low : (i : ℕ) → i < m → less i < n
  less_low i h =
      less_is (λ k. k < n) i
      (λ e. not_last (f m) n (low m (omega arith)) (λ z. last_apart i h (e ∙ sym z)))
      (λ e. not_last (f i) n (low i (omega arith)) e)
    where
      not_last : (a b : ℕ) → a < suc b → (a ≡ b → ⊥) → a < b
      not_last a b h n = by_order a b (λ z. z) (λ z. absurd (n (omega arith)))

  less_apart : (i j : ℕ) → i < m → j < m → less i ≡ less j → i ≡ j
  less_apart i j h k =
      less_is (λ a. a ≡ less j → i ≡ j) i
      (λ e. less_is (λ b. f m ≡ b → i ≡ j) j
      (λ g z. apart i j (omega arith) (omega arith) (e ∙ sym g))
      (λ g z. absurd (last_apart j k (sym z))))
      (λ e. less_is (λ b. f i ≡ b → i ≡ j) j
      (λ g z. absurd (last_apart i h z))
      (λ g z. apart i j (omega arith) (omega arith) z))

pub at_most : (m n : ℕ) (f : ℕ → ℕ) → ((i : ℕ) → i < m → f i < n) → ((i j : ℕ) → i < m → j < m → f i ≡ f j → i ≡ j) → m ≤ n
at_most zero n f low apart = omega arith
at_most (suc m) zero f low apart = absurd (omega (arith, low 0 (omega arith)))
at_most (suc m) (suc n) f low apart =
    omega (arith, at_most m n (less m n f low apart) (less_low m n f low apart) (less_apart m n f low apart))
