-- A number's digits are those that `decimal` counts, 20 at most; results behind results are results.
use Prim.Native.Nat.{ℕ, zero, suc, ◌-◌, ◌/◌, ◌%◌, ◌^◌, ◌≤◌, ◌<◌}
use mathlib.Core.Path.{◌≡◌, refl, ap, ◌∙◌}
use mathlib.Core.Bool.{Bool}
use mathlib.Core.List.{List, [], ◌∷◌, ◌++◌, append_assoc, append-nil}
use native.Mathlib.Nat.{pow-le-pow_right}
use native.Mathlib.Omega.{arith}
use native.Mathlib.Numerals.{add-one}
use borrow.Author.Tests.{lt-ltb, le-ltb, ltb-true, ltb-false}
use lib.Dec.{ltb, lit<}
use lib.ListN.{length, length-append}
use Rattle.pages.specs.Digits.{last_digits, hex_digit_ascii, IsDigitCount}
use Rattle.laws.specs.Choice.{by_same, by_test}
use Rattle.laws.specs.Scan.{first_below_lem, first_below_none, first_le, NoneBelow}
use Rattle.pages.specs.Line.{bytes_of, places_of, decimal_of, results_of}

length_digits : (b k n : ℕ) → length (last_digits b k n) ≡ k
length_digits b zero n = refl
length_digits b (suc k) n =
    let front = last_digits b k (n / b) in
    length-append front (hex_digit_ascii (n % b) ∷ []) ∙ (add-one (length front) ∙ ap suc (length_digits b k (n / b)))

pub decimal_short : (n : ℕ) → length (decimal_of n) ≤ 20
unfolding decimal_of places_of
decimal_short n = omega (arith, length_digits 10 (places_of n) n, first_le (λ k. ltb n (10 ^ k)) 20)

-- the first power of 10 above n
abbrev above : ℕ → ℕ → Bool
above n k = ltb n (10 ^ k)

-- with k digits, and no fewer: each lower power is at most n
none_above : (n k : ℕ) → 10 ^ (k - 1) ≤ n → NoneBelow (above n) k
none_above n k g j h =
    let p : 10 ^ j ≤ 10 ^ (k - 1) = pow-le-pow_right (lit< {m = 0} {n = 10} tt) {i = j} {j = k - 1} (omega arith) in
    le-ltb n (10 ^ j) (omega arith)

few_places : (n k : ℕ) → n < 2 ^ 64 → 10 ^ (k - 1) ≤ n → 20 < k → ⊥
few_places n k f g h =
    let p : 10 ^ 20 ≤ 10 ^ (k - 1) = pow-le-pow_right (lit< {m = 0} {n = 10} tt) {i = 20} {j = k - 1} (omega arith) in
    omega arith

more_places : (n k : ℕ) → n < 2 ^ 64 → 1 < k → n < 10 ^ k → 10 ^ (k - 1) ≤ n → k ≡ places_of n
unfolding places_of
more_places n k f h l g =
    by_test (ltb k 20)
    (λ e. omega (arith, first_below_lem (above n) 20 k (ltb-true k 20 e) (none_above n k g) (lt-ltb n (10 ^ k) l)))
    (λ e. by_same k 20
    (λ q. let w : NoneBelow (above n) 20 = rw q at (none_above n k g) in omega (arith, first_below_none (above n) 20 w))
    (λ q. absurd (few_places n k f g (omega (arith, ltb-false k 20 e)))))

one_place : (n : ℕ) → n < 10 → 1 ≡ places_of n
unfolding places_of
one_place n h =
    by_test (ltb n 1)
    (λ e. omega (arith, first_below_lem (above n) 20 0 (omega arith) (λ k b. absurd (omega arith)) e))
    (λ e. omega (arith, first_below_lem (above n) 20 1 (omega arith) (none_above n 1 (ltb-false n 1 e)) (lt-ltb n (10 ^ 1) h)))

pub decimal_is : (n k : ℕ) → n < 2 ^ 64 → IsDigitCount 10 1 n k → last_digits 10 k n ≡ decimal_of n
unfolding decimal_of
decimal_is n k f w =
    let e : k ≡ places_of n =
    by_same k 1
    (λ q. q ∙ one_place n (rw q at w.1))
    (λ q. more_places n k f (omega arith) w.1 (w.2 (omega arith))) in
    ap (λ (j : ℕ). last_digits 10 j n) e

-- Results.
pub results_one : (n : ℕ) → bytes_of " " ++ decimal_of n ≡ results_of (n ∷ [])
unfolding results_of
results_one n = rw append-nil

pub results_behind : (l m : List ℕ) → results_of l ++ results_of m ≡ results_of (l ++ m)
unfolding results_of
results_behind [] m = refl
results_behind (n ∷ l) m = simp append_assoc (rw (results_behind l m))
