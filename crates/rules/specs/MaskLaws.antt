-- Digits of masks, and what the count of replies says: whose replies are here, not only how many.
use Prim.Native.Nat.{ℕ, zero, suc, ◌+◌, ◌-◌, ◌/◌, ◌^◌, ◌≤◌, ◌<◌}
use Rattle.std.specs.Prelude.{◌≡◌, true, false, eqb, ltb}
use Rattle.std.proofs.Math.Path.{refl, ap}
use Rattle.std.proofs.Common.{sym, ◌∙◌, pow_pos, pow_mono}
use Rattle.std.proofs.Math.Nat.{div-eq_of_lt}
use native.Mathlib.Omega.{arith}
use borrow.Author.Tests.{eqb-true, eqb-false, eq-eqb, ne_eqb, ltb-true, ltb-false}
use Rattle.std.specs.Int.Bits.{bit_and, bit_or, and_lt}
use Rattle.std.proofs.lemmas.Nat.{or_lt}
use Rattle.std.proofs.Math.Pow.{pow-lt}
use Rattle.laws.specs.Choice.{pick, by_test}
use Rattle.laws.specs.Scan.{split_last}
use Rattle.laws.specs.Digits.{digit, digit_le, digit_and, digit_or, ones_below, digit_half}
use Rattle.kinds.specs.Sizes as sizes
use Rattle.rules.specs.House.{in_mask, mask_of, participants, replies_wanted, participants_sites}
use Rattle.rules.specs.Live.{all_heard}

-- a number has no digit where its power is larger
pub high_digit : (mask s : ℕ) → mask < 2 ^ s → digit mask s ≡ 0
high_digit mask s h = rw (div-eq_of_lt h)

-- One site's mask.
power_half : (a : ℕ) → 2 ^ suc a / 2 ≡ 2 ^ a
power_half a = omega arith

pub one_digit : (a s : ℕ) → digit (2 ^ a) s ≡ 1 → s ≡ a
one_digit zero zero e = refl
one_digit zero (suc s) e = let z : digit 1 (suc s) ≡ 0 = digit_half 1 s ∙ high_digit 0 s (pow_pos s) in absurd (omega arith)
one_digit (suc a) zero e = absurd (omega arith)
one_digit (suc a) (suc s) e = ap suc (one_digit a s (rw power_half at (sym (digit_half (2 ^ suc a) s) ∙ e)))

pub digit_one : (a : ℕ) → digit (2 ^ a) a ≡ 1
digit_one zero = refl
digit_one (suc a) = digit_half (2 ^ suc a) a ∙ rw (power_half a) (digit_one a)

-- its digits, and how many of the first k are ones
one_at : ℕ → ℕ → ℕ
one_at i k = pick (eqb k i) 1 0

ones_to : ℕ → ℕ → ℕ
ones_to i zero = 0
ones_to i (suc k) = ones_to i k + one_at i k

none_to : (i k : ℕ) → k ≤ i → ones_to i k ≡ 0
unfolding ones_to one_at
none_to i zero h = refl
none_to i (suc k) h = rw (ne_eqb k i (λ q. omega arith), none_to i k (omega arith))

one_to : (i k : ℕ) → i < k → ones_to i k ≡ 1
unfolding ones_to one_at
one_to i zero h = absurd (omega arith)
one_to i (suc k) h =
    by_test (eqb k i)
    (λ t. let q = eqb-true k i t in rw (t, none_to i k (omega arith)))
    (λ f. let n = eqb-false k i f in rw (f, one_to i k (omega arith)))

zero_digit : (mask s : ℕ) → (digit mask s ≡ 1 → ⊥) → digit mask s ≡ 0
zero_digit mask s n = low (digit mask s) (digit_le mask s) n
  where
    low : (d : ℕ) → d ≤ 1 → (d ≡ 1 → ⊥) → d ≡ 0
    low zero h n = refl
    low (suc zero) h n = absurd (n refl)
    low (suc (suc d)) h n = absurd (omega arith)

site_digit : (a k : ℕ) → digit (2 ^ a) k ≡ one_at a k
unfolding one_at
site_digit a k =
    by_test (eqb k a)
    (λ t. rw (t, eqb-true k a t) (digit_one a))
    (λ f. rw f (zero_digit (2 ^ a) k (λ z. eqb-false k a f (one_digit a k z))))

-- a site in a mask of the eight is one of them
in_low : (mask r : ℕ) → mask < 2 ^ sizes.sites → in_mask mask r ≡ true → r - 1 < sizes.sites
unfolding in_mask
in_low mask r h e =
    by_test (ltb (r - 1) sizes.sites)
    (λ t. ltb-true _ _ t)
    (λ f. let l = ltb-false (r - 1) sizes.sites f in
    let p : 2 ^ sizes.sites ≤ 2 ^ (r - 1) = pow_mono {i = sizes.sites} {j = r - 1} (omega arith) in
    absurd (omega (arith, eqb-true (digit mask (r - 1)) 1 e, high_digit mask (r - 1) (omega arith))))

-- no other site of the mask is outstanding
abbrev pub NoneOutstanding : ℕ → ℕ → ℕ → Type 0
NoneOutstanding own heard mask = (r : ℕ) → 1 ≤ r → in_mask mask r ≡ true → (r ≡ own → ⊥) → in_mask heard r ≡ true

-- Digit by digit: a reply of a participant, and the own site, against the participants with the own site.
module _ (own heard mask : ℕ) (silent : digit heard (own - 1) ≡ 0) where
  here : ℕ → ℕ
  here k = digit (bit_and heard mask) k + one_at (own - 1) k

  wanted : ℕ → ℕ
  wanted k = digit (bit_or mask (2 ^ (own - 1))) k

  -- digit k is missing in `here` exactly where another site of the mask is not heard
  digit_here : (k : ℕ) → here k ≤ wanted k
  unfolding here wanted one_at
  digit_here k =
      let a = digit_and heard mask k in
      let b = digit_or mask (2 ^ (own - 1)) k in
      let c = site_digit (own - 1) k in
      by_test (eqb k (own - 1))
      (λ t. let q = eqb-true k (own - 1) t in
      let z : digit heard k ≡ 0 = ap (digit heard) q ∙ silent in
      let w : digit (2 ^ (own - 1)) k ≡ 1 = c ∙ rw t refl in
      rw t (omega arith))
      (λ f. rw f (omega arith))

  -- where the digits are equal, another site of the mask is heard, and the other way round
  equal_heard : (k : ℕ) → here k ≡ wanted k → digit mask k ≡ 1 → (k ≡ own - 1 → ⊥) → digit heard k ≡ 1
  unfolding here wanted one_at
  equal_heard k e m n =
      let a = digit_and heard mask k in
      let b = digit_or mask (2 ^ (own - 1)) k in
      let c : digit (2 ^ (own - 1)) k ≡ 0 = site_digit (own - 1) k ∙ rw (ne_eqb k (own - 1) n) refl in
      let e' : digit (bit_and heard mask) k + 0 ≡ digit (bit_or mask (2 ^ (own - 1))) k = rw (ne_eqb k (own - 1) n) at e in
      omega (arith, digit_le heard k)

  heard_equal : (k : ℕ) → (digit mask k ≡ 1 → (k ≡ own - 1 → ⊥) → digit heard k ≡ 1) → here k ≡ wanted k
  unfolding here wanted one_at
  heard_equal k f =
      let a = digit_and heard mask k in
      let b = digit_or mask (2 ^ (own - 1)) k in
      let c = site_digit (own - 1) k in
      by_test (eqb k (own - 1))
      (λ t. let z : digit heard k ≡ 0 = ap (digit heard) (eqb-true k (own - 1) t) ∙ silent in
      let w : digit (2 ^ (own - 1)) k ≡ 1 = c ∙ rw t refl in
      rw t (omega (arith, digit_le mask k)))
      (λ n. let w : digit (2 ^ (own - 1)) k ≡ 0 = c ∙ rw n refl in
      by_test (eqb (digit mask k) 1)
      (λ m. let h = f (eqb-true _ _ m) (eqb-false k (own - 1) n) in let q = eqb-true (digit mask k) 1 m in rw n (omega arith))
      (λ m. let q = zero_digit mask k (eqb-false _ _ m) in rw n (omega arith)))

  -- and summed up
  sum_here : (k : ℕ) → ones_below (bit_and heard mask) k + ones_to (own - 1) k ≤ ones_below (bit_or mask (2 ^ (own - 1))) k
  unfolding ones_below ones_to here wanted
  sum_here zero = omega arith
  sum_here (suc k) = omega (arith, sum_here k, digit_here k)

  sum_equal : (k : ℕ) → ((s : ℕ) → s < k → here s ≡ wanted s)
      → ones_below (bit_and heard mask) k + ones_to (own - 1) k ≡ ones_below (bit_or mask (2 ^ (own - 1))) k
  unfolding ones_below ones_to here wanted
  sum_equal zero f = refl
  sum_equal (suc k) f = omega (arith, sum_equal k (λ s l. f s (omega arith)), f k (omega arith))

  equal_sum : (k : ℕ) → ones_below (bit_and heard mask) k + ones_to (own - 1) k ≡ ones_below (bit_or mask (2 ^ (own - 1))) k
      → (s : ℕ) → s < k → here s ≡ wanted s
  unfolding ones_below ones_to here wanted
  equal_sum zero e s l = absurd (omega arith)
  equal_sum (suc k) e s l =
      let a = sum_here k in
      let b = digit_here k in
      split_last l
      (λ (z : s ≡ k). rw z (omega arith))
      (λ (z : s < k). equal_sum k (omega arith) s z)

-- Replies here are as many as are wanted exactly where no other site of the mask is outstanding.
module _ (own heard mask : ℕ) (first : 1 ≤ own) (last : own ≤ sizes.sites) (hs : heard < 2 ^ sizes.sites) (ms : mask < 2 ^ sizes.sites)
    (silent : in_mask heard own ≡ false) where
  own_silent : digit heard (own - 1) ≡ 0
  unfolding in_mask
  own_silent = zero_digit heard (own - 1) (eqb-false _ _ silent)

  counts : (participants (bit_and heard mask) ≡ ones_below (bit_and heard mask) sizes.sites)
      × (participants (bit_or mask (2 ^ (own - 1))) ≡ ones_below (bit_or mask (2 ^ (own - 1))) sizes.sites)
  counts =
      let l : 2 ^ (own - 1) < 2 ^ sizes.sites = pow-lt {i = own - 1} {j = sizes.sites} (omega arith) in
      (participants_sites _ (and_lt sizes.sites heard mask hs ms), participants_sites _ (or_lt sizes.sites mask (2 ^ (own - 1)) ms l))

  pub heard_none : all_heard own heard mask ≡ true → NoneOutstanding own heard mask
  unfolding all_heard replies_wanted mask_of in_mask
  heard_none e r f i n =
      let (a, b) = counts in
      let s = sum_here own heard mask own_silent sizes.sites in
      let o = one_to (own - 1) sizes.sites (omega arith) in
      let q = eqb-true (participants (bit_and heard mask)) (participants (bit_or mask (2 ^ (own - 1))) - 1) e in
      let low : r - 1 < sizes.sites = in_low mask r ms i in
      let d = equal_sum own heard mask own_silent sizes.sites (omega arith) (r - 1) low in
      eq-eqb _ 1 (equal_heard own heard mask own_silent (r - 1) d (eqb-true _ _ i) (λ z. n (omega arith)))

  pub none_heard : NoneOutstanding own heard mask → all_heard own heard mask ≡ true
  unfolding all_heard replies_wanted mask_of in_mask
  none_heard f =
      let (a, b) = counts in
      let o = one_to (own - 1) sizes.sites (omega arith) in
      let each : (s : ℕ) → s < sizes.sites → here own heard mask own_silent s ≡ wanted own heard mask own_silent s = λ s l.
      heard_equal own heard mask own_silent s
      (λ m n. let z : suc s - 1 ≡ s = omega arith in
      rw z at (eqb-true (digit heard (suc s - 1)) 1 (f (suc s) (omega arith) (rw z (eq-eqb (digit mask s) 1 m)) (λ y. n (omega arith))))) in
      let s = sum_equal own heard mask own_silent sizes.sites each in
      eq-eqb (participants (bit_and heard mask)) (participants (bit_or mask (2 ^ (own - 1))) - 1) (omega arith)
