-- Masks of participants: who is in one, who is in a joined one, and that a full round has heard every other participant.
use Prim.Native.Nat.{ℕ, ◌-◌, ◌%◌, ◌^◌, ◌≤◌, ◌<◌, max}
use mathlib.Core.Path.{◌≡◌, refl, sym, ap, ◌∙◌}
use mathlib.Core.Bool.{true, false, not}
use mathlib.Core.Logic.{◌⊎◌, inl, inr}
use mathlib.Core.List.{[], ◌∷◌}
use native.Mathlib.Nat.{zero-div}
use native.Mathlib.Omega.{arith}
use borrow.Author.Tests.{eqb-true, eqb-false, leb-true, leb-false, not-true}
use lib.Bits.{bit_or, or_lt}
use lib.Dec.{eqb, leb}
use lib.Pow.{pow-lt, pow_mono}
use Rattle.laws.specs.Choice.{by_test, every_at}
use Rattle.laws.specs.Digits.{digit, digit_le, digit_or}
use Rattle.kinds.specs.Sizes as sizes
use Rattle.kinds.specs.declared.Course.{Course}
use Rattle.rules.proofs.EntryLaws.{in_digit, digit_in}
use Rattle.rules.specs.House.{in_mask, mask_of}
use Rattle.rules.specs.Live.{all_heard}
use Rattle.rules.specs.MaskLaws.{high_digit, one_digit, digit_one, heard_none}
use Rattle.rules.specs.Course.{is_outstanding}
use Rattle.rules.proofs.Protocol.Invariants.{In}

-- nobody
pub none_in : (r : ℕ) → in_mask 0 r ≡ true → ⊥
none_in r e = omega (arith, in_digit 0 r e, ap (λ (x : ℕ). x % 2) (zero-div (2 ^ (r - 1))))

-- Two masks joined.
pub in_or_left : (m n r : ℕ) → in_mask m r ≡ true → in_mask (bit_or m n) r ≡ true
in_or_left m n r e = digit_in (bit_or m n) r (omega (arith, digit_or m n (r - 1), in_digit m r e, digit_le n (r - 1)))

pub in_or_right : (m n r : ℕ) → in_mask n r ≡ true → in_mask (bit_or m n) r ≡ true
in_or_right m n r e = digit_in (bit_or m n) r (omega (arith, digit_or m n (r - 1), in_digit n r e, digit_le m (r - 1)))

pub in_or : (m n r : ℕ) → in_mask (bit_or m n) r ≡ true → (in_mask m r ≡ true) ⊎ (in_mask n r ≡ true)
in_or m n r e =
    by_test (eqb (digit m (r - 1)) 1)
    (λ t. inl (digit_in m r (omega (arith, eqb-true (digit m (r - 1)) 1 t))))
    (λ f. inr (digit_in n r
    (right (digit m (r - 1)) (digit n (r - 1)) (digit_le m (r - 1)) (eqb-false (digit m (r - 1)) 1 f)
    (sym (digit_or m n (r - 1)) ∙ in_digit (bit_or m n) r e))))
  where
    right : (a b : ℕ) → a ≤ 1 → (a ≡ 1 → ⊥) → max a b ≡ 1 → 1 ≤ b
    right a b l f q = omega arith

-- One site's mask.
pub own_mask : (a : ℕ) → in_mask (mask_of a) a ≡ true
unfolding mask_of
own_mask a = digit_in (2 ^ (a - 1)) a (omega (arith, digit_one (a - 1)))

pub only_own : (a r : ℕ) → 1 ≤ a → 1 ≤ r → in_mask (mask_of a) r ≡ true → r ≡ a
unfolding mask_of
only_own a r x y e = omega (arith, one_digit (a - 1) (r - 1) (in_digit (2 ^ (a - 1)) r e))

-- a site more
pub in_more : (m a r : ℕ) → 1 ≤ a → 1 ≤ r → in_mask (bit_or m (mask_of a)) r ≡ true → (in_mask m r ≡ true) ⊎ (r ≡ a)
in_more m a r x y e = go (in_or m (mask_of a) r e)
  where
    go : (in_mask m r ≡ true) ⊎ (in_mask (mask_of a) r ≡ true) → (in_mask m r ≡ true) ⊎ (r ≡ a)
    go (inl h) = inl h
    go (inr h) = inr (only_own a r x y h)

-- Masks of the eight sites.
pub mask_small : (a : ℕ) → a ≤ sizes.sites → mask_of a < 2 ^ sizes.sites
unfolding mask_of
mask_small a h = pow-lt {i = a - 1} {j = sizes.sites} (omega arith)

pub or_small : (m a : ℕ) → m < 2 ^ sizes.sites → a ≤ sizes.sites → bit_or m (mask_of a) < 2 ^ sizes.sites
or_small m a h l = or_lt sizes.sites m (mask_of a) h (mask_small a l)

pub in_small : (m r : ℕ) → m < 2 ^ sizes.sites → in_mask m r ≡ true → r ≤ sizes.sites
in_small m r h e =
    by_test (leb r sizes.sites)
    (λ t. leb-true r sizes.sites t)
    (λ f. let l = leb-false r sizes.sites f in
    let p : 2 ^ sizes.sites ≤ 2 ^ (r - 1) = pow_mono {i = sizes.sites} {j = r - 1} (omega arith) in
    absurd (omega (arith, in_digit m r e, high_digit m (r - 1) (omega arith))))

-- What an outstanding reply says.
pub outstanding_in : (c : Course) (a : ℕ) → is_outstanding c a ≡ true → in_mask c.mask a ≡ true
unfolding is_outstanding
outstanding_in c a e = every_at (in_mask c.mask a ∷ not (in_mask c.heard a) ∷ []) 0 e

pub outstanding_unheard : (c : Course) (a : ℕ) → is_outstanding c a ≡ true → in_mask c.heard a ≡ false
unfolding is_outstanding
outstanding_unheard c a e = not-true _ (every_at (in_mask c.mask a ∷ not (in_mask c.heard a) ∷ []) 1 e)

-- every other participant is heard once as many have replied as are wanted
pub all_heard_lem : (heard mask c : ℕ) → heard < 2 ^ sizes.sites → mask < 2 ^ sizes.sites
    → ((r : ℕ) → In heard r → (in_mask mask r ≡ true) × (r ≡ c → ⊥)) → In mask c → all_heard c heard mask ≡ true
    → (r : ℕ) → In mask r → (r ≡ c → ⊥) → in_mask heard r ≡ true
all_heard_lem heard mask c hs ms within own all r i n =
    heard_none c heard mask own.0 (in_small mask c ms own.1) hs ms
    (by_test (in_mask heard c) (λ t. absurd ((within c (own.0, t)).1 refl)) (λ f. f)) all r i.0 i.1 n
