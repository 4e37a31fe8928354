-- Q12.1 and Q12.5: what is put is read again, whole; what stands elsewhere stays; values in words behind words; values that fit.
use Rattle.std.specs.Prelude.{ℕ, ◌+◌, ◌*◌, ◌≤◌, ◌<◌, ◌≡◌, refl, true, List, [], ◌∷◌, ◌++◌, ◌⊎◌, ltb, get_or, replicate}
use Rattle.std.proofs.Common.{◌∙◌, append_assoc, inl, inr, ltb-true, ltb-false, leb-true, le-leb, length-append, get_or-append-add}
use native.Mathlib.Omega.{arith}
use Rattle.std.proofs.Math.ListN.{length, set, length-set, get_or-append}
use Rattle.std.proofs.lemmas.List.{get_or-replicate}
use Rattle.std.proofs.Math.Seq.{get_or-set_same, get_or-set_other}
use Rattle.laws.specs.Choice.{by_test}
use Rattle.laws.specs.Overlay.{overlay, overlay_more}
use Rattle.laws.specs.Scan.{all_below_at}
use Rattle.kinds.specs.Sizes as sizes
use Rattle.kinds.specs.Word as word
use Rattle.kinds.specs.State.{fresh}
use Rattle.kinds.specs.declared.Value.{Value}
use Rattle.rules.specs.Value.{value_words, value_at, put_value, base_value, Fits, fits, values_fit}

pub words_size : (v : Value) → length (value_words v) ≡ sizes.value
unfolding value_words
words_size v = refl

-- two values with the same words
same_words_lem : {a b c d : ℕ} → a ≡ c → b ≡ d → ◌≡◌ {A = Value} (record { start = a; length = b }) (record { start = c; length = d })
same_words_lem p q = rw (p, q)

-- Put.
module _ (ws : List ℕ) (at : ℕ) (v : Value) where
  pub put_length : length (put_value ws at v) ≡ length ws
  unfolding put_value
  put_length =
      length-set (set ws (at + word.value_start) v.start) (at + word.value_length) v.length
      ∙ length-set ws (at + word.value_start) v.start

  -- a word that is none of the value's
  put_word : (i : ℕ) → (i ≡ at + word.value_start → ⊥) → (i ≡ at + word.value_length → ⊥) → get_or (put_value ws at v) i 0 ≡ get_or ws i 0
  unfolding put_value
  put_word i f g =
      get_or-set_other (set ws (at + word.value_start) v.start) (at + word.value_length) i v.length 0 g
      ∙ get_or-set_other ws (at + word.value_start) i v.start 0 f

  pub put_same : at + sizes.value ≤ length ws → value_at (put_value ws at v) at ≡ v
  unfolding put_value value_at
  put_same h =
      let one = set ws (at + word.value_start) v.start in
      let l = length-set ws (at + word.value_start) v.start in
      same_words_lem
      (get_or-set_other one (at + word.value_length) (at + word.value_start) v.length 0 (λ e. omega arith)
      ∙ get_or-set_same ws (at + word.value_start) v.start 0 (omega arith))
      (get_or-set_same one (at + word.value_length) v.length 0 (omega arith))

  -- the words before it
  pub put_before : (i : ℕ) → i < at → get_or (put_value ws at v) i 0 ≡ get_or ws i 0
  put_before i h = put_word i (λ e. omega arith) (λ e. omega arith)

  -- a value elsewhere
  pub put_apart : (i : ℕ) → (at + sizes.value ≤ i) ⊎ (i + sizes.value ≤ at) → value_at (put_value ws at v) i ≡ value_at ws i
  unfolding value_at
  put_apart i (inl h) =
      same_words_lem (put_word (i + word.value_start) (λ e. omega arith) (λ e. omega arith))
      (put_word (i + word.value_length) (λ e. omega arith) (λ e. omega arith))
  put_apart i (inr h) =
      same_words_lem (put_word (i + word.value_start) (λ e. omega arith) (λ e. omega arith))
      (put_word (i + word.value_length) (λ e. omega arith) (λ e. omega arith))

-- the values of two keys stand apart, in a table of values from word o on
keys_apart : {P : Type 0} (o k j : ℕ) → (k ≡ j → ⊥)
    → (o + sizes.value * k + sizes.value ≤ o + sizes.value * j → P) → (o + sizes.value * j + sizes.value ≤ o + sizes.value * k → P) → P
keys_apart o k j f g h =
    by_test (ltb k j)
    (λ t. g (omega (arith, ltb-true k j t)))
    (λ t. by_test (ltb j k)
    (λ u. h (omega (arith, ltb-true j k u)))
    (λ u. absurd (f (omega (arith, ltb-false k j t, ltb-false j k u)))))

-- so putting the one leaves the other
pub put_other : (ws : List ℕ) (o k j : ℕ) (v : Value) → (k ≡ j → ⊥)
    → value_at (put_value ws (o + sizes.value * k) v) (o + sizes.value * j) ≡ value_at ws (o + sizes.value * j)
put_other ws o k j v f =
    keys_apart o k j f
    (λ h. put_apart ws (o + sizes.value * k) v (o + sizes.value * j) (inl h))
    (λ h. put_apart ws (o + sizes.value * k) v (o + sizes.value * j) (inr h))

pub base_other : (base : List ℕ) (k j : ℕ) (v : Value) → (k ≡ j → ⊥) → base_value (put_value base (sizes.value * k) v) j ≡ base_value base j
base_other base k j v f =
    keys_apart 0 k j f
    (λ h. put_apart base (sizes.value * k) v (sizes.value * j) (inl (omega arith)))
    (λ h. put_apart base (sizes.value * k) v (sizes.value * j) (inr (omega arith)))

-- the value after a word before it is set
pub set_before : (ws : List ℕ) (i n at : ℕ) → i < at → value_at (set ws i n) at ≡ value_at ws at
unfolding value_at
set_before ws i n at h =
    same_words_lem (get_or-set_other ws i (at + word.value_start) n 0 (λ e. omega arith))
    (get_or-set_other ws i (at + word.value_length) n 0 (λ e. omega arith))

-- Values in words behind words.
module _ (ws p : List ℕ) (at : ℕ) where
  pub value_left : at + sizes.value ≤ length ws → value_at (ws ++ p) at ≡ value_at ws at
  unfolding value_at
  value_left h =
      same_words_lem (get_or-append ws p 0 (at + word.value_start) (omega arith))
      (get_or-append ws p 0 (at + word.value_length) (omega arith))

  pub value_right : value_at (ws ++ p) (length ws + at) ≡ value_at p at
  unfolding value_at
  value_right =
      let s : length ws + at + word.value_start ≡ length ws + (at + word.value_start) = omega arith in
      let l : length ws + at + word.value_length ≡ length ws + (at + word.value_length) = omega arith in
      rw (s, l) (same_words_lem (get_or-append-add ws p (at + word.value_start) 0) (get_or-append-add ws p (at + word.value_length) 0))

-- what the words of a value say
pub value_back : (v : Value) → value_at (value_words v) 0 ≡ v
unfolding value_at value_words
value_back v = refl

-- in words that are all 0
pub value_zeros : (n at : ℕ) → at + sizes.value ≤ n → value_at (replicate n 0) at ≡ fresh
unfolding value_at
value_zeros n at h =
    same_words_lem (get_or-replicate {A = ℕ} n (at + word.value_start) 0 0 (omega arith))
    (get_or-replicate {A = ℕ} n (at + word.value_length) 0 0 (omega arith))

-- a value laid behind words
pub overlay_value : (d ws : List ℕ) (n : ℕ) (v : Value) → length ws ≡ n → n + sizes.value ≤ length d
    → put_value (overlay d ws) n v ≡ overlay d (ws ++ value_words v)
unfolding put_value value_words
overlay_value d ws n v e h =
    let z : n + word.value_start ≡ n = omega arith in
    let one = ws ++ (v.start ∷ []) in
    let l : length one ≡ n + word.value_length = omega (arith, length-append ws (v.start ∷ [])) in
    rw (
      z,
      overlay_more d ws n v.start e (omega arith),
      overlay_more d one (n + word.value_length) v.length l (omega arith),
      append_assoc,
    )

-- Values that fit.
pub fits_fit : (v : Value) → fits v ≡ true → Fits v
unfolding fits
fits_fit v e = leb-true (v.start + v.length) sizes.last e

pub fit_fits : (v : Value) → Fits v → fits v ≡ true
unfolding fits
fit_fits v h = le-leb (v.start + v.length) sizes.last h

pub each_fits : (values : List Value) (n i : ℕ) → values_fit values n ≡ true → i < n → fits (get_or values i fresh) ≡ true
unfolding values_fit
each_fits values n i e h = all_below_at (λ i. fits (get_or values i fresh)) n i e h
