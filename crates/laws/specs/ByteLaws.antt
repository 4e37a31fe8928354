-- Words to bytes and back, and bytes to words and back, lose nothing; a store of a word is a store of its bytes.
use Rattle.std.specs.Prelude.{ℕ, zero, suc, ◌+◌, ◌*◌, ◌/◌, ◌%◌, ◌^◌, ◌<◌, ◌≡◌, refl, List, [], ◌∷◌, ◌++◌, length, get_or, take, drop, set, replicate}
use Rattle.std.proofs.Common.{sym, ap, ◌∙◌, arith, length-drop, drop-drop, take-suc}
use Rattle.std.proofs.Math.Seq.{take-append-add, drop-append-add}
use Rattle.laws.specs.Overlay.{put_at, front, front_rest}
use Rattle.laws.specs.Bytes.{word_bytes, byte_at, under, word_from, bytes_of, words_in, words_of, Below, Hold}

part : (x : ℕ) → under (x % 256) (x / 256) ≡ x
part x = omega arith

last : (x : ℕ) → x < 256 → x % 256 ≡ x
last x h = omega arith

-- A word to bytes and back,
pub word_back : (x : ℕ) → x < 2 ^ 64 → word_from (word_bytes x) ≡ x
unfolding word_from
word_back x h =
    rw (
      last (x / 256 / 256 / 256 / 256 / 256 / 256 / 256) (omega arith),
      part (x / 256 / 256 / 256 / 256 / 256 / 256),
      part (x / 256 / 256 / 256 / 256 / 256),
      part (x / 256 / 256 / 256 / 256),
      part (x / 256 / 256 / 256),
      part (x / 256 / 256),
      part (x / 256),
      part x,
    )

-- and bytes to a word and back.
low : (a x : ℕ) → a < 256 → under a x % 256 ≡ a
low a x h = omega arith

high : (a x : ℕ) → a < 256 → under a x / 256 ≡ x
high a x h = omega arith

eight_digits : (a b c d e f g h : ℕ) → a < 256 → b < 256 → c < 256 → d < 256 → e < 256 → f < 256 → g < 256 → h < 256
    → word_bytes (under a (under b (under c (under d (under e (under f (under g h))))))) ≡ a ∷ b ∷ c ∷ d ∷ e ∷ f ∷ g ∷ h ∷ []
eight_digits a b c d e f g h a' b' c' d' e' f' g' h' =
    rw (
      low a (under b (under c (under d (under e (under f (under g h)))))) a',
      high a (under b (under c (under d (under e (under f (under g h)))))) a',
      low b (under c (under d (under e (under f (under g h))))) b',
      high b (under c (under d (under e (under f (under g h))))) b',
      low c (under d (under e (under f (under g h)))) c',
      high c (under d (under e (under f (under g h)))) c',
      low d (under e (under f (under g h))) d',
      high d (under e (under f (under g h))) d',
      low e (under f (under g h)) e',
      high e (under f (under g h)) e',
      low f (under g h) f',
      high f (under g h) f',
      low g h g',
      high g h g',
      last h h',
    )

pub bytes_word : (b : List ℕ) → Below 256 b → word_bytes (word_from b) ≡ front 0 8 b
unfolding word_from
bytes_word b h =
    eight_digits (byte_at b 0) (byte_at b 1) (byte_at b 2) (byte_at b 3) (byte_at b 4) (byte_at b 5) (byte_at b 6) (byte_at b 7)
    (h 0) (h 1) (h 2) (h 3) (h 4) (h 5) (h 6) (h 7)

-- eight bytes are a word
pub word_low : (b : List ℕ) → Below 256 b → word_from b < 2 ^ 64
unfolding word_from
word_low b h = omega (arith, h 0, h 1, h 2, h 3, h 4, h 5, h 6, h 7)

-- Lengths.
pub length_bytes : (ws : List ℕ) → length (bytes_of ws) ≡ 8 * length ws
unfolding bytes_of
length_bytes [] = refl
length_bytes (x ∷ xs) = omega (arith, length_bytes xs)

pub length_in : (n : ℕ) (b : List ℕ) → length (words_in n b) ≡ n
unfolding words_in
length_in zero b = refl
length_in (suc n) b = ap suc (length_in n (drop 8 b))

pub length_words : (b : List ℕ) → length (words_of b) ≡ length b / 8
unfolding words_of
length_words b = length_in (length b / 8) b

-- Words to bytes and back: the same words.
word_front : (x : ℕ) (b : List ℕ) → word_from (word_bytes x ++ b) ≡ word_from (word_bytes x)
unfolding word_from
word_front x b = refl

-- word 0 is what the first eight bytes are, also where there are none
pub word_first : (ws : List ℕ) → Below (2 ^ 64) ws → word_from (bytes_of ws) ≡ get_or ws 0 0
unfolding word_from bytes_of
word_first [] h = refl
word_first (x ∷ xs) h = word_front x (bytes_of xs) ∙ word_back x (h 0)

in_back : (ws : List ℕ) → Below (2 ^ 64) ws → words_in (length ws) (bytes_of ws) ≡ ws
unfolding words_in bytes_of
in_back [] h = refl
in_back (x ∷ xs) h = rw (word_front x (bytes_of xs), word_back x (h 0), in_back xs (λ i. h (suc i)))

pub words_back : (ws : List ℕ) → Below (2 ^ 64) ws → words_of (bytes_of ws) ≡ ws
unfolding words_of
words_back ws h =
    let e : length (bytes_of ws) / 8 ≡ length ws = omega (arith, length_bytes ws) in
    rw e (in_back ws h)

-- Bytes to words and back: the same bytes, so no second string of bytes has these words.
pub below_drop : (n k : ℕ) (b : List ℕ) → Below n b → Below n (drop k b)
below_drop n zero b h = h
below_drop n (suc k) [] h = h
below_drop n (suc k) (x ∷ xs) h = below_drop n k xs (λ i. h (suc i))

in_bytes : (n : ℕ) (b : List ℕ) → Below 256 b → length b ≡ 8 * n → bytes_of (words_in n b) ≡ b
unfolding words_in bytes_of
in_bytes zero [] h e = refl
in_bytes zero (x ∷ xs) h e = absurd (omega arith)
in_bytes (suc n) b h e =
    ap (λ (l : List ℕ). l ++ bytes_of (words_in n (drop 8 b))) (bytes_word b h)
    ∙ ap (λ (l : List ℕ). front 0 8 b ++ l) (in_bytes n (drop 8 b) (below_drop 256 8 b h) (length-drop 8 b ∙ omega arith))
    ∙ sym (front_rest 8 0 b (omega arith))

pub bytes_back : (n : ℕ) (b : List ℕ) → Below 256 b → length b ≡ 8 * n → bytes_of (words_of b) ≡ b
unfolding words_of
bytes_back n b h e = let k : length b / 8 ≡ n = omega arith in rw k (in_bytes n b h e)

pub one_string : (n : ℕ) (b c : List ℕ) → Below 256 b → Below 256 c → length b ≡ 8 * n → length c ≡ 8 * n → words_of b ≡ words_of c → b ≡ c
one_string n b c h k e f q = sym (bytes_back n b h e) ∙ ap bytes_of q ∙ bytes_back n c k f

-- what bytes are read as are words
below_in : (n : ℕ) (b : List ℕ) → Below 256 b → Below (2 ^ 64) (words_in n b)
unfolding words_in
below_in zero b h i = omega arith
below_in (suc n) b h zero = word_low b h
below_in (suc n) b h (suc i) = below_in n (drop 8 b) (below_drop 256 8 b h) i

pub words_below : (b : List ℕ) → Below 256 b → Below (2 ^ 64) (words_of b)
unfolding words_of
words_below b h = below_in (length b / 8) b h

pub below_set : (n : ℕ) (ws : List ℕ) (i v : ℕ) → Below n ws → v < n → Below n (set ws i v)
below_set n [] i v h l j = h j
below_set n (x ∷ xs) zero v h l zero = l
below_set n (x ∷ xs) zero v h l (suc j) = h (suc j)
below_set n (x ∷ xs) (suc i) v h l zero = h zero
below_set n (x ∷ xs) (suc i) v h l (suc j) = below_set n xs i v (λ k. h (suc k)) l j

pub below_zeros : (n k : ℕ) → 0 < n → Below n (replicate k 0)
below_zeros n zero h i = h
below_zeros n (suc k) h zero = h
below_zeros n (suc k) h (suc i) = below_zeros n k h i

-- bytes of words are bytes
pub bytes_below : (ws : List ℕ) → Below 256 (bytes_of ws)
unfolding bytes_of
bytes_below [] i = omega arith
bytes_below (x ∷ xs) zero = omega arith
bytes_below (x ∷ xs) (suc zero) = omega arith
bytes_below (x ∷ xs) (suc (suc zero)) = omega arith
bytes_below (x ∷ xs) (suc (suc (suc zero))) = omega arith
bytes_below (x ∷ xs) (suc (suc (suc (suc zero)))) = omega arith
bytes_below (x ∷ xs) (suc (suc (suc (suc (suc zero))))) = omega arith
bytes_below (x ∷ xs) (suc (suc (suc (suc (suc (suc zero)))))) = omega arith
bytes_below (x ∷ xs) (suc (suc (suc (suc (suc (suc (suc zero))))))) = omega arith
bytes_below (x ∷ xs) (suc (suc (suc (suc (suc (suc (suc (suc i)))))))) = bytes_below xs i

-- Word i.
in_at : (n i : ℕ) (b : List ℕ) → i < n → get_or (words_in n b) i 0 ≡ word_from (drop (8 * i) b)
unfolding words_in
in_at zero i b h = absurd (omega arith)
in_at (suc n) zero b h = refl
in_at (suc n) (suc i) b h =
    let e : 8 * suc i ≡ 8 + 8 * i = omega arith in
    in_at n i (drop 8 b) (omega arith) ∙ rw (e, ← drop-drop)

pub word_at : (i : ℕ) (b : List ℕ) → i < length b / 8 → word_from (drop (8 * i) b) ≡ get_or (words_of b) i 0
unfolding words_of
word_at i b h = sym (in_at (length b / 8) i b h)

-- One word more.
pub bytes_append : (a b : List ℕ) → bytes_of (a ++ b) ≡ bytes_of a ++ bytes_of b
unfolding bytes_of
bytes_append [] b = refl
bytes_append (x ∷ xs) b = rw (bytes_append xs b)

pub bytes_more : (ws : List ℕ) (i : ℕ) → i < length ws → bytes_of (take (suc i) ws) ≡ bytes_of (take i ws) ++ word_bytes (get_or ws i 0)
unfolding bytes_of
bytes_more ws i h = rw (take-suc ws i 0 h, bytes_append (take i ws) (get_or ws i 0 ∷ []))

-- Words of 0 are bytes of 0.
zero_append : (n : ℕ) → bytes_of (replicate (suc n) 0) ≡ 0 ∷ 0 ∷ 0 ∷ 0 ∷ 0 ∷ 0 ∷ 0 ∷ 0 ∷ bytes_of (replicate n 0)
unfolding bytes_of
zero_append n = refl

pub bytes_zero : (n : ℕ) → bytes_of (replicate n 0) ≡ replicate (8 * n) 0
unfolding bytes_of
bytes_zero zero = refl
bytes_zero (suc n) =
    let e : 8 * suc n ≡ suc (suc (suc (suc (suc (suc (suc (suc (8 * n)))))))) = omega arith in
    zero_append n ∙ rw (e, bytes_zero n)

-- A store of a word is a store of its bytes, in place.
pub bytes_set : (ws : List ℕ) (i v : ℕ) → i < length ws → bytes_of (set ws i v) ≡ put_at (8 * i) (bytes_of ws) (word_bytes v)
unfolding bytes_of put_at
bytes_set [] i v h = absurd (omega arith)
bytes_set (x ∷ xs) zero v h = refl
bytes_set (x ∷ xs) (suc i) v h =
    let e : 8 * suc i ≡ 8 + 8 * i = omega arith in
    let f : 8 * suc i + 8 ≡ 8 + (8 * i + 8) = omega arith in
    ap (λ (l : List ℕ). word_bytes x ++ l) (bytes_set xs i v (omega arith))
    ∙ sym (rw (
      e,
      ← e,
      f,
      e,
      take-append-add (word_bytes x) (bytes_of xs) (8 * i),
      drop-append-add (word_bytes x) (bytes_of xs) (8 * i + 8),
    ) refl)

-- What bytes hold.
pub hold_bytes : (n : ℕ) (b : List ℕ) → Below 256 b → length b ≡ 8 * n → Hold b (words_of b)
hold_bytes n b h e = record { bytes = sym (bytes_back n b h e); words = refl }

pub hold_words : (ws : List ℕ) → Below (2 ^ 64) ws → Hold (bytes_of ws) ws
hold_words ws h = record { bytes = refl; words = words_back ws h }

pub hold_set : (n : ℕ) (b : List ℕ) (i v : ℕ) → Below 256 b → length b ≡ 8 * n → i < n → v < 2 ^ 64
    → Hold (put_at (8 * i) b (word_bytes v)) (set (words_of b) i v)
hold_set n b i v h e l k =
    let w = words_of b in
    let s = bytes_set w i v (omega (arith, length_words b)) in
    let p : put_at (8 * i) b (word_bytes v) ≡ bytes_of (set w i v) = sym (s ∙ rw (bytes_back n b h e)) in
    rw p (hold_words (set w i v) (below_set (2 ^ 64) w i v (words_below b h) k))
