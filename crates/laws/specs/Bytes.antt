-- Words as bytes: eight to a word, the least significant first; and back.
use Rattle.std.specs.Prelude.{ℕ, zero, suc, ◌+◌, ◌*◌, ◌/◌, ◌%◌, ◌<◌, ◌≡◌, List, [], ◌∷◌, ◌++◌, length, get_or, drop}

-- the eight bytes of a word
abbrev pub word_bytes : ℕ → List ℕ
word_bytes x =
    (x % 256)
    ∷ (x / 256 % 256)
    ∷ (x / 256 / 256 % 256)
    ∷ (x / 256 / 256 / 256 % 256)
    ∷ (x / 256 / 256 / 256 / 256 % 256)
    ∷ (x / 256 / 256 / 256 / 256 / 256 % 256)
    ∷ (x / 256 / 256 / 256 / 256 / 256 / 256 % 256)
    ∷ (x / 256 / 256 / 256 / 256 / 256 / 256 / 256 % 256)
    ∷ []

-- a byte, and one with the word above it
abbrev pub byte_at : List ℕ → ℕ → ℕ
byte_at b i = get_or b i 0

abbrev pub under : ℕ → ℕ → ℕ
under low high = low + 256 * high

-- the word that the first eight of some bytes are
unfoldable pub word_from : List ℕ → ℕ
word_from b =
    under (byte_at b 0)
    (under (byte_at b 1)
    (under (byte_at b 2)
    (under (byte_at b 3) (under (byte_at b 4) (under (byte_at b 5) (under (byte_at b 6) (byte_at b 7)))))))

-- the bytes of words, in order
unfoldable pub bytes_of : List ℕ → List ℕ
bytes_of [] = []
bytes_of (x ∷ xs) = word_bytes x ++ bytes_of xs

-- the first n words of some bytes, and all of them; bytes behind the last whole word are in none
unfoldable pub words_in : ℕ → List ℕ → List ℕ
words_in zero b = []
words_in (suc n) b = word_from b ∷ words_in n (drop 8 b)

unfoldable pub words_of : List ℕ → List ℕ
words_of b = words_in (length b / 8) b

-- each is below n: bytes below 256, words below 2^64
abbrev pub Below : ℕ → List ℕ → Type 0
Below n l = (i : ℕ) → get_or l i 0 < n

-- these bytes are the bytes of these words, and these words the words of these bytes
pub record Hold (b ws : List ℕ) : Type 0 where
  pub bytes : b ≡ bytes_of ws
  pub words : words_of b ≡ ws
