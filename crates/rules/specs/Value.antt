-- Q12.1, Q12.5 and Q12.7: a value in words, start and then length, and whether it fits.
use Rattle.std.specs.Prelude.{ℕ, ◌+◌, ◌*◌, ◌≤◌, Bool, List, [], ◌∷◌, leb, get_or, set}
use Rattle.laws.specs.Scan.{all_below}
use Rattle.kinds.specs.Sizes as sizes
use Rattle.kinds.specs.Word as word
use Rattle.kinds.specs.State.{fresh}
use Rattle.kinds.specs.declared.Value.{Value}

unfoldable pub value_words : Value → List ℕ
value_words v = v.start ∷ v.length ∷ []

-- the value from word `at` on
unfoldable pub value_at : List ℕ → ℕ → Value
value_at ws at = record { start = get_or ws (at + word.value_start) 0; length = get_or ws (at + word.value_length) 0 }

-- the words with v from word `at` on
unfoldable pub put_value : List ℕ → ℕ → Value → List ℕ
put_value ws at v = set (set ws (at + word.value_start) v.start) (at + word.value_length) v.length

-- the base value of key k
abbrev pub base_value : List ℕ → ℕ → Value
base_value base k = value_at base (sizes.value * k)

-- start plus length is at most 2^64 − 1, as a claim says it and as a call tests it
abbrev pub Fits : Value → Type 0
Fits v = v.start + v.length ≤ sizes.last

unfoldable pub fits : Value → Bool
fits v = leb (v.start + v.length) sizes.last

-- each of the first n values does
unfoldable pub values_fit : List Value → ℕ → Bool
values_fit values n = all_below (λ i. fits (get_or values i fresh)) n
