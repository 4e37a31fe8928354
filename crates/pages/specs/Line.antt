-- H1, H5 to H20 and Q12.8: what is printed for an event: its number, `ok`, `ok abort` or `refused`, then the results, each behind a space.
use Rattle.std.specs.Prelude.{ℕ, ◌^◌, max, List, [], ◌∷◌, ◌++◌, ltb}
use Prim.Native.Char.{code}
use Prim.Native.String.{String, [] as end, ◌∷◌ as ◌then◌}
use Rattle.pages.specs.Digits.{last_digits}
use Rattle.laws.specs.Scan.{first_below}
use Rattle.said.specs.Said.{Said, ok, abort, no}

-- a text of ASCII letters as bytes
abbrev pub bytes_of : String → List ℕ
bytes_of end = []
bytes_of (c then s) = code c ∷ bytes_of s

-- how many decimal digits a number of 64 bits takes: 20 at most, and one for 0
unfoldable pub places_of : ℕ → ℕ
places_of n = max 1 (first_below (λ k. ltb n (10 ^ k)) 20)

unfoldable pub decimal_of : ℕ → List ℕ
decimal_of n = last_digits 10 (places_of n) n

-- each behind a space
unfoldable pub results_of : List ℕ → List ℕ
results_of [] = []
results_of (n ∷ l) = bytes_of " " ++ (decimal_of n ++ results_of l)

unfoldable pub outcome_of : Said → List ℕ
outcome_of (ok l) = bytes_of " ok" ++ results_of l
outcome_of (abort r) = bytes_of " ok abort" ++ results_of (r ∷ [])
outcome_of (no n) = bytes_of " refused" ++ results_of (n ∷ [])

unfoldable pub line_of : ℕ → Said → List ℕ
line_of event said = decimal_of event ++ (outcome_of said ++ bytes_of "\n")

-- a probe's line: four numbers more behind the outcome
unfoldable pub line_with : ℕ → Said → ℕ → ℕ → ℕ → ℕ → List ℕ
line_with event said a b c d = decimal_of event ++ (outcome_of said ++ ((bytes_of " ;" ++ results_of (a ∷ b ∷ c ∷ d ∷ [])) ++ bytes_of "\n"))
