-- H2 and Q12.8: the ten lines that the worked script prints.
use Rattle.std.specs.Prelude.{ℕ, ◌≡◌, refl, List, [], ◌∷◌, ◌++◌}
use Rattle.laws.specs.Scan.{first_below}
use Rattle.said.specs.Said.{ok, abort, no}
use Rattle.pages.specs.Line.{bytes_of, places_of, decimal_of, results_of, outcome_of, line_of}

-- lines one behind the other
abbrev pub lines_of : List (List ℕ) → List ℕ
lines_of [] = []
lines_of (l ∷ ls) = l ++ lines_of ls

abbrev pub printed : List ℕ
printed =
    lines_of (line_of 1 (ok [])
    ∷ line_of 2 (ok (4294967297 ∷ []))
    ∷ line_of 3 (ok [])
    ∷ line_of 4 (ok (1 ∷ []))
    ∷ line_of 5 (no 17)
    ∷ line_of 6 (ok (1 ∷ 1 ∷ []))
    ∷ line_of 7 (ok [])
    ∷ line_of 8 (ok (1 ∷ 1 ∷ 4294967297 ∷ []))
    ∷ line_of 9 (ok (1 ∷ 1 ∷ []))
    ∷ line_of 10 (ok (700 ∷ 0 ∷ 1 ∷ 1 ∷ []))
    ∷ [])

pub prints : printed
    ≡ bytes_of "1 ok\n2 ok 4294967297\n3 ok\n4 ok 1\n5 refused 17\n6 ok 1 1\n7 ok\n8 ok 1 1 4294967297\n9 ok 1 1\n10 ok 700 0 1 1\n"
unfolding first_below places_of decimal_of results_of outcome_of line_of
prints = refl

-- and one in which an abort falls; the largest number, and 0
pub prints_more : line_of 11 (abort 18) ++ line_of 18446744073709551615 (ok (0 ∷ [])) ≡ bytes_of "11 ok abort 18\n18446744073709551615 ok 0\n"
unfolding first_below places_of decimal_of results_of outcome_of line_of
prints_more = refl
