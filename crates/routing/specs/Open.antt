-- The first keys that a `sites` line gives, or those of its count (Q3.7).
use Rattle.std.specs.Prelude.{◌≡◌, ℕ, zero, suc, ◌≤◌, true, false, List, [], ◌∷◌, length, take, ◌==◌, refl}
use Rattle.std.proofs.Common.{arith}
use Rattle.laws.specs.Choice.{pick, set_not}
use Rattle.laws.specs.Scan.{all_below}
use Rattle.kinds.specs.Sizes as sizes
use Rattle.rules.specs.House.{count_ok, table_ok, even_table}
use Rattle.rules.specs.HouseLaws.{count_clear}
use Rattle.rules.specs.Merger.{merger_start_code}

unfoldable pub table_given : ℕ → ℕ → List ℕ → List ℕ
table_given n given keys = pick (given == 0) (even_table n) (take given keys)

-- 0, 256 and so on starts every house
pub even_starts : (n : ℕ) → count_ok n ≡ true → merger_start_code n (even_table n) sizes.queues ≡ 0
unfolding merger_start_code count_ok even_table table_ok all_below
even_starts zero e = absurd (set_not false e refl)
even_starts (suc zero) e = refl
even_starts (suc (suc zero)) e = refl
even_starts (suc (suc (suc zero))) e = refl
even_starts (suc (suc (suc (suc zero)))) e = refl
even_starts (suc (suc (suc (suc (suc zero))))) e = refl
even_starts (suc (suc (suc (suc (suc (suc zero)))))) e = refl
even_starts (suc (suc (suc (suc (suc (suc (suc zero))))))) e = refl
even_starts (suc (suc (suc (suc (suc (suc (suc (suc zero)))))))) e = refl
even_starts (suc (suc (suc (suc (suc (suc (suc (suc (suc n))))))))) e =
    let h = (count_clear (suc (suc (suc (suc (suc (suc (suc (suc (suc n))))))))) e).1 in absurd (omega arith)

-- words from the front are not more
take_few : (n : ℕ) (l : List ℕ) → length (take n l) ≤ length l
take_few zero l = omega arith
take_few (suc n) [] = omega arith
take_few (suc n) (x ∷ l) = omega (arith, take_few n l)

pub front_few : (n : ℕ) (l : List ℕ) → length l ≤ sizes.sites → length (take n l) ≤ sizes.sites
front_few n l e = omega (arith, take_few n l)
