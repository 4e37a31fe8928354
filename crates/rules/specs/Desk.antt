-- Q10.1 and Q10.4: the desks, and how many keys a part for each may write.
use Rattle.std.specs.Prelude.{ℕ, ◌≤◌, Bool, leb, eqb}
use Rattle.std.proofs.Common.{arith}
use Rattle.laws.specs.Choice.{pick, by_test}
use Rattle.kinds.specs.Sizes as sizes
use Rattle.kinds.specs.Desk as desk

-- 0 house or 1 proofing
unfoldable pub is_desk : ℕ → Bool
is_desk d = leb d desk.proofing

-- 4 distinct keys for the proofing desk, 16 for all others
unfoldable pub write_limit : ℕ → ℕ
write_limit d = pick (eqb d desk.proofing) sizes.proofing_writes sizes.writes

-- no desk allows more than a part has room for
pub limit_most : (d : ℕ) → write_limit d ≤ sizes.writes
unfolding write_limit
limit_most d = by_test (eqb d desk.proofing) (λ e. rw e (omega arith)) (λ e. rw e (omega arith))
