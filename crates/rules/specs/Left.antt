-- In the words of the book: what some committed transactions leave at a key, over zeros. The pairs of those that count are given.
use Rattle.std.specs.Prelude.{ℕ, ◌≡◌, List}
use Rattle.kinds.specs.State.{fresh}
use Rattle.kinds.specs.declared.Value.{Value}
use Rattle.rules.specs.Book.{Fact}
use Rattle.rules.specs.Claim.{LastWrite, Wrote, Committed, UpTo}

module _ (b : List Fact) (Counts : ℕ → ℕ → Type 0) (key : ℕ) where
  -- ux is committed with a pair that counts, and wrote the key
  pub record Writer (ux n c : ℕ) : Type 0 where
    pub committed : Committed b ux n c
    pub counts : Counts n c
    pub wrote : Wrote b ux key

  -- the greatest of these writers by pair, whose last write is v
  pub record LastOf (v : Value) : Type 0 where
    pub writer : ℕ
    pub number : ℕ
    pub coordinator : ℕ
    pub is : Writer writer number coordinator
    pub wrote : LastWrite b writer key v
    pub greatest : (ux m d : ℕ) → Writer ux m d → UpTo number coordinator m d

  pub data LeftOf (v : Value) : Type 0 where
    unwritten : (none : (ux n c : ℕ) → Writer ux n c → ⊥) (zero : v ≡ fresh) → LeftOf v
    written : LastOf v → LeftOf v
