-- Beyond demand 3: what an accepted read answers, in the words of the book.
use Rattle.std.specs.Prelude.{ℕ, ◌≡◌, List}
use Rattle.kinds.specs.declared.House.{House}
use Rattle.kinds.specs.declared.Value.{Value}
use Rattle.kinds.specs.declared.Answer.TheVariants.{Found}
use Rattle.rules.specs.House.{GoodHouse}
use Rattle.rules.specs.World as world
use Rattle.rules.specs.World.{Call, Lawful, fresh_world, step, run}
use Rattle.rules.specs.Book.{Fact, began, installed, book_from}
use Rattle.rules.specs.Claim.{Before, LastWrite, Wrote}
use Rattle.rules.specs.Left.{LeftOf}

-- tx's part at s saw the pair: it was installed there before the part began
abbrev pub SeenBy : List Fact → ℕ → ℕ → ℕ → ℕ → Type 0
SeenBy b s tx n c = Before (installed s n c) (began s tx) b

-- The reader's own last write of the key, else what the transactions that it saw left there. By (B) of demand 3 the writers of a key are
-- installed in the order of their pairs, so the greatest of them is the one installed last.
pub data ReadLeft (b : List Fact) (s tx key : ℕ) (v : Value) : Type 0 where
  own : LastWrite b tx key v → ReadLeft b s tx key v
  seen : (none : Wrote b tx key → ⊥) → LeftOf b (SeenBy b s tx) key v → ReadLeft b s tx key v

-- the claim: a read after any list of the fourteen calls, from a fresh house that is good. Each read of a list comes after those
-- before it.
unfoldable pub ReadsRight : Type 0
ReadsRight =
    (o : House) (calls : List Call) → GoodHouse o → Lawful (fresh_world o) calls
    → (s tx key : ℕ) (v : Value) → (step (run (fresh_world o) calls) (world.read s tx key)).answer ≡ Found v
    → ReadLeft (book_from (fresh_world o) calls) s tx key v
