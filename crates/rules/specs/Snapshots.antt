-- Q5.8, beyond demand 3: what a snapshot sees stays as it was, in the words of the book.
use Rattle.std.specs.Prelude.{ℕ, ◌+◌, ◌≤◌, ◌≡◌, List, [], ◌∷◌, eqb}
use Rattle.laws.specs.Choice.{pick}
use Rattle.kinds.specs.Sizes as sizes
use Rattle.kinds.specs.declared.House.{House}
use Rattle.kinds.specs.declared.Value.{Value}
use Rattle.kinds.specs.declared.Answer.TheVariants.{Searched}
use Rattle.rules.specs.House.{GoodHouse}
use Rattle.rules.specs.World as world
use Rattle.rules.specs.World.{Call, Lawful, Member, fresh_world, step, run}
use Rattle.rules.specs.Book.{Fact, began, used, wrote, committed, installed, replayed, book_from}
use Rattle.rules.specs.Left.{LeftOf}

-- the pair is installed at s
abbrev pub InstalledAt : List Fact → ℕ → ℕ → ℕ → Type 0
InstalledAt b s n c = Member (installed s n c) b

-- how many installs at s the book has
abbrev pub one_at : ℕ → Fact → ℕ
one_at s (installed r n c) = pick (eqb s r) 1 0
one_at s (began r tx) = 0
one_at s (used tx key) = 0
one_at s (wrote tx key v) = 0
one_at s (committed tx n c) = 0
one_at s (replayed copy n c) = 0

unfoldable pub installs_in : ℕ → List Fact → ℕ
installs_in s [] = 0
installs_in s (f ∷ b) = one_at s f + installs_in s b

-- The claim, for any list of the fourteen calls from a fresh house that is good, in two pieces. After both a search for the number of
-- installs that site s has in the first answers what the transactions installed there by then left at the key. This holds while the second
-- has at most 32 installs there; past them the history has forgotten one, and a read is refused 8.
unfoldable pub SnapshotsStay : Type 0
SnapshotsStay =
    (o : House) (calls more : List Call) → GoodHouse o → Lawful (fresh_world o) calls
    → (let w = run (fresh_world o) calls in
    let b = book_from (fresh_world o) calls in
    Lawful w more → (s key looked : ℕ) (v : Value) → installs_in s (book_from w more) ≤ sizes.history
    → (step (run w more) (world.search s (installs_in s b) key)).answer ≡ Searched v looked → LeftOf b (InstalledAt b s) key v)
