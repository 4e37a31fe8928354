-- C51, C52, C57 and C58: the queue's least entry, and what a site has finished.
use Rattle.std.specs.Prelude.{ℕ, ◌-◌, min, List, [], ◌∷◌, Bool, ltb, leb, eqb}
use Rattle.laws.specs.Choice.{pick, every, some}
use Rattle.laws.specs.Scan.{fold_below}
use Rattle.laws.specs.Pair.{precedes}
use Rattle.kinds.specs.Sizes as sizes
use Rattle.kinds.specs.Stage as stage
use Rattle.kinds.specs.declared.Sub.{Sub}
use Rattle.rules.specs.Live.{part_at, is_queued}

-- By (commit number if decided, else mark; coordinator; transaction). A transaction's number begins with its coordinator, so its
-- order is that of the last two.
unfoldable pub queued_before : Sub → Sub → Bool
queued_before a b = precedes a.course.number a.tx b.course.number b.tx

-- part b is queued and before the best so far, `first` at place `best`; 16 for none
unfoldable pub comes_first : Sub → ℕ → Sub → Bool
comes_first b best first = every (is_queued b ∷ some (leb sizes.live best ∷ queued_before b first ∷ []) ∷ [])

-- the better of the best place so far and place i
unfoldable pub better_place : List Sub → ℕ → ℕ → ℕ
better_place live i best = pick (comes_first (part_at live i) best (part_at live best)) i best

-- the place of the queue's least among the first n places, or 16
unfoldable pub least_queued : List Sub → ℕ → ℕ
least_queued live n = fold_below (better_place live) n sizes.live

-- it installs if it is decided
unfoldable pub is_installable : List Sub → ℕ → Bool
is_installable live place = every (ltb place sizes.live ∷ eqb (part_at live place).course.stage stage.decided ∷ [])

-- a part's bound on the state number: an open mark, a decided number less 1
unfoldable pub state_bound : Sub → ℕ → ℕ
state_bound b n =
    pick (eqb b.course.stage stage.queued) (min n b.course.number)
    (pick (eqb b.course.stage stage.decided) (min n (b.course.number - 1)) n)

-- the least of the clock and these
unfoldable pub state_number : List Sub → ℕ → ℕ → ℕ
state_number live clock n = fold_below (λ i b. state_bound (part_at live i) b) n clock
