-- The queue's least so far, as the rules have it: its place, 16 for none, and what is known of its part.
use Rattle.std.specs.Prelude.{ℕ, ◌<◌, ◌≡◌, List, Option, None, Some, IfSome}
use Rattle.kinds.specs.Sizes as sizes
use Rattle.kinds.specs.Stage as stage
use Rattle.kinds.specs.declared.Sub.{Sub}
use Rattle.rules.specs.Queue.{least_queued}
use Rattle.queue.specs.declared.Least.{Least}
use Rattle.queue.specs.Asked.{asked, Best}

abbrev pub place_of : Option Least → ℕ
place_of None = sizes.live
place_of (Some least) = least.place

abbrev pub number_of : Option Least → ℕ
number_of None = 0
number_of (Some least) = least.number

abbrev pub tx_of : Option Least → ℕ
tx_of None = 0
tx_of (Some least) = least.tx

abbrev pub part_of : Option Least → Sub
part_of o = asked stage.queued (number_of o) (tx_of o)

abbrev pub IsPlaced : Option Least → Type 0
IsPlaced o = IfSome o (λ least. least.place < sizes.live)

-- it is the least of the first n places
pub record IsLeast (live : List Sub) (n : ℕ) (o : Option Least) : Type 0 where
  pub placed : IsPlaced o
  pub least : place_of o ≡ least_queued live n
  pub known : Best live (place_of o) (number_of o) (tx_of o)
