-- C54: the entry that the next install stands in the place of, and that its writes can go into the base values.
use Rattle.std.specs.Prelude.{ℕ, ◌≤◌, ◌<◌, List, get_or}
use Rattle.kinds.specs.Sizes as sizes
use Rattle.kinds.specs.declared.Keys.{Keys}
use Rattle.kinds.specs.declared.Entry.{Entry}
use Rattle.kinds.specs.State.{past_entry}
use Rattle.rules.specs.History.{slot_of}

abbrev pub oldest : List Entry → ℕ → Keys
oldest history installs = (get_or history (slot_of installs) past_entry).keys

pub record Forgettable (b : Keys) : Type 0 where
  pub few : b.wrote ≤ sizes.writes
  pub low : (i : ℕ) → i < b.wrote → get_or b.writes i 0 < sizes.keys
