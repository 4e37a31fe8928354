-- M26: the next message from a site can be counted.
use Rattle.std.specs.Prelude.{ℕ, ◌-◌, ◌≤◌, ◌<◌, ◌≡◌, List, get_or, length}
use Rattle.kinds.specs.Sizes as sizes
use Rattle.kinds.specs.declared.Channels.{Channels}
use Rattle.kinds.specs.declared.Site.{Site}
use Rattle.rules.specs.Deliver.{Arriving}

pub record Countable (c : Channels) (from : ℕ) : Type 0 where
  pub first : 1 ≤ from
  pub last : from ≤ sizes.sites
  pub low : get_or c.taken (from - 1) 0 < sizes.last

-- it comes for the part at a place of these live words
pub record Comes (w : List ℕ) (place : ℕ) (c : Channels) (from : ℕ) : Type 0 where
  pub live : length w ≡ sizes.live_words
  pub low : place < sizes.live
  pub counts : Countable c from

pub countable : (s : Site) (from : ℕ) → Arriving s from → Countable s.channels from
countable s from a = record { first = a.first; last = a.last; low = a.low }
