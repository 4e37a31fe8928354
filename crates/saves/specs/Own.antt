-- What a part's course is taken further with: a possible site and a place of its live table, and the n entries of the part's own list.
use Rattle.std.specs.Prelude.{ℕ, ◌*◌, ◌≤◌, ◌<◌, ◌≡◌, true, List, length}
use Rattle.kinds.specs.Sizes as sizes
use Rattle.kinds.specs.declared.Core.{Core}
use Rattle.rules.specs.Valid.{site_ok}
use Rattle.lent.specs.Lent.{site_of}

pub record Placed (p : Core) (w h : List ℕ) (place : ℕ) : Type 0 where
  pub possible : site_ok (site_of p w h) ≡ true
  pub low : place < sizes.live

pub record Own (p : Core) (w h : List ℕ) (place : ℕ) (own : List ℕ) (n : ℕ) : Type 0 where
  pub possible : site_ok (site_of p w h) ≡ true
  pub low : place < sizes.live
  pub long : length own ≡ sizes.entry * n
  pub few : n ≤ sizes.conc_entries
