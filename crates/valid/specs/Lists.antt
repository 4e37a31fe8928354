-- S19: what the look at the gathered lists takes for granted.
use Rattle.std.specs.Prelude.{ℕ, ◌+◌, ◌*◌, ◌≤◌, ◌<◌, ◌≡◌, List, length, get_or}
use Rattle.kinds.specs.Sizes as sizes
use Rattle.kinds.specs.Word as word
use Rattle.kinds.specs.declared.House.{House}

-- few sites, all words of the live table and of the lists, and at each place no more entries than its list has room for
pub record Gathered (o : House) (w lists : List ℕ) : Type 0 where
  pub few_sites : o.sites ≤ sizes.sites
  pub live : length w ≡ sizes.live_words
  pub whole : length lists ≡ sizes.lists
  pub few : (i : ℕ) → i < sizes.live → get_or w (sizes.place * i + word.place_listed) 0 ≤ sizes.cert_entries
