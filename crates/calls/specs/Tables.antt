-- The words of all sites of a house, one behind the other.
use Rattle.std.specs.Prelude.{ℕ, ◌*◌, ◌≡◌, List, length}
use Rattle.kinds.specs.Sizes as sizes

-- live parts, histories, base values and gathered lists
pub record Tables (w h b l : List ℕ) : Type 0 where
  pub live : length w ≡ sizes.sites * sizes.live_words
  pub history : length h ≡ sizes.sites * sizes.history_words
  pub base : length b ≡ sizes.sites * sizes.base
  pub lists : length l ≡ sizes.sites * sizes.lists

-- a message is lent no base values
pub record Taking (w h l : List ℕ) : Type 0 where
  pub live : length w ≡ sizes.sites * sizes.live_words
  pub history : length h ≡ sizes.sites * sizes.history_words
  pub lists : length l ≡ sizes.sites * sizes.lists
