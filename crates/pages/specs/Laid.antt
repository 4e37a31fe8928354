-- A text laid on a page.
use Rattle.std.specs.Prelude.{ℕ, ◌+◌, ◌-◌, ◌*◌, ◌≤◌, ◌≡◌, List, length, leb}
use Rattle.laws.specs.Choice.{pick}
use Rattle.laws.specs.Overlay.{put_at}

-- From place `at` on the page has the text, up to the place `end`; all else on it is as before.
pub record Laid (before : List ℕ) (at : ℕ) (text after : List ℕ) (end : ℕ) : Type 0 where
  pub bytes : after ≡ put_at at before text
  pub ends : end ≡ at + length text
  pub within : at + length text ≤ length before

-- the most digits of a number; a number with the space before it; n of these, and behind ` ok`
abbrev pub digits : ℕ
digits = 20

abbrev pub field : ℕ
field = 1 + digits

abbrev pub fields : ℕ → ℕ
fields n = n * field

abbrev pub ok_with : ℕ → ℕ
ok_with n = 3 + fields n

-- bytes of a page, and of the longest line
abbrev pub page : ℕ
page = 65536

abbrev pub longest : ℕ
longest = 128

-- a page with this much on it has room for a line, and for one with four numbers more
abbrev pub full : ℕ
full = page - longest

abbrev pub nearly : ℕ
nearly = page - 2 * longest

-- where a line starts on a page with `used` bytes on it: behind them, or at 0 where they leave no room and are written out first
abbrev pub line_start : ℕ → ℕ → ℕ
line_start full used = pick (leb used full) used 0
