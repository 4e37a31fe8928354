-- What a call does. `Change` is a step of one part's course, on the part and its site's counters and channels; `Effect` is a whole
-- call of a site: the lent table is the gathered lists of a commit or message, the base values of an install, and empty for the
-- others. A refusal alters nothing.
use Rattle.std.specs.Prelude.{ℕ, List, [], set, length, eqb}
use Rattle.laws.specs.Choice.{pick}
use Rattle.kinds.specs.declared.Turn.{Turn}
use Rattle.kinds.specs.declared.Taken.{Taken}
use Rattle.kinds.specs.declared.Site.{Site}
use Rattle.kinds.specs.declared.Answer.{Answer}
use Rattle.kinds.specs.declared.Answer.TheVariants.{Refused}
use Rattle.kinds.specs.State.{sub_at}

pub record Change : Type 0 where
  pub answer : Answer
  pub words : List ℕ
  pub turn : Turn

pub record Effect : Type 0 where
  pub answer : Answer
  pub words : List ℕ
  pub site : Site
  pub lent : List ℕ

-- what is handed back, the words being in the buffer
unfoldable pub taken_of : Change → Taken
taken_of c = record { answer = c.answer; words = length c.words; turn = c.turn }

-- the part at a place with its surroundings, and the site with them put back
unfoldable pub turn_at : Site → ℕ → Turn
turn_at s place = record { counters = s.counters; channels = s.channels; sub = sub_at s place }

unfoldable pub settle : Site → ℕ → Turn → Site
settle s place t =
    record { house = s.house; counters = t.counters; channels = t.channels; live = set s.live place t.sub; history = s.history }

abbrev pub changed : Site → ℕ → Change → List ℕ → Effect
changed s place c lent = record { answer = c.answer; words = c.words; site = settle s place c.turn; lent = lent }

abbrev pub refused : ℕ → Site → List ℕ → Effect
refused n s lent = record { answer = Refused n; words = []; site = s; lent = lent }

-- the effect e where no cause of refusal holds
abbrev pub unless : ℕ → Site → List ℕ → Effect → Effect
unless code s lent e = pick (eqb code 0) e (refused code s lent)
