-- A key that was read changes nothing; one that was not goes behind the others, where there is room.
use Rattle.std.proofs.Common.{sym, ◌∙◌}
use Rattle.rules.specs.Keys.{with_read}
use Rattle.keys.proofs.with_read.Goals as goal

pub returns-then-read_key : goal.returns-then-read_key
unfolding with_read
returns-then-read_key c = simp (sym c.read_key.ensures ∙ c.if-read_key.true)

pub bounds-c-b : goal.bounds-c-b
bounds-c-b c = c.requires.1 (sym c.read_key.ensures ∙ c.if-read_key.false)

pub returns : goal.returns
unfolding with_read
returns c = simp (sym c.read_key.ensures ∙ c.if-read_key.false)
