-- A refusal is an answer that alters nothing.
use mathlib.Core.Path.{refl}
use mathlib.Core.List.{[]}
use Rattle.shell.proofs.refused_by.Goals as goal

pub returns : goal.returns
returns c = λ w h lent. rw (← c.into.ensures) (c.unaltered.ensures [] refl w h lent)
