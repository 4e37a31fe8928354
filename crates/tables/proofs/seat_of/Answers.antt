-- The seat's two fields are the part's.
use mathlib.Core.Path.{refl}
use Rattle.lent.specs.Layout.{seat_of}
use Rattle.tables.proofs.seat_of.Goals as goal

pub returns : goal.returns
unfolding seat_of
returns c = refl
