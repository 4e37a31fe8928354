-- The core stays, and so does what it is read as.
use mathlib.Core.Path.{◌≡◌, refl}
use lib.ListN.{length}
use Rattle.kinds.specs.Sizes as sizes
use Rattle.lent.specs.Leaves.{left_same}
use borrow.Author.Rules.{rules}
use Rattle.shell.proofs.unaltered.Goals as goal

pub returns : goal.returns
returns c =
    let seats : length c.args.p.seats ≡ sizes.live = search rules in
    λ ws e w h lent. record { answer = refl; words = e; left = left_same c.args.p w h seats }
