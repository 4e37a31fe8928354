-- Only the counters and channels are the step's.
use mathlib.Core.Path.{◌≡◌, refl}
use lib.ListN.{length}
use Rattle.kinds.specs.Sizes as sizes
use Rattle.rules.specs.Effect.{taken_of}
use Rattle.rules.specs.Deliver.{spoken}
use Rattle.lent.specs.Leaves.{left_counted}
use borrow.Author.Rules.{rules}
use Rattle.shell.proofs.spoken.Goals as goal

pub returns : goal.returns
unfolding spoken taken_of
returns c =
    let seats : length c.args.p.seats ≡ sizes.live = search rules in
    λ s e w h. rw e (record { answer = refl; words = refl; left = left_counted c.args.p w h s.turn.counters s.turn.channels seats })
