-- Only the channel's count is another.
use mathlib.Core.Path.{◌≡◌, refl}
use lib.ListN.{length}
use Rattle.kinds.specs.Sizes as sizes
use Rattle.rules.specs.Deliver.{passed}
use Rattle.lent.specs.Leaves.{left_counted}
use borrow.Author.Rules.{rules}
use Rattle.shell.proofs.passed.Goals as goal

pub taken_from-channels-requires : goal.taken_from-channels-requires
taken_from-channels-requires c =
    let m = c.requires in
    (m.first, (m.last, m.low))

pub returns : goal.returns
unfolding passed
returns c =
    let seats : length c.args.p.seats ≡ sizes.live = search rules in
    λ w h.
    rw c.taken_from-channels.ensures
    (record { answer = refl; words = refl; left = left_counted c.args.p w h c.args.p.counters _ seats })
