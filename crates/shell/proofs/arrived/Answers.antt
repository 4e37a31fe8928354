-- The part that stands at the place, with the channel's count stepped.
use Rattle.rules.specs.Deliver.{arrived}
use Rattle.shell.proofs.arrived.Goals as goal

pub taken_from-channels-requires : goal.taken_from-channels-requires
taken_from-channels-requires c =
    let m = c.requires.counts in
    (m.first, (m.last, m.low))

pub returns : goal.returns
unfolding arrived
returns c = λ h. rw (c.part_at-sub.ensures, c.taken_from-channels.ensures)
