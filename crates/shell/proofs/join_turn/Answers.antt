-- A new part for a desk, with the channel's count stepped.
use Rattle.rules.specs.Deliver.{join_turn}
use Rattle.shell.proofs.join_turn.Goals as goal

pub taken_from-channels-requires : goal.taken_from-channels-requires
taken_from-channels-requires c =
    let m = c.requires in
    (m.first, (m.last, m.low))

pub returns : goal.returns
unfolding join_turn
returns c = λ w g. rw (c.new_sub-sub.ensures, c.taken_from-channels.ensures)
