-- The two tests in order: the seat's stage is the part's.
use borrow.Author.Tests.{lt-ltb, le-ltb}
use Rattle.laws.specs.Choice.{pick_self}
use Rattle.kinds.specs.Sizes as sizes
use Rattle.rules.specs.Queue.{is_installable}
use Rattle.lent.specs.Seats.{seat_stage}
use Rattle.queue.proofs.is_installable.Goals as goal

pub returns-then-place-lt-LIVE : goal.returns-then-place-lt-LIVE
unfolding is_installable
returns-then-place-lt-LIVE c =
    let a = c.args in
    let low = c.if-place-lt-LIVE.true in
    λ w. rw (lt-ltb a.place sizes.live low, pick_self, seat_stage a.seats w a.place low)

pub returns-else-place-lt-LIVE : goal.returns-else-place-lt-LIVE
unfolding is_installable
returns-else-place-lt-LIVE c = λ w. rw (le-ltb c.args.place sizes.live c.if-place-lt-LIVE.false)
