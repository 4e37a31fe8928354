-- Each return is the first cause, or none.
use borrow.Author.Tests.{le-ltb, lt-ltb}
use Rattle.kinds.specs.Sizes as sizes
use Rattle.rules.specs.Deliver.{arrival_code}
use Rattle.deliver.proofs.codes.check_arrival.Goals.{then-not-ok-via-then-not-ok, then-not-ok-via-else-not-ok+then-not-fine}
use Rattle.deliver.proofs.codes.check_arrival.Goals as goal

pub returns-then-room-lt-OUTGOING : goal.returns-then-room-lt-OUTGOING
unfolding arrival_code
returns-then-room-lt-OUTGOING c = simp (lt-ltb c.args.room sizes.outgoing c.if-room-lt-OUTGOING.true)

pub returns-then-not-ok : goal.returns-then-not-ok
unfolding arrival_code
returns-then-not-ok c =
    let wide = le-ltb c.args.room sizes.outgoing c.if-room-lt-OUTGOING.false in
    elim c.then-not-ok.branch [
      | then-not-ok-via-then-not-ok w ↦ simp (wide, w.if-not-ok.true)
      | then-not-ok-via-else-not-ok+then-not-fine w ↦ simp (wide, w.if-not-ok.false, w.if-not-fine.true)
    ]

pub returns : goal.returns
unfolding arrival_code
returns c =
    simp (le-ltb c.args.room sizes.outgoing c.if-room-lt-OUTGOING.false, c.if-not-ok.false, c.if-not-fine.false)
