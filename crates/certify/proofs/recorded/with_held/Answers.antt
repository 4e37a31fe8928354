-- A free seat is of no transaction; another adds its own, and nothing else, to those gathered.
use Rattle.std.proofs.Common.{◌∙◌}
use Rattle.certify.specs.Leaves.{among_put, free_seat, held_seat}
use Rattle.certify.proofs.recorded.with_held.Goals as goal

pub returns-then-a-eq-FREE-clause-by_index : goal.returns-then-a-eq-FREE-clause-by_index
returns-then-a-eq-FREE-clause-by_index c = λ tx. rw (free_seat c.args.a tx c.if-a-eq-FREE.true)

pub returns-clause-by_index : goal.returns-clause-by_index
returns-clause-by_index c =
    let a = c.args in
    λ tx. among_put a.txs.now a.n a.a.tx tx c.requires ∙ rw (held_seat a.a tx c.if-a-eq-FREE.false)
