-- Two sites with places have a channel.
use Rattle.std.proofs.Common.{◌≡◌, true, arith, rules}
use Rattle.routing.specs.Route.{is_placed, placed}
use Rattle.routing.proofs.route.to_receiver.Goals as goal

pub overflow_sub-sender : goal.overflow_sub-sender
overflow_sub-sender c =
    let e : is_placed c.args.sites c.args.from ≡ true = search rules in
    omega (arith, (placed c.args.sites c.args.from e).low)

pub overflow_sub-receiver : goal.overflow_sub-receiver
overflow_sub-receiver c =
    let e : is_placed c.args.sites c.args.to ≡ true = search rules in
    omega (arith, (placed c.args.sites c.args.to e).low)

pub channel-requires : goal.channel-requires
channel-requires c =
    let d : is_placed c.args.sites c.args.from ≡ true = search rules in
    let e : is_placed c.args.sites c.args.to ≡ true = search rules in
    let p = placed c.args.sites c.args.from d in
    let q = placed c.args.sites c.args.to e in
    (omega (arith, p.low, p.high), omega (arith, q.low, q.high))
