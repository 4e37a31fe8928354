-- A site with a place has a log.
use Rattle.std.proofs.Common.{◌≡◌, true, arith, rules}
use Rattle.routing.specs.Route.{is_placed, placed}
use Rattle.routing.proofs.route.from_log.Goals as goal

pub overflow_sub-i : goal.overflow_sub-i
overflow_sub-i c =
    let e : is_placed c.args.sites c.args.site ≡ true = search rules in
    omega (arith, (placed c.args.sites c.args.site e).low)

pub log-requires : goal.log-requires
log-requires c =
    let e : is_placed c.args.sites c.args.site ≡ true = search rules in
    let p = placed c.args.sites c.args.site e in
    omega (arith, p.low, p.high)
