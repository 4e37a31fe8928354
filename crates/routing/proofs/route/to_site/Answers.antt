-- A site with a place has a number other than 0.
use Rattle.std.proofs.Common.{◌≡◌, true, arith, rules}
use Rattle.routing.specs.Route.{is_placed, placed}
use Rattle.routing.proofs.route.to_site.Goals as goal

pub overflow_sub-site : goal.overflow_sub-site
overflow_sub-site c =
    let e : is_placed c.args.sites c.args.site ≡ true = search rules in
    omega (arith, (placed c.args.sites c.args.site e).low)
