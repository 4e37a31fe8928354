-- The head of each site is one step of the fold.
use Rattle.std.proofs.Common.{◌≡◌, refl, sym, ap, ◌∙◌, arith}
use Rattle.laws.specs.Scan.{fold_below}
use Rattle.merger.specs.Order.{least_in, sites_in}
use Rattle.rules.specs.Merger.{better_head, least_head}
use Rattle.rules.specs.MergerLaws.{least_head_more}
use Rattle.merger.proofs.heads.Heads.least.Goals as goal

pub loop-i-init : goal.loop-i-init
unfolding least_head fold_below
loop-i-init c = (refl, tt)

pub better-best-requires-clause-best_lt_sites : goal.better-best-requires-clause-best_lt_sites
better-best-requires-clause-best_lt_sites c = c.loop-i.invariant.1

pub loop-i-preserved : goal.loop-i-preserved
loop-i-preserved c =
    let l = c.loop-i in
    let h = c.args.self in
    let step = ap (better_head h.merger h.heads l.i) l.invariant.0 in
    (c.better-best.ensures.better ∙ step ∙ sym (least_head_more h.merger h.heads l.i), c.better-best.ensures.bound)

pub returns-clause-least : goal.returns-clause-least
unfolding least_in
returns-clause-least c =
    let h = c.args.self in
    let e : c.loop-i.i ≡ sites_in h = omega (arith, c.sites-i-end.ensures) in
    c.loop-i.invariant.0 ∙ ap (least_head h.merger h.heads) e

pub returns-clause-bound : goal.returns-clause-bound
returns-clause-bound c = c.loop-i.invariant.1
