use borrow.Author.Rules.{rules}
use mathlib.Core.Path.{◌∙◌, ◌≡◌, ap, refl, sym}
use native.Mathlib.Omega.{arith}
use Rattle.laws.specs.Scan.{fold_below}
use Rattle.rules.specs.Merger.{pop_queue_at, pop_queues}
use Rattle.rules.specs.MergerWords.{pops_more}
use Rattle.queues.proofs.pop.pop_queues.Goals as goal

pub loop-i-init : goal.loop-i-init
unfolding pop_queues fold_below
loop-i-init c = record { size = refl; popped = refl }

pub loop-i-preserved : goal.loop-i-preserved
loop-i-preserved c =
    let a = c.args in
    let l = c.loop-i in
    let more = sym (pops_more a.queues.now a.mask l.i) in
    record {
      size = search rules;
      popped = c.pop_queue.ensures ∙ ap (pop_queue_at a.mask l.i) l.invariant.popped ∙ more;
    }

pub shape_of-queues : goal.shape_of-queues
shape_of-queues c = c.loop-i.invariant.size

pub returns : goal.returns
returns c =
    let e : c.loop-i.i ≡ c.args.n = omega arith in
    rw (← e) c.loop-i.invariant.popped
