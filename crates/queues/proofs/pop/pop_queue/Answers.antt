-- The lent words of one site, where the mask names it.
use Prim.Native.Nat.{◌*◌, ◌+◌, ◌-◌}
use mathlib.Core.Path.{◌∙◌, sym}
use native.Mathlib.Omega.{arith}
use Rattle.rules.specs.Merger.{pop_queue_at}
use Rattle.rules.specs.MergerWords.{queue_popped}
use Rattle.kinds.specs.Sizes as sizes
use Rattle.queues.proofs.pop.pop_queue.Goals as goal

pub returns-then-in_mask : goal.returns-then-in_mask
unfolding pop_queue_at
returns-then-in_mask c =
    let a = c.args in
    let pre = c.requires in
    let drop = c.drop_head in
    let n = sizes.site_queue * a.i + sizes.site_queue - sizes.site_queue * a.i in
    rw (sym c.in_mask.ensures ∙ c.if-in_mask.true)
    (queue_popped a.queues.now drop.new.ws a.i n pre.queues_len pre.i_lt_sites (omega arith) drop.ensures)
