-- A seat adds its own transaction to those gathered.
use Rattle.std.proofs.Common.{◌≡◌, refl, sym, ◌∙◌, arith}
use Rattle.kinds.specs.Sizes as sizes
use Rattle.certify.specs.Leaves.{among, any_more, any_none}
use Rattle.certify.proofs.recorded.held_txs.Goals as goal

pub loop-a-init : goal.loop-a-init
unfolding among
loop-a-init c = (omega arith, refl, λ tx. any_none _ ∙ sym (any_none _))

pub loop-a-preserved : goal.loop-a-preserved
loop-a-preserved c =
    let (few, long, was) = c.loop-a.invariant in
    let e = c.with_held-n.ensures in
    (omega arith, c.with_held-n.auto.txs ∙ long, λ tx. e.by_index tx ∙ rw (was tx) (sym (any_more _ _)))

pub returns : goal.returns
returns c =
    let (few, long, was) = c.loop-a.invariant in
    let q : c.loop-a.a-index ≡ sizes.live = omega arith in
    record { upper_bound = omega arith; by_index = λ tx. rw (← q) (was tx) }

pub with_held-n-requires : goal.with_held-n-requires
with_held-n-requires c = omega (arith, c.requires)
