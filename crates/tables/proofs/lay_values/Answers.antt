use mathlib.Core.Path.{◌≡◌}
use native.Mathlib.Omega.{arith}
use borrow.Author.Rules.{rules}
use lib.ListN.{take}
use lib.Seq.{take_all}
use Rattle.kinds.specs.Sizes as sizes
use Rattle.lent.specs.Rows.{flat}
use Rattle.tables.proofs.Laid.{laid_none, laid_values}
use Rattle.tables.proofs.lay_values.Goals as goal

pub loop-i-init : goal.loop-i-init
unfolding flat
loop-i-init c = laid_none _ _

pub loop-i-preserved : goal.loop-i-preserved
loop-i-preserved c =
    let a = c.args in
    let room = c.requires in
    let low = c.loop-i-test.true in
    let more = laid_values a.out.now a.at c.loop-i.i a.a c.loop-i.out (omega arith) (omega arith) c.loop-i.invariant in
    rw c.put_value.ensures more

pub returns : goal.returns
returns c =
    let a = c.args in
    let all : c.loop-i.i ≡ sizes.writes = omega (arith, c.loop-i-test.false) in
    let whole : take sizes.writes a.a ≡ a.a = take_all sizes.writes a.a (omega arith) in
    (search rules, rw (all, whole) at c.loop-i.invariant.whole)
