-- Each write is one step of the fold.
use Rattle.std.proofs.Common.{◌≡◌, refl, sym, ◌∙◌, arith}
use Rattle.laws.specs.Scan.{fold_below, fold_more}
use Rattle.rules.specs.History.{forget_into}
use Rattle.history.proofs.forget_into.Goals as goal

pub loop-i-init : goal.loop-i-init
unfolding fold_below
loop-i-init c = (refl, refl)

pub loop-i-preserved : goal.loop-i-preserved
loop-i-preserved c =
    let l = c.loop-i in
    (c.put_value.auto.ws ∙ l.invariant.0, c.put_value.ensures ∙ rw l.invariant.1 (sym (fold_more _ _ _)))

pub returns : goal.returns
unfolding forget_into
returns c =
    let l = c.loop-i in
    let q : l.i ≡ c.args.b.wrote = omega arith in
    l.invariant.1 ∙ rw q
