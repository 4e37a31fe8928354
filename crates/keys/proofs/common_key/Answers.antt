use Rattle.std.proofs.Common.{sym, refl, ◌∙◌, below_more, eq-eqb}
use Rattle.laws.specs.Scan.{none_none, any_below_lem, any_end}
use Rattle.rules.specs.Keys.{common_key}
use Rattle.keys.proofs.common_key.Goals as goal

pub search-init : goal.search-init
search-init c = (refl, none_none _)

pub search-preserved : goal.search-preserved
search-preserved c =
    let l = c.loop-j in
    (l.invariant.0, below_more _ _ c.search.invariant.1 (sym (any_end _ _ _ c.loop-j-test.false l.invariant.1)))

pub returns-after-search : goal.returns-after-search
unfolding common_key
returns-after-search c =
    let passed = c.search in
    passed.invariant.0 ∙ any_end _ _ _ c.search-test.false passed.invariant.1

pub returns-then-a-i : goal.returns-then-a-i
unfolding common_key
returns-then-a-i c =
    any_below_lem _ _ c.search.i c.search-test.true (sym (any_below_lem _ _ c.loop-j.j c.loop-j-test.true (eq-eqb _ _ c.if-a-i.true)))
