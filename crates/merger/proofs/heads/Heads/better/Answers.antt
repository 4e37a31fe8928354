-- Each return is a case of the definition.
use Rattle.std.proofs.Common.{◌<◌, sym, ◌∙◌, lt-ltb}
use Rattle.kinds.specs.Sizes as sizes
use Rattle.rules.specs.Merger.{better_head}
use Rattle.merger.proofs.heads.Heads.better.Goals as goal

pub returns-then-not-has_head-clause-better : goal.returns-then-not-has_head-clause-better
unfolding better_head
returns-then-not-has_head-clause-better c = simp (sym c.has_head.ensures ∙ c.if-not-has_head.true)

pub returns-in_default-clause-better : goal.returns-in_default-clause-better
unfolding better_head
returns-in_default-clause-better c = rw c.in_default.is (simp (sym c.has_head.ensures ∙ c.if-not-has_head.false))

pub returns-then-precedes-clause-better : goal.returns-then-precedes-clause-better
unfolding better_head
returns-then-precedes-clause-better c =
    let low : c.in-Some.k < sizes.sites = rw c.in-Some.is at c.requires.best_lt_sites in
    rw c.in-Some.is
    (simp (sym c.has_head.ensures ∙ c.if-not-has_head.false, lt-ltb _ _ low, sym c.precedes.ensures ∙ c.if-precedes.true))

pub returns-else-precedes-clause-better : goal.returns-else-precedes-clause-better
unfolding better_head
returns-else-precedes-clause-better c =
    let low : c.in-Some.k < sizes.sites = rw c.in-Some.is at c.requires.best_lt_sites in
    rw c.in-Some.is
    (simp (sym c.has_head.ensures ∙ c.if-not-has_head.false, lt-ltb _ _ low, sym c.precedes.ensures ∙ c.if-precedes.false))
