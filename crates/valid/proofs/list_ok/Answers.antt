-- A free place has no list; a held one has so many entries.
use Rattle.std.proofs.Common.{rules}
use borrow.Author.Tests.{eq-eqb, ne_eqb}
use Rattle.valid.proofs.list_ok.Goals as goal

pub returns-then-stage-eq-FREE : goal.returns-then-stage-eq-FREE
returns-then-stage-eq-FREE c = simp (eq-eqb _ _ c.if-stage-eq-FREE.true)

pub returns-else-stage-eq-FREE : goal.returns-else-stage-eq-FREE
returns-else-stage-eq-FREE c = search (ne_eqb, ← c.entries_possible.ensures, rules)
