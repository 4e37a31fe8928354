-- An array whose values are those from `at` on.
use Rattle.std.proofs.Common.{sym, ◌∙◌, arith}
use Rattle.kinds.specs.Sizes as sizes
use Rattle.kinds.specs.State.{fresh}
use Rattle.lent.specs.Rows.{rows_same, rows_read}
use Rattle.lent.specs.Layout.{values_from}
use Rattle.tables.proofs.sixteen_values.Goals as goal

pub returns : goal.returns
unfolding values_from
returns c =
    let l = c.loop-i in
    sym (rows_read l.r sizes.writes fresh l.invariant.0) ∙ rows_same _ _ sizes.writes (λ j h. l.invariant.1 j (omega arith))
