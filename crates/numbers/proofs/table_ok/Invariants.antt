-- The first keys passed are a good table, and a first key that makes a bad one ends the loop.
use Rattle.rules.specs.House.{GoodTable}
use Rattle.numbers.proofs.table_ok.Given as goal

abbrev pub invariant-loop-i : goal.invariant-loop-i
invariant-loop-i l = GoodTable l.i l.t
