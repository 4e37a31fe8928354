-- A part that passed has a header to read.
use mathlib.Core.Path.{◌∙◌, sym}
use native.Mathlib.Omega.{arith}
use Rattle.rules.specs.MergerClear.{part_long}
use Rattle.queues.proofs.possible.queued_ok.Goals as goal

pub bounds-m-2 : goal.bounds-m-2
bounds-m-2 c = omega (arith, part_long _ _ (sym c.part_ok.ensures ∙ c.if-part_ok.true))
