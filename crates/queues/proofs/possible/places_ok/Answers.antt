-- The test of every place, as the scan by index.
use borrow.Author.Tests.{tests}
use Rattle.std.proofs.Common.{rules, refl}
use Rattle.numbers.proofs.Ranges.{all_over_range}
use Rattle.rules.specs.Merger.{queued_ok}
use Rattle.queues.proofs.possible.places_ok.Goals as goal

pub returns : goal.returns
returns c =
    let a = c.args in
    let test = queued_ok a.o a.queues.now a.i in
    all_over_range _ _ test a.n _ refl c.all.ensures.ran
    (λ x q k. search (rules, tests))
    (λ x q k. search (rules, tests))
