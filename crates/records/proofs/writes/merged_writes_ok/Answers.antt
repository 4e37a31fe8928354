-- The test of every write, as the scan by index.
use borrow.Author.Tests.{tests}
use Rattle.std.proofs.Common.{rules, refl}
use Rattle.numbers.proofs.Ranges.{all_over_range}
use Rattle.rules.specs.Record.{merged_write_ok}
use Rattle.records.proofs.writes.merged_writes_ok.Goals as goal

pub returns : goal.returns
unfolding merged_write_ok
returns c =
    let a = c.args in
    all_over_range _ _ (merged_write_ok a.ws.now) a.n _ refl c.all.ensures.ran
    (λ x q k. search (rules, tests))
    (λ x q k. search (rules, tests))
