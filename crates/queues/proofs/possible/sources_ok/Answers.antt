-- The test of every site, as the scan by index.
use borrow.Author.Tests.{tests}
use Rattle.std.proofs.Common.{ℕ, Bool, rules, refl}
use Rattle.numbers.proofs.Ranges.{all_over_range}
use Rattle.kinds.specs.Sizes as sizes
use Rattle.rules.specs.Merger.{source_at, source_ok}
use Rattle.queues.proofs.possible.sources_ok.Goals as goal

pub returns : goal.returns
returns c =
    let a = c.args in
    let test : ℕ → Bool = λ i. source_ok a.g.house a.queues.now (source_at a.g i) i in
    all_over_range _ _ test sizes.sites _ refl c.all.ensures.ran
    (λ x q k. search (rules, tests))
    (λ x q k. search (rules, tests))
