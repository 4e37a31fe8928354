-- The test of every site, as the scan by index.
use borrow.Author.Tests.{tests}
use Rattle.std.proofs.Common.{ℕ, Bool, true, List, get_or, ltb, rules, refl}
use Rattle.numbers.proofs.Ranges.{all_over_range}
use Rattle.laws.specs.Choice.{pick}
use Rattle.kinds.specs.Sizes as sizes
use Rattle.rules.specs.Send.{is_recipient, counts_low}
use Rattle.messages.proofs.send.counts_low.Goals as goal

abbrev low : List ℕ → ℕ → ℕ → ℕ → Bool
low sent mask sender i = pick (is_recipient mask sender i) (ltb (get_or sent i 0) sizes.last) true

pub returns : goal.returns
unfolding counts_low
returns c =
    let a = c.args in
    all_over_range _ _ (low a.sent a.mask a.sender) sizes.sites _ refl c.all.ensures.ran
    (λ x q k. search (rules, tests))
    (λ x q k. search (rules, tests))
