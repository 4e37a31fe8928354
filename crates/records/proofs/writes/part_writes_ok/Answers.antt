-- The test of every write, as the scan by index; a write is asked by the range what the rule asks by the table.
use borrow.Author.Tests.{tests}
use Rattle.std.proofs.Common.{ℕ, ◌≡◌, ◌∙◌, zero, suc, List, [], ◌∷◌, Bool, rules, refl}
use Rattle.numbers.proofs.Ranges.{all_over_range}
use Rattle.laws.specs.Choice.{every}
use Rattle.laws.specs.Scan.{all_below}
use Rattle.kinds.specs.declared.House.{House}
use Rattle.rules.specs.House.{first_key, end_key, in_range, within}
use Rattle.rules.specs.Value.{fits}
use Rattle.rules.specs.ValidLaws.{ValidHouse}
use Rattle.rules.specs.Record.{write_key, write_value, key_ascends, part_write_ok}
use Rattle.records.proofs.writes.part_writes_ok.Goals as goal

abbrev write_in : ℕ → ℕ → List ℕ → ℕ → Bool
write_in first end ws i = every (key_ascends ws i ∷ within first end (write_key ws i) ∷ fits (write_value ws i) ∷ [])

same_write : (o : House) (site first end : ℕ) (ws : List ℕ) (i : ℕ) → first ≡ first_key o site → end ≡ end_key o site → ValidHouse o site
    → write_in first end ws i ≡ part_write_ok o site ws i
unfolding part_write_ok in_range
same_write o site first end ws i a b v = rw (a, b, v.range (write_key ws i))

all_same : (t u : ℕ → Bool) (n : ℕ) → ((i : ℕ) → t i ≡ u i) → all_below t n ≡ all_below u n
unfolding all_below
all_same t u zero e = refl
all_same t u (suc n) e = rw (e n, all_same t u n e)

pub returns : goal.returns
returns c =
    let a = c.args in
    let first = c.first_key-first in
    let end = c.end_key-end in
    let test = write_in first.result end.result a.ws.now in
    all_over_range _ _ test a.n _ refl c.all.ensures.ran
    (λ x q k. search (rules, tests))
    (λ x q k. search (rules, tests))
    ∙ all_same _ _ a.n (λ i. same_write a.o a.site _ _ a.ws.now i first.ensures end.ensures c.requires.valid_house)
