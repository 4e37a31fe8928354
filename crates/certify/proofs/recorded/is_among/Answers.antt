-- What the search of the first n answers.
use Rattle.std.proofs.Common.{◌≡◌, ℕ, ◌≤◌, Bool, List, length, take, eqb, ◌∙◌}
use Rattle.std.proofs.lemmas.List.{get_or-take, length-take-le}
use Rattle.std.specs.List.{IsAnyAnswer}
use Rattle.laws.proofs.Searches.{some_found}
use Rattle.certify.specs.Leaves.{among, any_same}
use Rattle.certify.proofs.recorded.is_among.Goals as goal

found : (txs : List ℕ) (n tx : ℕ) (r : Bool) → n ≤ length txs → IsAnyAnswer (λ y r. eqb y tx ≡ r) (take n txs) r → r ≡ among txs n tx
unfolding among
found txs n tx r few told =
    let long : length (take n txs) ≡ n = length-take-le n txs few in
    rw long at (some_found (λ y. eqb y tx) (take n txs) 0 r told) ∙ any_same _ _ n (λ i l. rw (get_or-take n txs i 0 l))

pub returns : goal.returns
returns c = found _ _ _ _ c.requires c.contains.ensures.cases
