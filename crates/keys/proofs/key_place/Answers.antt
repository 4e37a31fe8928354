-- The first of the first n keys that is the key.
use borrow.Author.Tests.{tests}
use Rattle.std.proofs.Common.{◌≡◌, take, true, false, eqb, rules}
use Rattle.std.proofs.lemmas.Iterator.{IsFirst-from_position, YieldsList-from_slice}
use Rattle.laws.proofs.Searches.{first_found}
use Rattle.keys.proofs.Places.{first_taken}
use Rattle.keys.proofs.key_place.Goals as goal

pub returns-clause-first : goal.returns-clause-first
returns-clause-first c =
    let k = c.args.k in
    let n = c.args.n in
    first_taken c.args.keys.now n k c.position.result c.requires
    (first_found (λ x. eqb x k) (take n c.args.keys.now) 0 _
    (IsFirst-from_position _ _ _ (λ x. eqb x k ≡ true) (λ x. eqb x k ≡ false) c.position.ensures.ran
    (YieldsList-from_slice (take n c.args.keys.now) cc)
    (λ x q k. search (rules, tests))
    (λ x q k. search (rules, tests))))
