-- The first seat that has the part.
use borrow.Author.Tests.{tests}
use Rattle.std.proofs.Common.{◌≡◌, true, false, rules}
use Rattle.std.proofs.lemmas.Iterator.{IsFirst-from_position, YieldsList-from_slice}
use Rattle.laws.proofs.Searches.{first_found}
use Rattle.kinds.specs.State.{past_seat}
use Rattle.lent.specs.Seats.{is_seat_of, place_in}
use Rattle.live.proofs.place_in.Goals as goal

pub returns-clause-first : goal.returns-clause-first
unfolding place_in
returns-clause-first c =
    let tx = c.args.tx in
    first_found (λ a. is_seat_of a tx) _ past_seat _
    (IsFirst-from_position _ _ _ (λ a. is_seat_of a tx ≡ true) (λ a. is_seat_of a tx ≡ false) c.position.ensures.ran
    (YieldsList-from_slice c.args.seats.now cc)
    (λ x q k. search (rules, tests))
    (λ x q k. search (rules, tests)))
