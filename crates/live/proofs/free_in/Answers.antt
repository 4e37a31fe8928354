-- The first seat that is free.
use borrow.Author.Tests.{tests}
use Rattle.std.proofs.Common.{◌≡◌, Bool, true, false, eqb, rules}
use Rattle.std.proofs.lemmas.Iterator.{IsFirst-from_position, YieldsList-from_slice}
use Rattle.laws.proofs.Searches.{first_found}
use Rattle.kinds.specs.declared.Seat.{Seat}
use Rattle.kinds.specs.Stage as stages
use Rattle.kinds.specs.State.{past_seat}
use Rattle.lent.specs.Seats.{free_in}
use Rattle.live.proofs.free_in.Goals as goal

abbrev is_free : Seat → Bool
is_free a = eqb a.stage stages.free

pub returns-clause-first : goal.returns-clause-first
unfolding free_in
returns-clause-first c =
    first_found is_free _ past_seat _
    (IsFirst-from_position _ _ _ (λ a. is_free a ≡ true) (λ a. is_free a ≡ false) c.position.ensures.ran
    (YieldsList-from_slice c.args.seats.now cc)
    (λ x q k. search (rules, tests))
    (λ x q k. search (rules, tests)))
