-- Demand 3, proved: any lawful list from a fresh house leads to a machine whose tables the book has, and so to the claims.
use Rattle.rules.specs.Claim.{Demand3}
use Rattle.rules.proofs.Demand.Stands.{list_stands}
use Rattle.rules.proofs.Book.BookReplays.{book_replays}
use Rattle.rules.proofs.Demand.Demand.{holds}

pub demand3 : Demand3
unfolding Demand3
demand3 house calls good lawful =
    let x = list_stands (λ w v. Unit {0}) good.few (λ w v u c h i z ss e j m. tt) good tt calls lawful in
    holds good x.standing x.is x.booked (book_replays house calls)
