-- What stands in the book is found at its place; that `half_seeing` has no commit there is demand 3.
use Rattle.played.proofs.Seen.{saw_both, later_committed, saw_half, none_committed}
use Rattle.played.proofs.half_seeing_did_not_commit.Goals as goal

pub returns : goal.returns
returns c = (saw_both, later_committed, saw_half, none_committed)
