-- Sixteen seats have the places of the live table, whatever its words are.
use mathlib.Core.Path.{◌≡◌, ◌∙◌}
use lib.ListN.{length}
use Rattle.std.proofs.Common.{rules}
use Rattle.kinds.specs.Sizes as sizes
use Rattle.lent.specs.Seats.{free_in_seats}
use Rattle.live.proofs.free_place.Goals as goal

pub returns : goal.returns
returns c =
    let sixteen : length c.args.seats ≡ sizes.live = search rules in
    record {
      first = λ w. rw sixteen at c.free_in.ensures.first ∙ free_in_seats c.args.seats w sixteen;
      bound = rw sixteen at c.free_in.ensures.bound;
    }
