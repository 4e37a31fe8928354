-- The fields that change, and those that stay.
use Rattle.std.proofs.Common.{◌≡◌, ◌+◌, arith}
use Rattle.rules.specs.Course.{with_reply}
use Rattle.course.proofs.turn.with_heard.Goals as goal

pub returns : goal.returns
unfolding with_reply
returns c =
    let z : c.args.c.listed + 0 ≡ c.args.c.listed = omega arith in
    rw (c.mask_of.ensures, c.max.ensures, z)
