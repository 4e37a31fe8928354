-- The length is the place's first word, and is at most the place's.
use Prim.Native.Nat.{◌≤◌}
use lib.ListN.{get_or}
use lib.Seq.{length-take-le}
use mathlib.Core.Path.{sym}
use native.Mathlib.Omega.{arith}
use Rattle.rules.specs.Merger.{queued_part}
use Rattle.kinds.specs.Sizes as sizes
use Rattle.kinds.specs.Word as word
use Rattle.queues.proofs.place.queued_part.Goals as goal

pub slice_bounds-result-end : goal.slice_bounds-result-end
slice_bounds-result-end c =
    let w = c.place_words-place in
    let h : get_or w.result.now word.length 0 ≤ sizes.part = rw w.ensures.1 c.requires.length_bound in
    sym (length-take-le (get_or w.result.now word.length 0) w.result.now (omega arith))

pub returns : goal.returns
unfolding queued_part
returns c = rw c.place_words-place.ensures.1
