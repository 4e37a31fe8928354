-- The slice from the place's first word to the next place's is the place's words.
use Prim.Native.Nat.{◌+◌, ◌-◌}
use lib.ListN.{drop, length-drop}
use lib.Seq.{length-take-le}
use mathlib.Core.Path.{◌≡◌}
use native.Mathlib.Omega.{arith}
use Rattle.rules.specs.Merger.{place_words}
use Rattle.kinds.specs.Sizes as sizes
use Rattle.queues.proofs.place.place_words.Goals as goal

pub returns : goal.returns
unfolding place_words
returns c =
    let q = c.args.queues.now in
    let a = c.place_at-at.result in
    let e : a + sizes.part - a ≡ sizes.part = omega arith in
    (rw e (length-take-le sizes.part (drop a q) (omega (arith, length-drop a q))), rw (e, c.place_at-at.ensures))
