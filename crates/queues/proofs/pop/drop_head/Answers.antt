-- The places moved up, and 0 over the last.
use Prim.Native.Nat.{◌+◌, ◌-◌}
use lib.ListN.{drop, length, length-drop}
use lib.Seq.{take_all}
use mathlib.Core.Path.{◌≡◌, ◌∙◌}
use native.Mathlib.Omega.{arith}
use Rattle.laws.specs.Overlay.{overlay}
use Rattle.rules.specs.MergerWords.{head_dropped}
use Rattle.kinds.specs.Sizes as sizes
use Rattle.queues.proofs.pop.drop_head.Goals as goal

pub returns : goal.returns
unfolding overlay
returns c =
    let d = c.args.ws.now in
    let moved = c.copy_within in
    let n : length (drop sizes.part d) ≡ length d - sizes.part = length-drop sizes.part d in
    let all = take_all (length d - sizes.part) (drop sizes.part d) (omega arith) in
    let z : 0 + (length d - sizes.part) ≡ length d - sizes.part = omega arith in
    let up : moved.new.self ≡ overlay d (drop sizes.part d) = moved.ensures.after ∙ rw (all, n, z) in
    head_dropped d moved.new.self c.fill_words.new.out (sizes.site_queue - sizes.part) c.requires up (omega arith) c.fill_words.ensures
