use lib.ListN.{take, length-set}
use lib.Seq.{take_all}
use mathlib.Core.Path.{◌≡◌, refl}
use native.Mathlib.Omega.{arith}
use Rattle.laws.specs.ByteLaws.{length_words}
use Rattle.laws.specs.Bytes.{words_of}
use Rattle.laws.specs.Overlay.{overlay_none, overlay_copied}
use Rattle.words.proofs.read_words.Goals as goal

pub loop-i-init : goal.loop-i-init
loop-i-init c = (refl, overlay_none _)

pub loop-i-preserved : goal.loop-i-preserved
loop-i-preserved c =
    let l = c.loop-i in
    let b = c.args.b.now in
    let long = length_words b in
    let laid = overlay_copied c.args.ws.now (words_of b) l.ws l.i l.invariant.1 (omega (arith, long)) (omega (arith, c.requires)) in
    (simp length-set l.invariant.0, rw (← c.word_at.ensures) at laid)

pub returns : goal.returns
returns c =
    let s = words_of c.args.b.now in
    let e : take c.loop-i.i s ≡ s = take_all c.loop-i.i s (omega (arith, length_words c.args.b.now)) in
    rw e at c.loop-i.invariant.1
