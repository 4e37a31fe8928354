use borrow.Author.Rules.{rules}
use lib.ListN.{length, take, get_or}
use lib.Seq.{take_all, length-take-le}
use mathlib.Core.Path.{◌≡◌, refl, sym, ◌∙◌}
use native.Mathlib.Numerals.{add-one}
use native.Mathlib.Omega.{arith}
use Prim.Native.Nat.{◌+◌, ◌*◌, ◌≤◌}
use Rattle.laws.specs.ByteLaws.{bytes_more, length_bytes}
use Rattle.laws.specs.Bytes.{bytes_of, word_bytes}
use Rattle.laws.specs.Overlay.{overlay_none, overlay_all, behind, length_rest}
use Rattle.words.proofs.write_words.Goals as goal

pub loop-i-init : goal.loop-i-init
unfolding bytes_of
loop-i-init c = (refl, overlay_none _)

pub put_word-requires : goal.put_word-requires
put_word-requires c = rw (length_rest c.loop-i.b (8 * c.loop-i.i)) (omega (arith, c.requires))

pub loop-i-preserved : goal.loop-i-preserved
loop-i-preserved c =
    let l = c.loop-i in
    let b = c.args.b.now in
    let ws = c.args.ws.now in
    let n : length (bytes_of (take l.i ws)) ≡ 8 * l.i = omega (arith, length_bytes (take l.i ws), length-take-le l.i ws (omega arith)) in
    let word = word_bytes (get_or ws l.i 0) in
    let laid = l.invariant.1 in
    let fits : 8 * l.i + 8 ≤ length b = omega (arith, c.requires) in
    let p = c.put_word in
    let e = behind b (bytes_of (take l.i ws)) word l.b p.new.b (8 * l.i) (sym n) fits laid p.ensures in
    (search rules, rw (add-one l.i, bytes_more ws l.i (omega arith)) e)

pub returns : goal.returns
returns c =
    let ws = c.args.ws.now in
    let e : take c.loop-i.i ws ≡ ws = take_all c.loop-i.i ws (omega arith) in
    let laid = rw e at c.loop-i.invariant.1 in
    laid ∙ overlay_all c.args.b.now (bytes_of ws) (c.requires ∙ sym (length_bytes ws))
