use mathlib.Core.List.{◌++◌}
use mathlib.Core.Path.{◌≡◌, refl, ap, ◌∙◌}
use native.Mathlib.Omega.{arith}
use borrow.Author.Rules.{rules}
use lib.ListN.{length, length-append}
use Rattle.laws.specs.Overlay.{overlay_none, length_overlay, length_rest, behind}
use Rattle.kinds.specs.Sizes as sizes
use Rattle.rules.specs.Send.{words_to, messages_to}
use Rattle.rules.specs.SendLaws.{messages_none, messages_more, messages_fit}
use Rattle.messages.proofs.send.broadcast.Goals as goal

pub loop-i-init : goal.loop-i-init
loop-i-init c =
    let a = c.args in
    let e = messages_none a.h a.sent a.mask a.es.now in
    record { size = refl; written = rw e; laid = rw e (overlay_none a.out.now) }

pub write_to-at-requires : goal.write_to-at-requires
write_to-at-requires c =
    let a = c.args in
    let l = c.loop-i in
    let p = c.requires in
    let from = p.outgoing_in_bounds.1 in
    let room = messages_fit a.h a.sent a.mask a.es.now p.es_len.0 p.es_len.1 l.i from.0 from.1 c.loop-i-test.true in
    record { i_lt_sites = (search rules, omega (arith, length_rest l.out l.at)); counts_low = p.counts_low; es_len = p.es_len }

pub loop-i-preserved : goal.loop-i-preserved
loop-i-preserved c =
    let a = c.args in
    let l = c.loop-i in
    let p = c.requires in
    let from = p.outgoing_in_bounds.1 in
    let room = messages_fit a.h a.sent a.mask a.es.now p.es_len.0 p.es_len.1 l.i from.0 from.1 c.loop-i-test.true in
    let k = c.write_to-at in
    let ws = messages_to a.h a.sent a.mask a.es.now l.i in
    let w = words_to a.h a.sent a.mask a.es.now l.i in
    let m = messages_more a.h a.sent a.mask a.es.now l.i in
    let e = behind a.out.now ws w l.out k.new.out l.at l.invariant.written (omega arith) l.invariant.laid k.ensures.1 in
    let n = length-append ws w in
    record { size = ap length e ∙ length_overlay a.out.now (ws ++ w) (omega arith); written = rw m (omega arith); laid = rw m e }

pub shape_of-out : goal.shape_of-out
shape_of-out c = c.loop-i.invariant.size

pub returns : goal.returns
returns c =
    let e : c.loop-i.i ≡ sizes.sites = omega arith in
    rw (← e) (c.loop-i.invariant.written, c.loop-i.invariant.laid)
