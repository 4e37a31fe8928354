-- The entry of a place is written behind those before it.
use Rattle.std.proofs.Common.{◌≡◌, ◌*◌, ◌++◌, length, length-append, refl, sym, ap, ◌∙◌, arith}
use Rattle.laws.specs.Overlay.{behind, length_overlay, length_rest, overlay_none}
use Rattle.kinds.specs.Sizes as sizes
use Rattle.rules.specs.Certify.{prepared_list, prepared_words}
use Rattle.rules.proofs.CertifyLaws.{prepared_more, prepared_none}
use Rattle.rules.specs.Live.{part_at}
use Rattle.lent.specs.Layout.{live_of}
use Rattle.certify.specs.Asks.{prepared_at}
use Rattle.certify.proofs.list.prepared_list.Goals as goal

pub keys_at-own-requires : goal.keys_at-own-requires
keys_at-own-requires c = (c.requires.parts c.args.place c.requires.low).lie

pub loop-i-init : goal.loop-i-init
loop-i-init c = (omega arith, refl, record { long = rw prepared_none; are = rw prepared_none (overlay_none _) })

pub slice_bounds-write_prepared-start : goal.slice_bounds-write_prepared-start
slice_bounds-write_prepared-start c = omega (arith, c.requires.room)

pub write_prepared-n-requires : goal.write_prepared-n-requires
write_prepared-n-requires c =
    let l = c.loop-i in
    let pre = c.requires in
    let own = pre.parts c.args.place pre.low in
    record {
      room = omega (arith, pre.room, length_rest l.out (sizes.entry * l.n));
      few_own = rw c.keys_at-own.ensures own.few;
      other = pre.parts l.i c.loop-i-test.true;
    }

pub loop-i-preserved : goal.loop-i-preserved
loop-i-preserved c =
    let l = c.loop-i in
    let a = c.args in
    let live = live_of a.seats a.live.now in
    let own = c.keys_at-own in
    let words = prepared_at a.seats a.live.now a.place l.i own.result own.ensures c.requires.low c.loop-i-test.true in
    let ws = prepared_list live a.place l.i in
    let w = prepared_words a.place (part_at live a.place).keys l.i (part_at live l.i) in
    let e = c.write_prepared-n.ensures in
    let long = rw words at e.fact.long in
    let are = rw words at e.fact.are in
    let m = prepared_more live a.place l.i in
    let n = ap length m ∙ length-append ws w in
    let (few, size, was) = l.invariant in
    let room = c.requires.room in
    let h = behind a.out.now ws w l.out c.write_prepared-n.new.out (sizes.entry * l.n) (sym was.long) (omega arith) was.are are in
    let kept = ap length h ∙ length_overlay a.out.now (ws ++ w) (omega (arith, length-append ws w)) in
    (omega arith, kept, record { long = omega arith; are = rw m h })

pub returns : goal.returns
returns c =
    let l = c.loop-i in
    let q : l.i ≡ sizes.live = omega arith in
    rw (← q) l.invariant.2
