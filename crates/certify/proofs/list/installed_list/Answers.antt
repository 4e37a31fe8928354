-- The entry of an install is written behind those before it.
use Rattle.std.proofs.Common.{◌≡◌, ◌+◌, ◌*◌, ◌-◌, ◌≤◌, ◌++◌, length, length-append, refl, sym, ap, ◌∙◌, arith}
use Rattle.laws.specs.Overlay.{behind, length_overlay, length_rest, overlay_none}
use Rattle.kinds.specs.Sizes as sizes
use Rattle.rules.specs.Certify.{installed_list, installed_words}
use Rattle.rules.proofs.CertifyLaws.{installed_more, installed_none, length_installed}
use Rattle.rules.specs.History.{recall}
use Rattle.rules.specs.HistoryLaws.{remembered_few}
use Rattle.lent.specs.Layout.{history_of}
use Rattle.certify.specs.Asks.{recalled}
use Rattle.certify.proofs.list.installed_list.Goals as goal

pub overflow_sub-n : goal.overflow_sub-n
overflow_sub-n c = omega (arith, c.remembered.ensures, c.requires.early)

pub loop-i-init : goal.loop-i-init
loop-i-init c = (refl, rw installed_none (overlay_none _))

pub overflow_add-seen : goal.overflow_add-seen
overflow_add-seen c = omega (arith, c.remembered.ensures, remembered_few c.args.installs, c.requires.early)

pub recall_slot-slot-requires : goal.recall_slot-slot-requires
recall_slot-slot-requires c = omega (arith, c.remembered.ensures, remembered_few c.args.installs, c.requires.early)

pub overflow_mul-at : goal.overflow_mul-at
overflow_mul-at c = omega (arith, c.remembered.ensures, remembered_few c.args.installs)

pub offset_bounds-out-at : goal.offset_bounds-out-at
offset_bounds-out-at c = omega (arith, c.remembered.ensures, remembered_few c.args.installs)

pub slice_bounds-write_installed-count : goal.slice_bounds-write_installed-count
slice_bounds-write_installed-count c = omega (arith, c.remembered.ensures, remembered_few c.args.installs, c.requires.room)

pub slice_bounds-write_installed-start : goal.slice_bounds-write_installed-start
slice_bounds-write_installed-start c = omega (arith, c.remembered.ensures, remembered_few c.args.installs, c.requires.room)

pub write_installed-requires : goal.write_installed-requires
write_installed-requires c =
    let l = c.loop-i in
    let pre = c.requires in
    let few = remembered_few c.args.installs in
    record {
      room = omega (arith, c.remembered.ensures, few, pre.room, length_rest l.out (sizes.entry * l.i));
      few_own = pre.few_own;
      other = pre.slots c.recall_slot-slot.result (omega (arith, c.recall_slot-slot.ensures));
    }

pub loop-i-preserved : goal.loop-i-preserved
unfolding installed_words
loop-i-preserved c =
    let l = c.loop-i in
    let a = c.args in
    let past = history_of a.history.now in
    let slot = c.recall_slot-slot in
    let words = ap (installed_words a.own) (recalled a.history.now a.installs (a.seen + l.i) slot.result slot.ensures) in
    let ws = installed_list past a.installs a.own a.seen l.i in
    let w = installed_words a.own (recall past a.installs (a.seen + l.i)) in
    let m = installed_more past a.installs a.own a.seen l.i in
    let k = length_installed past a.installs a.own a.seen l.i in
    let few : c.remembered.result ≤ sizes.history = omega (arith, c.remembered.ensures, remembered_few a.installs) in
    let room = c.requires.room in
    let are = rw words at c.write_installed.ensures in
    let h = behind a.out.now ws w l.out c.write_installed.new.out (sizes.entry * l.i) (sym k) (omega arith) l.invariant.1 are in
    let long = length-append ws w in
    (ap length h ∙ length_overlay a.out.now (ws ++ w) (omega (arith, long)), rw m h)

pub returns : goal.returns
returns c =
    let l = c.loop-i in
    let q : l.i ≡ c.remembered.result - c.args.seen = omega arith in
    record { value = rw c.remembered.ensures; out_after = rw (← q) l.invariant.1 }
