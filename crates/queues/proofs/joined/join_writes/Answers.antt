use Prim.Native.Nat.{ℕ, ◌*◌, ◌+◌, ◌≤◌, ◌<◌}
use borrow.Author.Rules.{rules}
use lib.ListN.{length, length-append}
use mathlib.Core.List.{◌++◌, List}
use mathlib.Core.Path.{◌∙◌, ◌≡◌, ap, refl}
use native.Mathlib.Omega.{arith}
use Rattle.laws.specs.Overlay.{behind, length_overlay, length_rest, overlay_none}
use Rattle.laws.specs.Scan.{fold_below}
use Rattle.rules.specs.Merger.{joined_writes, part_writes}
use Rattle.rules.specs.MergerWords.{HeadsFit, head_fits, heads_fewer, joined_more, joined_writes_lem, part_writes_lem}
use Rattle.kinds.specs.Sizes as sizes
use Rattle.queues.proofs.joined.join_writes.Goals as goal

-- behind the writes of the first i sites there is room for those of one more
room : (queues : List ℕ) (mask n i : ℕ) → HeadsFit queues mask n → n ≤ sizes.sites → i < n
    → length (joined_writes queues mask i) + sizes.write * sizes.writes ≤ sizes.write * sizes.merged_writes
room queues mask n i fit few low = let w = joined_writes_lem queues mask i (heads_fewer _ _ n _ fit (omega arith)) in omega arith

pub loop-i-init : goal.loop-i-init
unfolding joined_writes fold_below
loop-i-init c = record { size = refl; written = refl; laid = overlay_none _ }

pub offset_bounds-out-at : goal.offset_bounds-out-at
offset_bounds-out-at c =
    let a = c.args in
    let r = room a.queues.now a.mask a.n c.loop-i.i c.requires.heads_fit (omega arith) (omega arith) in
    omega arith

pub slice_bounds-copy_writes-count : goal.slice_bounds-copy_writes-count
slice_bounds-copy_writes-count c =
    let a = c.args in
    let r = room a.queues.now a.mask a.n c.loop-i.i c.requires.heads_fit (omega arith) (omega arith) in
    omega arith

pub slice_bounds-copy_writes-start : goal.slice_bounds-copy_writes-start
slice_bounds-copy_writes-start c =
    let a = c.args in
    let r = room a.queues.now a.mask a.n c.loop-i.i c.requires.heads_fit (omega arith) (omega arith) in
    omega arith

pub copy_writes-at-requires : goal.copy_writes-at-requires
copy_writes-at-requires c =
    let a = c.args in
    let l = c.loop-i in
    let fit = c.requires.heads_fit in
    let low : l.i < a.n = omega arith in
    let r = room a.queues.now a.mask a.n l.i fit (omega arith) low in
    record {
      queues_len = search rules;
      i_lt_sites = (omega arith, omega (arith, length_rest l.out l.at));
      head_fits = head_fits _ _ _ _ fit low;
    }

pub overflow_add-at : goal.overflow_add-at
overflow_add-at c =
    let a = c.args in
    let r = room a.queues.now a.mask a.n c.loop-i.i c.requires.heads_fit (omega arith) (omega arith) in
    let p = part_writes_lem _ _ _ (head_fits a.queues.now a.mask a.n c.loop-i.i c.requires.heads_fit (omega arith)) in
    omega arith

pub loop-i-preserved : goal.loop-i-preserved
loop-i-preserved c =
    let a = c.args in
    let l = c.loop-i in
    let next = c.copy_writes-at in
    let fit = c.requires.heads_fit in
    let low : l.i < a.n = omega arith in
    let ws = joined_writes a.queues.now a.mask l.i in
    let w = part_writes a.queues.now a.mask l.i in
    let m = joined_more a.queues.now a.mask l.i in
    let p = part_writes_lem a.queues.now a.mask l.i (head_fits _ _ _ _ fit low) in
    let r = room a.queues.now a.mask a.n l.i fit (omega arith) low in
    let e = behind a.out.now ws w l.out next.new.out l.at l.invariant.written (omega arith) l.invariant.laid next.ensures.out_after in
    let n = length-append ws w in
    record { size = ap length e ∙ length_overlay a.out.now (ws ++ w) (omega arith); written = rw m (omega arith); laid = rw m e }

pub shape_of-out : goal.shape_of-out
shape_of-out c = c.loop-i.invariant.size

pub returns : goal.returns
returns c =
    let e : c.loop-i.i ≡ c.args.n = omega arith in
    record { value = rw (← e) c.loop-i.invariant.written; out_after = rw (← e) c.loop-i.invariant.laid }
