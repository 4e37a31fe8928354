-- Where the check finds no cause, the pair is set and the record's writes are laid over the values.
use lib.ListN.{length-set}
use mathlib.Core.Path.{◌∙◌, ap, refl, sym}
use native.Mathlib.Omega.{arith}
use Rattle.kinds.specs.declared.RecordHead.{RecordHead}
use Rattle.laws.specs.Overlay.{length_rest, rest_is}
use Rattle.rules.specs.Copy.{replay_of, replayed}
use Rattle.rules.specs.CopyLaws.{replay_ready}
use Rattle.rules.specs.Record.{record_writes}
use Rattle.kinds.specs.Sizes as sizes
use Rattle.copy.proofs.replay.Goals as goal

pub bounds-copy-0 : goal.bounds-copy-0
bounds-copy-0 c = let k = replay_ready c.args.copy.now c.args.m.now (sym c.in-Ok.ensures.refusal) in omega arith

pub bounds-copy-1 : goal.bounds-copy-1
bounds-copy-1 c = let k = replay_ready c.args.copy.now c.args.m.now (sym c.in-Ok.ensures.refusal) in simp length-set (omega arith)

pub slice_bounds-put_writes-count : goal.slice_bounds-put_writes-count
slice_bounds-put_writes-count c =
    let k = replay_ready c.args.copy.now c.args.m.now (sym c.in-Ok.ensures.refusal) in
    omega (arith, k.merged.long)

pub slice_bounds-put_writes-start : goal.slice_bounds-put_writes-start
slice_bounds-put_writes-start c =
    let k = replay_ready c.args.copy.now c.args.m.now (sym c.in-Ok.ensures.refusal) in
    omega (arith, k.merged.long)

pub put_writes-requires : goal.put_writes-requires
unfolding record_writes
put_writes-requires c =
    let m = c.args.m.now in
    let k = replay_ready c.args.copy.now m (sym c.in-Ok.ensures.refusal) in
    let n = ap (λ (r : RecordHead). r.count) c.in-Ok.ensures.head in
    record {
      copy_len = simp length-set k.size;
      n_le_merged_writes = (omega (arith, n, k.merged.few), omega (arith, n, k.merged.fits, length_rest m sizes.record_header));
      by_index = λ i h. rw rest_is (k.merged.keys i (omega (arith, n)));
    }

pub shape_of-copy : goal.shape_of-copy
shape_of-copy c = rw (length-set, length-set) at c.put_writes.auto.copy

pub returns : goal.returns
unfolding replay_of replayed record_writes
returns c =
    rw (← c.in-Ok.ensures.refusal, ← c.in-Ok.ensures.head)
    (record { value = refl; copy_after = c.put_writes.ensures ∙ rw rest_is })
