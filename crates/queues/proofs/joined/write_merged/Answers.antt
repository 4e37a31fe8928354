-- The joined words are read back from the array and written behind the header.
use lib.Seq.{length-take-le}
use mathlib.Core.Path.{sym}
use native.Mathlib.Omega.{arith}
use Rattle.rules.specs.Merger.{merged_words}
use Rattle.rules.specs.MergerWords.{front_back, joined_writes_lem}
use Rattle.queues.proofs.joined.write_merged.Goals as goal

pub slice_bounds-ws-end : goal.slice_bounds-ws-end
slice_bounds-ws-end c =
    let j = c.join_writes-k in
    (front_back _ _ _ _ j.ensures.value j.ensures.out_after).0

pub slice_bounds-write_record-end : goal.slice_bounds-write_record-end
slice_bounds-write_record-end c =
    let j = c.join_writes-k in
    sym (length-take-le j.result j.new.out (front_back _ _ _ _ j.ensures.value j.ensures.out_after).0)

pub write_record-requires : goal.write_record-requires
write_record-requires c =
    let j = c.join_writes-k in
    let a = c.args in
    let w = joined_writes_lem a.queues.now a.r.mask a.n c.requires.heads_fit in
    let n = length-take-le j.result j.new.out (front_back _ _ _ _ j.ensures.value j.ensures.out_after).0 in
    (omega arith, (omega arith, omega arith))

pub returns : goal.returns
unfolding merged_words
returns c =
    let j = c.join_writes-k in
    let w = rw ((front_back _ _ _ _ j.ensures.value j.ensures.out_after).1, j.ensures.value) at c.write_record.ensures in
    record { value = w.0; out_after = w.1 }
