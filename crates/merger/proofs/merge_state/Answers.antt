-- Refused below the last state, else the state is kept.
use borrow.Author.Tests.{le-ltb, lt-ltb}
use mathlib.Core.Path.{ap}
use native.Mathlib.Omega.{arith}
use Rattle.kinds.specs.declared.RecordHead.{RecordHead}
use Rattle.rules.specs.Merger.{merge_state, merge_state_code, merger_out_of}
use Rattle.merger.proofs.merge_state.Goals as goal

pub overflow_sub-i : goal.overflow_sub-i
overflow_sub-i c = omega (arith, ap (λ (r : RecordHead). r.site) c.read_record-r.ensures, c.requires.low)

pub offset_bounds-g-i : goal.offset_bounds-g-i
offset_bounds-g-i c = omega (arith, ap (λ (r : RecordHead). r.site) c.read_record-r.ensures, c.requires.high)

pub bounds-g-i : goal.bounds-g-i
bounds-g-i c = omega (arith, ap (λ (r : RecordHead). r.site) c.read_record-r.ensures, c.requires.high)

pub returns-then-r-c : goal.returns-then-r-c
unfolding merge_state merge_state_code merger_out_of
returns-then-r-c c = rw (← c.read_record-r.ensures, lt-ltb _ _ c.if-r-c.true) c.refused.ensures

pub with_source-requires : goal.with_source-requires
with_source-requires c =
    let read-record = c.read_record-r in
    let pre = c.requires in
    omega (arith, ap (λ (r : RecordHead). r.site) read-record.ensures, pre.high)

pub returns : goal.returns
unfolding merge_state merge_state_code merger_out_of
returns c =
    let if1 = c.if-r-c in
    let read-record = c.read_record-r in
    rw (← read-record.ensures, le-ltb _ _ if1.false) c.with_source.ensures
