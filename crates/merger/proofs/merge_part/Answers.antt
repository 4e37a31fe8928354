-- Refused by the code, else the part is laid into the place behind the queue, which is free.
use Rattle.std.proofs.Common.{◌≡◌, ℕ, ◌+◌, ◌-◌, ◌≤◌, refl, sym, ap, ◌∙◌, arith}
use Rattle.kinds.specs.declared.RecordHead.{RecordHead}
use Rattle.kinds.specs.declared.Source.{Source}
use Rattle.laws.specs.Overlay.{length_rest, put_part, put_at}
use Rattle.rules.specs.Merger.{merge_part, merge_part_code, merger_out_of, place_at}
use Rattle.rules.specs.MergerClear.{part_taken}
use Rattle.kinds.specs.Sizes as sizes
use Rattle.merger.proofs.Causes.{refused_by, passed_by}
use Rattle.merger.proofs.merge_part.Goals as goal

-- the place behind the queue of a part's site is one of the queues' places
placed : (at : ℕ) (c : Source) (r s : RecordHead) → 0 ≡ merge_part_code c r → r ≡ s → s.site ≤ sizes.sites → 1 ≤ s.site
    → at ≡ place_at (r.site - 1) c.queued → at + sizes.part ≤ sizes.queues
placed at c r s code e high low is =
    let k = part_taken c r (sym code) in
    omega (arith, k.room, ap (λ (x : RecordHead). x.site) e, is)

pub overflow_sub-i : goal.overflow_sub-i
overflow_sub-i c = omega (arith, ap (λ (r : RecordHead). r.site) c.read_record-r.ensures, c.requires.state.low)

pub offset_bounds-g-i : goal.offset_bounds-g-i
offset_bounds-g-i c = omega (arith, ap (λ (r : RecordHead). r.site) c.read_record-r.ensures, c.requires.state.high)

pub bounds-g-i : goal.bounds-g-i
bounds-g-i c = omega (arith, ap (λ (r : RecordHead). r.site) c.read_record-r.ensures, c.requires.state.high)

pub returns-in-Err : goal.returns-in-Err
unfolding merge_part merger_out_of
returns-in-Err c =
    let code = c.in-Err.ensures in
    rw (← c.read_record-r.ensures, refused_by c.in-Err.cause _ code)
    (record { value = rw code at c.refused.ensures; queues_after = refl })

pub place_at-at-requires : goal.place_at-at-requires
place_at-at-requires c =
    let k = part_taken _ _ (sym c.in_default.ensures) in
    (omega (arith, ap (λ (r : RecordHead). r.site) c.read_record-r.ensures, c.requires.state.high), k.room)

pub offset_bounds-queues-at : goal.offset_bounds-queues-at
offset_bounds-queues-at c =
    let state = c.requires.state in
    let here =
    placed _ _ _ _ c.in_default.ensures c.read_record-r.ensures state.high state.low c.place_at-at.ensures in
    omega (arith, here)

pub slice_bounds-copy_words-count : goal.slice_bounds-copy_words-count
slice_bounds-copy_words-count c =
    let state = c.requires.state in
    let here =
    placed _ _ _ _ c.in_default.ensures c.read_record-r.ensures state.high state.low c.place_at-at.ensures in
    omega (arith, here, c.requires.size)

pub slice_bounds-copy_words-start : goal.slice_bounds-copy_words-start
slice_bounds-copy_words-start c =
    let state = c.requires.state in
    let here =
    placed _ _ _ _ c.in_default.ensures c.read_record-r.ensures state.high state.low c.place_at-at.ensures in
    omega (arith, here, c.requires.size)

pub copy_words-requires : goal.copy_words-requires
copy_words-requires c =
    let state = c.requires.state in
    let here =
    placed _ _ _ _ c.in_default.ensures c.read_record-r.ensures state.high state.low c.place_at-at.ensures in
    omega (arith, length_rest c.args.queues.now c.place_at-at.result, here, c.requires.size, c.requires.short)

pub with_source-requires : goal.with_source-requires
with_source-requires c = omega (arith, ap (λ (r : RecordHead). r.site) c.read_record-r.ensures, c.requires.state.high)

pub returns : goal.returns
unfolding merge_part merger_out_of
returns c =
    let a = c.args in
    let at = c.place_at-at in
    let laid = put_part a.queues.now c.copy_words.new.out a.m.now at.result c.copy_words.ensures in
    rw (← c.read_record-r.ensures, passed_by _ c.in_default.ensures)
    (record {
      value = c.with_source.ensures;
      queues_after = laid ∙ ap (λ (i : ℕ). put_at i a.queues.now a.m.now) at.ensures;
    })
