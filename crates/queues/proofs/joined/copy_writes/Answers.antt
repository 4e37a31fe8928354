-- Nothing where the mask does not name the site, else the words behind the part's header.
use borrow.Author.Rules.{rules}
use lib.ListN.{length, length-drop}
use mathlib.Core.Path.{◌∙◌, ap, refl, sym}
use native.Mathlib.Omega.{arith}
use Rattle.laws.specs.Overlay.{length_rest, overlay_none, rest_is}
use Rattle.rules.specs.Merger.{part_writes, queued_part}
use Rattle.rules.specs.MergerWords.{part_fits}
use Rattle.rules.specs.Record.{record_writes}
use Rattle.kinds.specs.Sizes as sizes
use Rattle.queues.proofs.joined.copy_writes.Goals as goal

pub returns-then-not-in_mask : goal.returns-then-not-in_mask
unfolding part_writes
returns-then-not-in_mask c =
    let e = sym c.in_mask.ensures ∙ c.if-not-in_mask.true in
    record { value = rw e refl; out_after = rw e (overlay_none _) }

pub queued_part-requires : goal.queued_part-requires
queued_part-requires c =
    let p = part_fits _ _ _ c.requires.head_fits (sym c.in_mask.ensures ∙ c.if-not-in_mask.false) in
    record { queues_len = search rules; i_lt_sites = search rules; length_bound = p.short }

pub slice_bounds-ws-count : goal.slice_bounds-ws-count
slice_bounds-ws-count c =
    let p = part_fits _ _ _ c.requires.head_fits (sym c.in_mask.ensures ∙ c.if-not-in_mask.false) in
    omega (arith, ap length c.queued_part.ensures)

pub slice_bounds-ws-start : goal.slice_bounds-ws-start
slice_bounds-ws-start c =
    let p = part_fits _ _ _ c.requires.head_fits (sym c.in_mask.ensures ∙ c.if-not-in_mask.false) in
    omega (arith, ap length c.queued_part.ensures)

pub copy_words-requires : goal.copy_words-requires
unfolding record_writes
copy_words-requires c =
    let p = part_fits _ _ _ c.requires.head_fits (sym c.in_mask.ensures ∙ c.if-not-in_mask.false) in
    let q = c.queued_part in
    let m = q.result.now in
    let h = sizes.record_header in
    let behind = length-drop h (queued_part c.args.queues.now c.args.i 0) in
    omega (arith, ap length q.ensures, length_rest m h, length-drop h m, behind)

pub returns : goal.returns
unfolding part_writes record_writes
returns c =
    let e = sym c.in_mask.ensures ∙ c.if-not-in_mask.false in
    rw (e, ← c.queued_part.ensures) (record { value = rw rest_is refl; out_after = rw rest_is at c.copy_words.ensures })
