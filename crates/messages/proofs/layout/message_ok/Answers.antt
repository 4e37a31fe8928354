-- The shape gives the bounds of the reads.
use mathlib.Core.Path.{◌≡◌, sym, ap, ◌∙◌}
use native.Mathlib.Omega.{arith}
use borrow.Author.Rules.{rules}
use lib.ListN.{get_or}
use Rattle.laws.specs.Choice.{pick_self}
use Rattle.laws.specs.Overlay.{length_rest, rest_is}
use Rattle.kinds.specs.Sizes as sizes
use Rattle.kinds.specs.Word as word
use Rattle.kinds.specs.declared.MessageHead.{MessageHead}
use Rattle.rules.specs.Message.{message_head, message_entries, message_ok}
use Rattle.rules.specs.MessageLaws.{shape_clear, head_clear, most_at_most}
use Rattle.messages.proofs.layout.message_ok.Goals as goal

pub read_head-h-requires : goal.read_head-h-requires
read_head-h-requires c =
    let s = shape_clear c.args.m.now (sym c.shape_ok.ensures ∙ c.if-not-shape_ok.false) in
    omega arith

pub slice_bounds-entries_ok-count : goal.slice_bounds-entries_ok-count
slice_bounds-entries_ok-count c =
    let s = shape_clear c.args.m.now (sym c.shape_ok.ensures ∙ c.if-not-shape_ok.false) in
    omega arith

pub slice_bounds-entries_ok-start : goal.slice_bounds-entries_ok-start
slice_bounds-entries_ok-start c =
    let s = shape_clear c.args.m.now (sym c.shape_ok.ensures ∙ c.if-not-shape_ok.false) in
    omega arith

pub entries_ok-requires : goal.entries_ok-requires
unfolding message_head
entries_ok-requires c =
    let m = c.args.m.now in
    let s = shape_clear m (sym c.shape_ok.ensures ∙ c.if-not-shape_ok.false) in
    let h = head_clear c.args.o c.read_head-h.result (sym c.head_ok.ensures ∙ c.if-head_ok.true) in
    let n : c.read_head-h.result.count ≡ get_or m word.entry_count 0 = ap (λ (r : MessageHead). r.count) c.read_head-h.ensures in
    let few = most_at_most c.read_head-h.result.kind in
    record { sites_le_sites = search rules; n_le_cert_entries = omega (arith, few, length_rest m sizes.message_header) }

pub returns-then-head_ok : goal.returns-then-head_ok
unfolding message_ok message_entries
returns-then-head_ok c =
    simp (← c.shape_ok.ensures, c.if-not-shape_ok.false, ← c.read_head-h.ensures, ← c.head_ok.ensures, c.if-head_ok.true, pick_self)
    (c.entries_ok.ensures ∙ rw rest_is)
