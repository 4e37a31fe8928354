-- An install's first words and its keys are laid behind one another at its slot.
use Rattle.std.proofs.Common.{◌+◌, ◌*◌, ◌≤◌, length, refl, arith}
use Rattle.kinds.specs.Sizes as sizes
use Rattle.kinds.specs.Word as word
use Rattle.lent.specs.Layout.{keys_words, slot_words}
use Rattle.lent.specs.Shape.{keys_long, slot_head, shaped_entry}
use Rattle.tables.proofs.Laid.{laid_behind}
use Rattle.tables.proofs.put_entry.Goals as goal

pub returns : goal.returns
unfolding slot_words
returns c =
    let h = c.args.h.now in
    let e = c.args.e in
    let (sized, laid) = c.lay_keys.ensures in
    let at = sizes.slot * c.args.slot in
    let long = keys_long e.keys sized in
    let room : at + sizes.slot ≤ length h = omega (arith, c.requires.0, c.requires.1) in
    let whole =
    laid_behind h at word.slot_keys sizes.keyset (slot_head e) (keys_words e.keys) _ room refl long laid in
    (shaped_entry e sized, whole.whole)
