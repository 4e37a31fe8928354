-- A part's first words and its keys are laid behind one another at its place.
use Rattle.std.proofs.Common.{◌+◌, ◌*◌, ◌≤◌, length, refl, arith}
use Rattle.kinds.specs.Sizes as sizes
use Rattle.kinds.specs.Word as word
use Rattle.lent.specs.Layout.{keys_words, place_words}
use Rattle.lent.specs.Shape.{keys_long, place_head, shaped}
use Rattle.tables.proofs.Laid.{laid_behind}
use Rattle.tables.proofs.put_part.Goals as goal

pub returns : goal.returns
unfolding place_words
returns c =
    let w = c.args.w.now in
    let b = c.args.b in
    let (sized, laid) = c.lay_keys.ensures in
    let at = sizes.place * c.args.place in
    let long = keys_long b.keys sized in
    let room : at + sizes.place ≤ length w = omega (arith, c.requires.0, c.requires.1) in
    let whole =
    laid_behind w at word.place_keys sizes.keyset (place_head b) (keys_words b.keys) _ room refl long laid in
    (shaped b sized, whole.whole)
