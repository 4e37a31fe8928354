-- The first of the words from the keys written on that is the key.
use Rattle.std.proofs.Common.{◌+◌, ◌∙◌, arith}
use Rattle.laws.specs.Overlay.{length_rest}
use Rattle.kinds.specs.Word as word
use Rattle.rules.specs.Keys.{wrote_key}
use Rattle.lent.specs.Layout.{keys_from}
use Rattle.keys.proofs.Places.{some_below, place_rest}
use Rattle.keys.proofs.words.wrote_key_in.Goals as goal

pub key_place-requires : goal.key_place-requires
unfolding keys_from
key_place-requires c =
    omega (arith, c.requires.0, c.requires.1, length_rest c.args.w.now (c.args.o + word.keys_writes))

pub returns : goal.returns
unfolding wrote_key keys_from
returns c =
    let a = c.args in
    c.is_some.ensures
    ∙ some_below _ _ _ c.key_place.ensures.bound
    (c.key_place.ensures.first ∙ place_rest a.w.now (a.o + word.keys_writes) _ a.k c.requires.1)
