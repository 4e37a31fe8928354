-- The key was written, so it has a place, and its value stands there.
use Rattle.std.proofs.Common.{ltb-true, sym}
use Rattle.rules.specs.Keys.{wrote_key, wrote_value}
use Rattle.keys.proofs.Places.{some_place}
use Rattle.keys.proofs.wrote_value.Goals as goal

pub unwrap-place-requires : goal.unwrap-place-requires
unfolding wrote_key
unwrap-place-requires c = some_place _ _ _ c.key_place.ensures.first (ltb-true _ _ c.requires.1)

pub returns : goal.returns
unfolding wrote_value
returns c = rw (sym c.key_place.ensures.first, c.unwrap-place.ensures)
