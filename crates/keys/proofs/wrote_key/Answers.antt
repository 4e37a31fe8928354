-- There is a place exactly where the key was written.
use Rattle.std.proofs.Common.{◌∙◌}
use Rattle.rules.specs.Keys.{wrote_key}
use Rattle.keys.proofs.Places.{some_below}
use Rattle.keys.proofs.wrote_key.Goals as goal

pub returns : goal.returns
unfolding wrote_key
returns c = c.is_some.ensures ∙ some_below _ _ _ c.key_place.ensures.bound c.key_place.ensures.first
