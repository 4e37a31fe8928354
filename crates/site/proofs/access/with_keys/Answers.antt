-- The part has the keys, and nothing is sent.
use Rattle.rules.specs.Effect.{taken_of}
use Rattle.site.proofs.access.with_keys.Goals as goal

pub returns : goal.returns
unfolding taken_of
returns c = rw c.with_sub.ensures
