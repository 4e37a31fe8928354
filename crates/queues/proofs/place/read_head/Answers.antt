-- The header is read from the words of the first place.
use mathlib.Core.Path.{◌∙◌, ap}
use Rattle.rules.specs.Merger.{head_at}
use Rattle.rules.specs.Record.{record_head}
use Rattle.queues.proofs.place.read_head.Goals as goal

pub returns : goal.returns
unfolding head_at
returns c = c.read_record.ensures ∙ ap record_head c.place_words.ensures.1
