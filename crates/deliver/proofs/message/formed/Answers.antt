-- Of a site that is possible, the words are those of a message of its house or not.
use mathlib.Core.Path.{sym, ◌∙◌}
use mathlib.Core.Bool.{true≢false}
use Rattle.deliver.proofs.message.formed.Goals as goal

pub message_ok-requires : goal.message_ok-requires
message_ok-requires c = c.requires c.if-ok.true

pub returns-else-ok : goal.returns-else-ok
returns-else-ok c = λ e. absurd (true≢false (sym e ∙ c.if-ok.false))
