-- Ones of the replies within the mask against those wanted.
use Rattle.rules.specs.Live.{all_heard}
use Rattle.live.proofs.all_heard.Goals as goal

pub returns : goal.returns
unfolding all_heard
returns c = rw (c.participants.ensures, c.replies_wanted.ensures)
