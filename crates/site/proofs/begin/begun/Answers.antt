-- The new part, with the next serial.
use Rattle.rules.specs.Begin.{begun}
use Rattle.rules.specs.Effect.{taken_of}
use Rattle.site.proofs.begin.begun.Goals as goal

pub returns : goal.returns
unfolding taken_of begun
returns c = λ w h. rw (c.new_sub-sub.ensures, c.mask_of-mask.ensures, c.next_tx-tx.ensures)
