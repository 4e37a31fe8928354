-- The front of the words is the message.
use Rattle.calls.proofs.take_at.Goals as goal

pub returns : goal.returns
returns c = rw (← c.front.ensures) c.take_in_place.ensures
