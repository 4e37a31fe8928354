-- After i sites the words to them stand one behind another, and at most seven messages fit.
use mathlib.Core.Path.{◌≡◌}
use lib.ListN.{length}
use Rattle.laws.specs.Overlay.{overlay}
use Rattle.rules.specs.Send.{messages_to}
use Rattle.messages.proofs.send.broadcast.Given as goal

abbrev pub invariant-loop-i : goal.invariant-loop-i
invariant-loop-i l = record {
  size : length l.out ≡ length l.initial.out;
  written : l.at ≡ length (messages_to l.h l.sent l.mask l.es l.i);
  laid : l.out ≡ overlay l.initial.out (messages_to l.h l.sent l.mask l.es l.i);
}
