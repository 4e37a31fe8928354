-- After i writes the bytes hold the fold over them.
use lib.ListN.{length}
use mathlib.Core.Path.{◌≡◌}
use Rattle.laws.specs.Bytes.{Hold, words_of}
use Rattle.rules.specs.Copy.{put_writes}
use Rattle.reader.proofs.replay.put_writes.Given as goal

abbrev pub invariant-loop-i : goal.invariant-loop-i
invariant-loop-i l = record {
  size : length l.copy ≡ length l.initial.copy;
  held : Hold l.copy (put_writes (words_of l.initial.copy) l.ws l.i);
}
