-- After i words the bytes of the first i are laid over the front.
use lib.ListN.{length, take}
use mathlib.Core.Path.{◌≡◌}
use Rattle.laws.specs.Bytes.{bytes_of}
use Rattle.laws.specs.Overlay.{overlay}
use Rattle.words.proofs.write_words.Given as goal

abbrev pub invariant-loop-i : goal.invariant-loop-i
invariant-loop-i l = (length l.b ≡ length l.initial.b) × (l.b ≡ overlay l.initial.b (bytes_of (take l.i l.ws)))
