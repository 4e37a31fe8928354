-- After i words the slice is the first i words of the bytes laid over it.
use lib.ListN.{length, take}
use mathlib.Core.Path.{◌≡◌}
use Rattle.laws.specs.Bytes.{words_of}
use Rattle.laws.specs.Overlay.{overlay}
use Rattle.words.proofs.read_words.Given as goal

abbrev pub invariant-loop-i : goal.invariant-loop-i
invariant-loop-i l = (length l.ws ≡ length l.initial.ws) × (l.ws ≡ overlay l.initial.ws (take l.i (words_of l.b)))
