-- After i offsets the pages and rests of the first i are laid over the front.
use mathlib.Core.Path.{◌≡◌}
use lib.ListN.{length, take}
use Rattle.laws.specs.Overlay.{overlay}
use Rattle.rules.specs.Page.{places_of}
use Rattle.bookmarks.proofs.run.put_places.Given as goal

abbrev pub invariant-loop-i : goal.invariant-loop-i
invariant-loop-i l = (length l.out ≡ length l.initial.out) × (l.out ≡ overlay l.initial.out (places_of l.size (take l.i l.offsets)))
