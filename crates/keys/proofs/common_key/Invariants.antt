-- No pair passed is equal while both loops run; the label leaves them with one that is.
use Rattle.std.proofs.Common.{◌≡◌, false, eqb, get_or}
use Rattle.laws.specs.Scan.{any_below, NoneBelow}
use Rattle.keys.proofs.common_key.Given as goal

abbrev pub invariant-loop-j : goal.invariant-loop-j
invariant-loop-j l = (l.found ≡ false) × NoneBelow (λ j. eqb (get_or l.a l.i 0) (get_or l.b j 0)) l.j

abbrev pub invariant-search : goal.invariant-search
invariant-search l = (l.found ≡ false) × NoneBelow (λ i. any_below (λ j. eqb (get_or l.a i 0) (get_or l.b j 0)) l.m) l.i
