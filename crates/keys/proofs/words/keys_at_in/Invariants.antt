-- The words passed are in the range.
use Rattle.std.proofs.Common.{◌+◌, get_or}
use Rattle.laws.specs.Scan.{EachBelow}
use Rattle.kinds.specs.Sizes as sizes
use Rattle.rules.specs.House.{within}
use Rattle.lent.specs.Layout.{words_from}
use Rattle.keys.proofs.words.keys_at_in.Given as goal

abbrev pub invariant-loop-i : goal.invariant-loop-i
invariant-loop-i l = EachBelow (λ j. within l.first (l.first + l.count) (get_or (words_from l.w l.at sizes.writes) j 0)) l.i
