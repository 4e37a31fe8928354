-- The results so far are laid behind the word.
use Rattle.std.proofs.Common.{◌+◌, ◌≤◌, ◌++◌, length, take}
use Rattle.pages.specs.Laid.{Laid, fields}
use Rattle.pages.specs.Line.{results_of}
use Rattle.pages.proofs.text.told.Given as goal

abbrev pub invariant-loop-n : goal.invariant-loop-n
invariant-loop-n l =
    Laid l.fn.page l.used (l.word ++ results_of (take l.n-index l.numbers)) l.page l.end
    × (l.end ≤ l.used + (length l.word + fields l.n-index))
