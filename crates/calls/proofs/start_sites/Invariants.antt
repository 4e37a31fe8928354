-- Each turn starts a site; the tables keep their lengths.
use Rattle.std.proofs.Common.{◌≡◌, length}
use Rattle.kinds.specs.Sizes as sizes
use Rattle.calls.specs.Tables.{Tables}
use Rattle.calls.proofs.start_sites.Given as goal

abbrev pub invariant-loop-i : goal.invariant-loop-i
invariant-loop-i l = Tables l.live l.history l.base l.lists × (length l.sites ≡ sizes.sites)
