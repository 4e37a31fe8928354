-- There are as many sites as at the start.
use Rattle.std.proofs.Common.{◌≡◌, length}
use Rattle.kinds.specs.Sizes as sizes
use Rattle.probe.proofs.run.start_sites.Given as goal

abbrev pub invariant-loop-i : goal.invariant-loop-i
invariant-loop-i l = length l.sites ≡ sizes.sites
