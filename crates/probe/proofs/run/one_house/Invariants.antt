-- There are as many sites as at the start.
use Rattle.std.proofs.Common.{◌≡◌, length}
use Rattle.kinds.specs.Sizes as sizes
use Rattle.probe.proofs.run.one_house.Given as goal

abbrev pub invariant-loop : goal.invariant-loop
invariant-loop l = length l.sites ≡ sizes.sites
