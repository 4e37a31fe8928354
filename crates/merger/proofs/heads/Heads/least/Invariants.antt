-- After i sites the best is the least of their heads.
use Rattle.std.proofs.Common.{◌≡◌, ◌<◌, unwrap_or}
use Rattle.std.specs.Prelude.{IfSome}
use Rattle.kinds.specs.Sizes as sizes
use Rattle.rules.specs.Merger.{least_head}
use Rattle.merger.proofs.heads.Heads.least.Given as goal

abbrev pub invariant-loop-i : goal.invariant-loop-i
invariant-loop-i l =
    (unwrap_or l.best sizes.sites ≡ least_head l.self.merger l.self.heads l.i) × IfSome l.best (λ k. k < sizes.sites)
