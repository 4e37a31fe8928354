-- The walk from here answers what the search does.
use Rattle.std.proofs.Common.{◌≡◌, ℕ, ◌-◌, List}
use Rattle.kinds.specs.declared.Search.{Search}
use Rattle.rules.specs.Value.{base_value}
use Rattle.rules.specs.History.{recall, walk}
use Rattle.lent.specs.Layout.{history_of}
use Rattle.history.proofs.search.Given as goal

-- what the walk answers where so many are left
abbrev pub rest : List ℕ → ℕ → List ℕ → ℕ → ℕ → ℕ → Search
rest h installs base k = walk (recall (history_of h) installs) k (base_value base k)

abbrev pub invariant-loop-looked : goal.invariant-loop-looked
invariant-loop-looked l =
    rest l.h l.installs l.base l.k l.visible 0 ≡ rest l.h l.installs l.base l.k (l.visible - l.looked) l.looked
