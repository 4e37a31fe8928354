-- Q3.1: what a site's parts and installs are tested against.
use Rattle.valid.specs.declared.Home.{Home}
use Rattle.rules.specs.ValidLaws.{ValidHouse}
use Rattle.keys.specs.Range.{RangeOf}

-- a site of a valid house, with the range of its keys
pub record Homed (s : Home) : Type 0 where
  pub valid : ValidHouse s.house s.own
  pub range : RangeOf s.house s.own s.first s.count
