-- C51 to C55: what an install is made with: a possible site whose install counter is not spent, and a place of its live table.
use Rattle.std.specs.Prelude.{ℕ, ◌<◌, ◌≡◌, true, List}
use Rattle.kinds.specs.Sizes as sizes
use Rattle.kinds.specs.declared.Core.{Core}
use Rattle.kinds.specs.declared.Site.{Site}
use Rattle.rules.specs.Install.{install_code}
use Rattle.rules.specs.Queue.{is_installable, least_queued}
use Rattle.rules.specs.Valid.{site_ok}
use Rattle.lent.specs.Lent.{site_of}

pub record Installable (p : Core) (w h : List ℕ) (place : ℕ) : Type 0 where
  pub possible : site_ok (site_of p w h) ≡ true
  pub low : place < sizes.live
  pub unspent : p.counters.installs < sizes.last

-- the first cause against an install
abbrev pub install_code_at : Site → ℕ → ℕ → ℕ
install_code_at s room given =
    install_code (site_ok s) room given (is_installable s.live (least_queued s.live sizes.live)) s.counters.installs
