-- Read and write past their refusals.
use Rattle.std.specs.Prelude.{ℕ, ◌≡◌, List, length}
use Rattle.kinds.specs.Sizes as sizes
use Rattle.kinds.specs.declared.Site.{Site}
use Rattle.kinds.specs.declared.Value.{Value}
use Rattle.rules.specs.Live.{place_of, stage_at}
use Rattle.rules.specs.Valid.{site_ok}
use Rattle.rules.specs.Access.{access_code, read_at, read_of, write_at, write_of}

module _ (s : Site) (base : List ℕ) (tx k place : ℕ) (p : place ≡ place_of s.live tx) where
  pub read_past : access_code (site_ok s) (length base) s.house s.counters.own k place (stage_at s.live place) ≡ 0
      → read_of s base tx k ≡ read_at s base place k
  unfolding read_of
  read_past a = rw (← p, a)

  pub write_past : (v : Value) → access_code (site_ok s) sizes.base s.house s.counters.own k place (stage_at s.live place) ≡ 0
      → write_of s tx k v ≡ write_at s place k v
  unfolding write_of
  write_past v a = rw (← p, a)
