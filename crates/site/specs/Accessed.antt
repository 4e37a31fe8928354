-- What an access is made with: a possible site and a place of its live table, and room for the key. What begin and enlist are made
-- with.
use Rattle.std.specs.Prelude.{ℕ, ◌≤◌, ◌<◌, ◌≡◌, true, false, List, length, eqb}
use Rattle.kinds.specs.Sizes as sizes
use Rattle.kinds.specs.declared.Core.{Core}
use Rattle.kinds.specs.declared.Counters.{Counters}
use Rattle.kinds.specs.declared.Keys.{Keys}
use Rattle.kinds.specs.declared.Site.{Site}
use Rattle.kinds.specs.declared.Turn.{Turn}
use Rattle.rules.specs.Access.{key_code, access_code}
use Rattle.rules.specs.Begin.{begin_code}
use Rattle.rules.specs.Course.{channel_spent}
use Rattle.rules.specs.Desk.{is_desk}
use Rattle.rules.specs.Enlist.{enlist_code, joiner_code, is_mine}
use Rattle.rules.specs.House.{in_mask, is_site}
use Rattle.rules.specs.Keys.{wrote_key}
use Rattle.rules.specs.Live.{free_place, place_of, stage_at}
use Rattle.rules.specs.Valid.{site_ok}
use Rattle.lent.specs.Lent.{site_of}

pub record Accessed (p : Core) (w h : List ℕ) (place : ℕ) : Type 0 where
  pub possible : site_ok (site_of p w h) ≡ true
  pub low : place < sizes.live

-- the key is written already, or can be one more
pub record Writable (b : Keys) (key : ℕ) : Type 0 where
  pub few : b.wrote ≤ sizes.writes
  pub room : wrote_key b key ≡ false → b.wrote < sizes.writes

-- the counters of a site that has a serial left
pub record Unspent (c : Counters) : Type 0 where
  pub first : 1 ≤ c.own
  pub last : c.own ≤ sizes.sites
  pub low : c.serial < sizes.last_serial

-- a site to send to, and room for the messages
pub record Sendable (site : ℕ) (out : List ℕ) : Type 0 where
  pub first : 1 ≤ site
  pub last : site ≤ sizes.sites
  pub long : sizes.outgoing ≤ length out

-- the first cause against a key of the site, and against the part of `tx` that would read or write it
abbrev pub key_code_at : Site → ℕ → ℕ → ℕ
key_code_at s room key = key_code (site_ok s) room s.house s.counters.own key

abbrev pub access_code_at : Site → ℕ → ℕ → ℕ → ℕ
access_code_at s room tx key =
    let place = place_of s.live tx in
    access_code (site_ok s) room s.house s.counters.own key place (stage_at s.live place)

-- and against a new transaction, a participant more, and the part that would get it
abbrev pub begin_code_at : Site → ℕ → ℕ
begin_code_at s desk = begin_code (site_ok s) (is_desk desk) s.counters (free_place s.live)

abbrev pub enlist_code_at : Site → ℕ → ℕ → ℕ → ℕ
enlist_code_at s room tx site = enlist_code (site_ok s) room (is_site s.house site) (place_of s.live tx) (is_mine s tx)

abbrev pub joiner_code_at : Turn → ℕ → ℕ
joiner_code_at t site =
    let c = t.sub.course in
    joiner_code c.stage (eqb site t.counters.own) (in_mask c.mask site) (channel_spent t.channels site)
