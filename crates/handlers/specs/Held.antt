-- What a handler is called with: a possible site, a message that it takes next, and the place of its transaction.
use Rattle.std.specs.Prelude.{ℕ, ◌*◌, ◌≤◌, ◌<◌, ◌≡◌, true, List, length, Option, unwrap_or, IfSome}
use Rattle.kinds.specs.Sizes as sizes
use Rattle.kinds.specs.declared.Core.{Core}
use Rattle.kinds.specs.declared.MessageHead.{MessageHead}
use Rattle.rules.specs.Valid.{site_ok}
use Rattle.rules.specs.Deliver.{Arriving}
use Rattle.lent.specs.Lent.{site_of}
use Rattle.lent.specs.Laws.{lent_lengths}
use Rattle.shell.specs.Countable.{Countable, Comes, countable}

-- a place as the rules have it: 16 for none; one that is there is one of the live table
abbrev pub place_number : Option ℕ → ℕ
place_number place = unwrap_or place sizes.live

abbrev pub IsPlace : Option ℕ → Type 0
IsPlace place = IfSome place (λ i. i < sizes.live)

-- the site is possible, and the next message from that site can be counted
pub record Reached (p : Core) (w h : List ℕ) (from : ℕ) : Type 0 where
  pub possible : site_ok (site_of p w h) ≡ true
  pub arriving : Arriving (site_of p w h) from

-- and the place, at which the caller found the transaction, is one of the live table
pub record Held (p : Core) (w h : List ℕ) (place from : ℕ) : Type 0 where
  pub possible : site_ok (site_of p w h) ≡ true
  pub arriving : Arriving (site_of p w h) from
  pub low : place < sizes.live

-- a place of a possible site, and the gathered lists
pub record Gathered (p : Core) (w h : List ℕ) (place : ℕ) (lists : List ℕ) : Type 0 where
  pub possible : site_ok (site_of p w h) ≡ true
  pub low : place < sizes.live
  pub whole : length lists ≡ sizes.lists

-- the entries of a CONC from another site
pub record Listing (h : MessageHead) (es : List ℕ) (own : ℕ) : Type 0 where
  pub few : h.count ≤ sizes.conc_entries
  pub long : length es ≡ sizes.entry * h.count
  pub other : h.from ≡ own → ⊥

-- A place that is held lies in the words, and a message that arrives can be counted.
pub settles : {p : Core} {w h : List ℕ} {place from : ℕ} → Held p w h place from → (length w ≡ sizes.live_words) × (place < sizes.live)
settles {p} {w} {h} q = ((lent_lengths p w h q.possible).live, q.low)

pub arrives : {p : Core} {w h : List ℕ} {place from : ℕ} → Held p w h place from
    → Comes w place p.channels from
arrives {p} {w} {h} {place} {from} q =
    record { live = (settles q).0; low = q.low; counts = countable (site_of p w h) from q.arriving }

-- A message that reaches a site can be counted there, and is held where its place is one of the table's.
pub counts : {p : Core} {w h : List ℕ} {from : ℕ} → Reached p w h from → Countable p.channels from
counts {p} {w} {h} {from} q = countable (site_of p w h) from q.arriving

pub holds : {p : Core} {w h : List ℕ} {place from : ℕ} → Reached p w h from → place < sizes.live → Held p w h place from
holds q l = record { possible = q.possible; arriving = q.arriving; low = l }
