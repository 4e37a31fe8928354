-- The claims about tables of first keys (Q3.1 to Q3.4, Q3.8, Q3.9). What a good house is stands in House.
use Rattle.std.specs.Prelude.{ℕ, ◌+◌, ◌/◌, ◌≤◌, ◌<◌, ◌≡◌, List, length, ltb}
use Rattle.laws.specs.Choice.{pick}
use Rattle.kinds.specs.Sizes as sizes
use Rattle.kinds.specs.declared.House.{House}
use Rattle.kinds.specs.declared.Answer.{Answer}
use Rattle.kinds.specs.declared.Answer.TheVariants.{Done, Refused}
use Rattle.rules.specs.House.{GoodTable, GoodHouse, house_of, even_table, first_key, home_of}
use Rattle.rules.specs.Install.{start_of}
use Rattle.rules.specs.Merger.{merger_start_of}
use Rattle.rules.specs.World.{Call, World, step}

-- Key k is in the range of site s: at or above the first key of s, and below that of the next site, if there is one.
pub record InRange (o : House) (s k : ℕ) : Type 0 where
  pub first : 1 ≤ s
  pub last : s ≤ o.sites
  pub from : first_key o s ≤ k
  pub to : s < o.sites → k < first_key o (s + 1)

-- where key k lives in an even house of n sites: as by division, and past its sites at the last one
abbrev pub even_home : ℕ → ℕ → ℕ
even_home n k = pick (ltb (k / sizes.site_keys) n) (k / sizes.site_keys + 1) n

-- the claim: each key lives at exactly one site of a good house, the one whose range holds it; by 0, 256 and so on where division puts it
pub record KeysPlaced : Type 0 where
  pub lives : (o : House) → GoodHouse o → (k : ℕ) → k < sizes.keys → InRange o (home_of o k) k
  pub alone : (o : House) → GoodHouse o → (k s : ℕ) → k < sizes.keys → InRange o s k → s ≡ home_of o k
  pub even_good : (n : ℕ) → 1 ≤ n → n ≤ sizes.sites → GoodHouse (house_of n (even_table n))
  pub even : (n : ℕ) → 1 ≤ n → n ≤ sizes.sites → (k : ℕ) → k < sizes.keys → home_of (house_of n (even_table n)) k ≡ even_home n k
  pub whole : (k : ℕ) → k < sizes.keys → home_of (house_of sizes.sites (even_table sizes.sites)) k ≡ k / sizes.site_keys + 1

-- What a start has besides its table, where nothing gives 2.
pub record CountFits (sites : ℕ) (table : List ℕ) : Type 0 where
  pub some : 1 ≤ sites
  pub few : sites ≤ sizes.sites
  pub count : length table ≡ sites

pub record StartFits (sites : ℕ) (table : List ℕ) (own base lists : ℕ) : Type 0 where
  pub table_fits : CountFits sites table
  pub own_first : 1 ≤ own
  pub own_last : own ≤ sites
  pub base_fits : base ≡ sizes.base
  pub lists_fit : lists ≡ sizes.lists

-- 22 exactly where all that fits and the table is bad; a start that fits and has a good table is taken
pub record ByTable (a : Answer) (Fits Good : Type 0) : Type 0 where
  pub bad : Fits → (Good → ⊥) → a ≡ Refused 22
  pub only_bad : a ≡ Refused 22 → Fits × (Good → ⊥)
  pub taken : Fits → Good → a ≡ Done

-- the claim
pub record TablesRefused : Type 0 where
  pub start : (sites : ℕ) (table : List ℕ) (own base lists : ℕ)
      → ByTable (start_of sites table own base lists).answer (StartFits sites table own base lists) (GoodTable sites table)
  pub merger_start : (sites : ℕ) (table queues : List ℕ)
      → ByTable (merger_start_of sites table queues).answer (CountFits sites table × (length queues ≡ sizes.queues)) (GoodTable sites table)

-- the claim: in any state no call changes the house of a site or of the merger
unfoldable pub HousesStay : Type 0
HousesStay =
    (w : World) (c : Call)
    → ((s : ℕ) → ((step w c).world.site s).house ≡ (w.site s).house) × ((step w c).world.merger.house ≡ w.merger.house)
