-- Q5.1 to Q5.3, in any state: what the search answers for each key and snapshot, and that a read runs it. `version_of` is C9, the newest
-- version within the snapshot, else the base value; the search is another definition.
use Rattle.std.specs.Prelude.{ℕ, ◌+◌, ◌-◌, ◌≤◌, ◌<◌, ◌≡◌, List, Bool, true, false}
use Rattle.laws.specs.Scan.{NoneBelow}
use Rattle.kinds.specs.declared.Answer.TheVariants.{Found, Searched}
use Rattle.kinds.specs.declared.Entry.{Entry}
use Rattle.kinds.specs.declared.Site.{Site}
use Rattle.kinds.specs.declared.Snapshot.{Snapshot}
use Rattle.kinds.specs.State.{sub_at}
use Rattle.kinds.specs.declared.Value.{Value}
use Rattle.rules.specs.Keys.{wrote_key}
use Rattle.rules.specs.Live.{place_of}
use Rattle.rules.specs.History.{within, backwards, version_of, search_in}
use Rattle.rules.specs.Access.{read_of, search_of}

module _ (history : List Entry) (installs : ℕ) (base : List ℕ) (p : Snapshot) (k : ℕ) where
  -- how many entries are visible, and how many of them the search looks at
  abbrev visible : ℕ
  visible = within installs p

  abbrev looked : ℕ
  looked = (search_in history installs base p k).looked

  -- entry j of the visible ones, from the newest backwards and from 0, has the key
  abbrev has_key : ℕ → Bool
  has_key j = wrote_key (backwards history installs visible j).keys k

  pub record Exact : Type 0 where
    -- the value is the version that the snapshot sees (C9)
    pub same : (search_in history installs base p k).value ≡ version_of history installs base p k
    -- the first that has the key counts, and where none has it all visible ones do
    pub hit : (j : ℕ) → j < visible → NoneBelow has_key j → has_key j ≡ true → looked ≡ j + 1
    pub none : NoneBelow has_key visible → looked ≡ visible
    -- and so the count tells: each looked at but the last lacks the key, and the last has it where not all visible ones were looked at
    pub few : looked ≤ visible
    pub passed : (j : ℕ) → j + 1 < looked → has_key j ≡ false
    pub last : looked < visible → has_key (looked - 1) ≡ true

-- A read of a key that its part has not written answers what the search answers for the part's snapshot.
unfoldable pub ReadRuns : Type 0
ReadRuns =
    (s : Site) (base : List ℕ) (tx k : ℕ) (v : Value)
    → (let b = sub_at s (place_of s.live tx) in
    wrote_key b.keys k ≡ false → (read_of s base tx k).answer ≡ Found v → (n : ℕ) × (search_of s base b.snapshot k ≡ Searched v n))

-- the claim
pub record SearchesRight : Type 0 where
  pub exact : (history : List Entry) (installs : ℕ) (base : List ℕ) (p : Snapshot) (k : ℕ) → Exact history installs base p k
  pub read : ReadRuns
