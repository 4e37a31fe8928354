-- S9, C9, C23, C29, C37, C39, C54, Q5.1, Q5.2 and Q12.4: the history of the 32 last installed parts, what is forgotten, the version that a
-- snapshot sees, and the search for it.
use Rattle.std.specs.Prelude.{ℕ, zero, suc, ◌+◌, ◌-◌, ◌*◌, ◌%◌, min, List, Bool, false, get_or, ltb, leb, eqb}
use Rattle.laws.specs.Choice.{pick}
use Rattle.laws.specs.Scan.{first_below, any_below, fold_below}
use Rattle.kinds.specs.Sizes as sizes
use Rattle.kinds.specs.declared.Keys.{Keys}
use Rattle.kinds.specs.declared.Entry.{Entry}
use Rattle.kinds.specs.declared.Search.{Search}
use Rattle.kinds.specs.declared.Snapshot.{Snapshot}
use Rattle.kinds.specs.State.{fresh, past_entry}
use Rattle.kinds.specs.declared.Value.{Value}
use Rattle.rules.specs.Value.{put_value, base_value}
use Rattle.rules.specs.Keys.{wrote_key, wrote_value}

-- how many installs are remembered, and how many forgotten
unfoldable pub remembered : ℕ → ℕ
remembered installs = min installs sizes.history

unfoldable pub forgotten : ℕ → ℕ
forgotten installs = installs - sizes.history

-- install number n + 1 is kept in slot n mod 32
abbrev pub slot_of : ℕ → ℕ
slot_of n = n % sizes.history

-- the i-th remembered install, oldest first
abbrev pub recall : List Entry → ℕ → ℕ → Entry
recall history installs i = get_or history (slot_of (forgotten installs + i)) past_entry

-- an install after the snapshot has been forgotten
unfoldable pub is_forgotten : ℕ → Snapshot → Bool
is_forgotten installs p = ltb p.installs (forgotten installs)

-- how many remembered installs are within the snapshot
unfoldable pub within : ℕ → Snapshot → ℕ
within installs p = min p.installs installs - forgotten installs

-- The version that a snapshot sees: the entries within it, from the newest backwards.
unfoldable pub backwards : List Entry → ℕ → ℕ → ℕ → Entry
backwards history installs visible j = recall history installs (visible - 1 - j)

-- how many of the visible ones are newer than the newest that wrote k
unfoldable pub newer : List Entry → ℕ → ℕ → ℕ → ℕ
newer history installs visible k = first_below (λ j. wrote_key (backwards history installs visible j).keys k) visible

unfoldable pub version_of : List Entry → ℕ → List ℕ → Snapshot → ℕ → Value
version_of history installs base p k =
    let n = newer history installs (within installs p) k in
    pick (ltb n (within installs p)) (wrote_value (backwards history installs (within installs p) n).keys k) (base_value base k)

-- The search: it looks at the newest of the `left` oldest entries, having looked at `looked` others, and ends at the first that has the
-- key. Where none has it the value is v.
unfoldable pub walk : (ℕ → Entry) → ℕ → Value → ℕ → ℕ → Search
walk entry k v zero looked = record { value = v; looked = looked }
walk entry k v (suc left) looked =
    pick (wrote_key (entry left).keys k)
    (record { value = wrote_value (entry left).keys k; looked = looked + 1 })
    (walk entry k v left (looked + 1))

-- among the entries within the snapshot
unfoldable pub search_in : List Entry → ℕ → List ℕ → Snapshot → ℕ → Search
search_in history installs base p k = walk (recall history installs) k (base_value base k) (within installs p) 0

-- a remembered install after the snapshot wrote k
unfoldable pub is_newer : List Entry → ℕ → Snapshot → ℕ → Bool
is_newer history installs p k =
    any_below (λ i. pick (leb (within installs p) i) (wrote_key (recall history installs i).keys k) false) (remembered installs)

-- where transaction tx is remembered, or `remembered` where it is not
unfoldable pub recall_place : List Entry → ℕ → ℕ → ℕ
recall_place history installs tx = first_below (λ i. eqb (recall history installs i).tx tx) (remembered installs)

-- the base values with the writes of a forgotten entry
unfoldable pub forget_into : List ℕ → Keys → List ℕ
forget_into base b = fold_below (λ i l. put_value l (sizes.value * get_or b.writes i 0) (get_or b.values i fresh)) b.wrote base
