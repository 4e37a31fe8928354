-- C21 to C29, and C37 to C41: the list of concurrent transactions that a site makes, and its vote on a joined list.
use Rattle.std.specs.Prelude.{ℕ, ◌+◌, ◌-◌, List, [], ◌∷◌, ◌++◌, Bool, not, ltb, eqb}
use Rattle.laws.specs.Choice.{pick, every, some}
use Rattle.laws.specs.Scan.{any_below, fold_below}
use Rattle.kinds.specs.Sizes as sizes
use Rattle.kinds.specs.Reason as reason
use Rattle.kinds.specs.declared.Keys.{Keys}
use Rattle.kinds.specs.declared.Sub.{Sub}
use Rattle.kinds.specs.declared.Entry.{Entry}
use Rattle.kinds.specs.declared.Site.{Site}
use Rattle.kinds.specs.State.{sub_at}
use Rattle.rules.specs.House.{in_mask}
use Rattle.rules.specs.Message.{entry_tx, entry_mask, entry_mark, entry_count}
use Rattle.rules.specs.Keys.{dependent}
use Rattle.rules.specs.Live.{part_at, is_prepared, is_held}
use Rattle.rules.specs.History.{recall, remembered, forgotten, within, recall_place}
use Rattle.rules.specs.Join.{joined}

-- Concurrent with the part at `place`: every other prepared one, then every install after its snapshot, mark 1 where dependent.

abbrev pub mark_of : Bool → ℕ
mark_of b = pick b 1 0

-- the words of one more entry
abbrev pub concurrent_words : Keys → ℕ → ℕ → Keys → List ℕ
concurrent_words own tx mask other = tx ∷ mask ∷ mark_of (dependent own other) ∷ []

-- of the part b at place i: none for the part itself, nor for one that is not prepared
unfoldable pub prepared_words : ℕ → Keys → ℕ → Sub → List ℕ
prepared_words place own i b =
    pick (every (not (eqb i place) ∷ is_prepared b ∷ [])) (concurrent_words own b.tx b.course.mask b.keys) []

unfoldable pub installed_words : Keys → Entry → List ℕ
installed_words own e = concurrent_words own e.tx e.mask e.keys

-- the prepared ones among the first n places
unfoldable pub prepared_list : List Sub → ℕ → ℕ → List ℕ
prepared_list live place n = fold_below (λ i ws. ws ++ prepared_words place (part_at live place).keys i (part_at live i)) n []

-- the first n remembered installs after the first `seen`
unfoldable pub installed_list : List Entry → ℕ → Keys → ℕ → ℕ → List ℕ
installed_list history installs own seen n = fold_below (λ i ws. ws ++ installed_words own (recall history installs (seen + i))) n []

unfoldable pub candidates : Site → ℕ → List ℕ
candidates s place =
    let n = s.counters.installs in
    let b = sub_at s place in
    prepared_list s.live place sizes.live
    ++ installed_list s.history n b.keys (within n b.snapshot) (remembered n - within n b.snapshot)

-- the list itself: by transaction ascending
unfoldable pub concurrent : Site → ℕ → List ℕ
concurrent s place = joined (candidates s place) (entry_count (candidates s place))

-- The vote of the part at `place` on a list of n entries.

-- entry i is for the install e, and is marked or dependent here
unfoldable pub conflicts_at : Keys → List ℕ → ℕ → Entry → Bool
conflicts_at own es i e =
    every (eqb (entry_tx es i) e.tx ∷ some (eqb (entry_mark es i) 1 ∷ dependent own e.keys ∷ []) ∷ [])

-- entry i was installed here within the snapshot, and is marked or dependent here
unfoldable pub conflicts_with : Site → ℕ → List ℕ → ℕ → Bool
conflicts_with s place es i =
    let n = s.counters.installs in
    let b = sub_at s place in
    any_below (λ k. conflicts_at b.keys es i (recall s.history n k)) (within n b.snapshot)

-- tx has a record here: live, or in the history
unfoldable pub is_recorded : Site → ℕ → Bool
is_recorded s tx =
    some (is_held s.live tx
    ∷ ltb (recall_place s.history s.counters.installs tx) (remembered s.counters.installs)
    ∷ [])

-- entry i names this site, has no record here, and something has been forgotten here
unfoldable pub uncertain_of : Site → List ℕ → ℕ → Bool
uncertain_of s es i =
    every (ltb 0 (forgotten s.counters.installs)
    ∷ in_mask (entry_mask es i) s.counters.own
    ∷ not (is_recorded s (entry_tx es i))
    ∷ [])

-- 0 is yes; where both fit, 18
unfoldable pub vote_of : Site → ℕ → List ℕ → ℕ → ℕ
vote_of s place es n =
    pick (any_below (conflicts_with s place es) n) reason.conflict
    (pick (any_below (uncertain_of s es) n) reason.uncertain 0)
