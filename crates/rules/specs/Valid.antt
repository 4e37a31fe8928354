-- S19, Q10.6 and Q12.7: a handed state whose counts, keys or masks are past these sizes gives 2, and so does one with a desk that is none,
-- with more writes than the desk allows, or with a written value that does not fit. A number that is no transaction of the house counts
-- with them: it goes out in messages that every receiver refuses 2.
use Rattle.std.specs.Prelude.{ℕ, ◌+◌, ◌*◌, List, [], ◌∷◌, Bool, true, not, length, get_or, drop, ltb, leb, eqb}
use Rattle.laws.specs.Choice.{pick, every}
use Rattle.laws.specs.Scan.{all_below}
use Rattle.kinds.specs.Sizes as sizes
use Rattle.kinds.specs.Stage as stage
use Rattle.kinds.specs.declared.House.{House}
use Rattle.kinds.specs.declared.Course.{Course}
use Rattle.kinds.specs.declared.Keys.{Keys}
use Rattle.kinds.specs.declared.Sub.{Sub}
use Rattle.kinds.specs.declared.Entry.{Entry}
use Rattle.kinds.specs.declared.Counters.{Counters}
use Rattle.kinds.specs.declared.Site.{Site}
use Rattle.kinds.specs.State.{past_sub, past_entry}
use Rattle.rules.specs.House.{house_ok, is_site, is_tx, is_mask, in_mask, participants}
use Rattle.rules.specs.Desk.{is_desk, write_limit}
use Rattle.rules.specs.Message.{entry_possible}
use Rattle.rules.specs.Keys.{keys_ok}
use Rattle.rules.specs.History.{remembered}

-- replies come from other sites, and each list gathered has at most 47 entries, the own one included
unfoldable pub course_ok : House → ℕ → Course → Bool
course_ok o own c =
    every (leb c.stage stage.rejected
    ∷ is_mask o c.mask
    ∷ is_mask o c.heard
    ∷ not (in_mask c.heard own)
    ∷ leb c.listed (sizes.conc_entries * (participants c.heard + 1))
    ∷ [])

-- a desk, and at most as many keys written as it allows
unfoldable pub desk_ok : ℕ → Keys → Bool
desk_ok d b = every (is_desk d ∷ leb b.wrote (write_limit d) ∷ [])

-- what a held part puts into messages, beside its desk
unfoldable pub held_ok : House → Sub → Bool
held_ok o b = every (is_tx o b.tx ∷ [])

-- a free place is not asked what it would say
unfoldable pub sub_ok : House → ℕ → Sub → Bool
sub_ok o own b =
    every (course_ok o own b.course
    ∷ keys_ok o own b.keys
    ∷ desk_ok b.desk b.keys
    ∷ pick (eqb b.course.stage stage.free) true (held_ok o b)
    ∷ [])

-- an install in a slot of the history; one that is remembered goes out in messages too
unfoldable pub slot_ok : House → ℕ → Bool → Entry → Bool
slot_ok o own used e = every (is_mask o e.mask ∷ keys_ok o own e.keys ∷ pick used (is_tx o e.tx) true ∷ [])

unfoldable pub counters_ok : House → Counters → Bool
counters_ok o c = every (is_site o c.own ∷ leb c.serial sizes.last_serial ∷ [])

unfoldable pub live_ok : House → ℕ → List Sub → Bool
live_ok o own live = all_below (λ i. sub_ok o own (get_or live i past_sub)) sizes.live

-- the first `remembered` slots are in use
unfoldable pub history_ok : House → ℕ → ℕ → List Entry → Bool
history_ok o own installs history =
    all_below (λ i. slot_ok o own (ltb i (remembered installs)) (get_or history i past_entry)) sizes.history

unfoldable pub site_ok : Site → Bool
site_ok s =
    every (house_ok s.house
    ∷ counters_ok s.house s.counters
    ∷ live_ok s.house s.counters.own s.live
    ∷ history_ok s.house s.counters.own s.counters.installs s.history
    ∷ [])

-- The gathered lists are handed state too: each held part has `listed` possible entries at its place. The words behind them, and
-- those of a free place, are free.
abbrev pub list_at : List ℕ → ℕ → List ℕ
list_at lists place = drop (sizes.gathered * place) lists

unfoldable pub gathered_ok : House → Sub → List ℕ → Bool
gathered_ok o b es = pick (eqb b.course.stage stage.free) true (all_below (entry_possible o es) b.course.listed)

unfoldable pub lists_ok : House → List Sub → List ℕ → Bool
lists_ok o live lists = all_below (λ i. gathered_ok o (get_or live i past_sub) (list_at lists i)) sizes.live

-- a site with its gathered lists, as commit and message are handed them
unfoldable pub handed_ok : Site → List ℕ → Bool
handed_ok s lists = every (eqb (length lists) sizes.lists ∷ site_ok s ∷ lists_ok s.house s.live lists ∷ [])
