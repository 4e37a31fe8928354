-- S7, C12, C24 and C25: the live table, a part's place in it, and who holds a key.
use Rattle.std.specs.Prelude.{ℕ, List, [], ◌∷◌, Bool, true, not, get_or, ltb, leb, eqb}
use Rattle.std.specs.Int.Bits.{bit_and}
use Rattle.laws.specs.Choice.{pick, every}
use Rattle.laws.specs.Scan.{first_below, any_below}
use Rattle.kinds.specs.Sizes as sizes
use Rattle.kinds.specs.Stage as stage
use Rattle.kinds.specs.declared.Sub.{Sub}
use Rattle.kinds.specs.State.{past_sub}
use Rattle.rules.specs.House.{participants, replies_wanted}
use Rattle.rules.specs.Keys.{wrote_key}

abbrev pub part_at : List Sub → ℕ → Sub
part_at live i = get_or live i past_sub

abbrev pub stage_at : List Sub → ℕ → ℕ
stage_at live i = (part_at live i).course.stage

-- the first free place, or 16
unfoldable pub free_place : List Sub → ℕ
free_place live = first_below (λ i. eqb (stage_at live i) stage.free) sizes.live

-- a part of transaction tx
unfoldable pub is_part_of : Sub → ℕ → Bool
is_part_of b tx = every (not (eqb b.course.stage stage.free) ∷ eqb b.tx tx ∷ [])

-- the place of tx, or 16 where it is not held here
unfoldable pub place_of : List Sub → ℕ → ℕ
place_of live tx = first_below (λ i. is_part_of (part_at live i) tx) sizes.live

unfoldable pub is_held : List Sub → ℕ → Bool
is_held live tx = ltb (place_of live tx) sizes.live

-- the part at place i, which is not `place`, holds key k: it wrote k, and is neither installed nor aborted
unfoldable pub other_holds : ℕ → ℕ → ℕ → Sub → Bool
other_holds place k i b =
    every (not (eqb i place) ∷ not (eqb b.course.stage stage.free) ∷ wrote_key b.keys k ∷ [])

unfoldable pub key_held : List Sub → ℕ → ℕ → Bool
key_held live place k = any_below (λ i. other_holds place k i (part_at live i)) sizes.live

-- PREPARE taken, or the commit requested, and neither installed nor aborted
unfoldable pub is_prepared : Sub → Bool
is_prepared b = leb stage.prepared b.course.stage

-- in the queue: voted yes
unfoldable pub is_queued : Sub → Bool
is_queued b = pick (eqb b.course.stage stage.queued) true (eqb b.course.stage stage.decided)

-- every other participant has replied in this round: the replies of participants are as many as are wanted
unfoldable pub all_heard : ℕ → ℕ → ℕ → Bool
all_heard own heard mask = eqb (participants (bit_and heard mask)) (replies_wanted own mask)
