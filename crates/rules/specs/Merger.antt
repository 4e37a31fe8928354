-- S13 and G1 to G4: the merger queues each site's parts and emits the due record.
use Rattle.std.specs.Prelude.{ℕ, ◌+◌, ◌-◌, ◌*◌, ◌/◌, List, [], ◌∷◌, ◌++◌, Bool, true, not, length, get_or, set, take, drop, replicate, ltb, leb, eqb}
use Rattle.laws.specs.Choice.{pick, every, some}
use Rattle.laws.specs.Scan.{all_below, fold_below}
use Rattle.laws.specs.Cause.{Cause, cause, code_of}
use Rattle.laws.specs.Overlay.{put_at}
use Rattle.laws.specs.Pair.{precedes}
use Rattle.kinds.specs.Sizes as sizes
use Rattle.kinds.specs.Kind as kind
use Rattle.kinds.specs.Reason as reason
use Rattle.kinds.specs.Word as word
use Rattle.kinds.specs.declared.House.{House}
use Rattle.kinds.specs.declared.RecordHead.{RecordHead}
use Rattle.kinds.specs.declared.Source.{Source}
use Rattle.kinds.specs.declared.Merger.{Merger}
use Rattle.kinds.specs.declared.MergerOut.{MergerOut}
use Rattle.kinds.specs.declared.Answer.{Answer}
use Rattle.kinds.specs.declared.Answer.TheVariants.{Refused, Done, Emitted}
use Rattle.rules.specs.House.{count_ok, table_ok, house_ok, house_of, no_house, in_mask}
use Rattle.rules.specs.Record.{record_head, record_writes, record_words, part_ok, state_ok}

-- What a call does: its answer, the words it writes, the merger and the queues' words after it.
pub record Merging : Type 0 where
  pub answer : Answer
  pub words : List ℕ
  pub merger : Merger
  pub queues : List ℕ

unfoldable pub merger_out_of : Merging → MergerOut
merger_out_of e = record { answer = e.answer; words = length e.words; merger = e.merger }

abbrev pub done_merger : Merger → List ℕ → Merging
done_merger g queues = record { answer = Done; words = []; merger = g; queues = queues }

abbrev pub refused_merger : ℕ → Merger → List ℕ → Merging
refused_merger n g queues = record { answer = Refused n; words = []; merger = g; queues = queues }

abbrev pub unless_merger : ℕ → Merger → List ℕ → Merging → Merging
unless_merger code g queues e = pick (eqb code 0) e (refused_merger code g queues)

abbrev pub past_source : Source
past_source = record { state = 0; number = 0; coordinator = 0; queued = 0 }

-- site i + 1
abbrev pub source_at : Merger → ℕ → Source
source_at g i = get_or g.sources i past_source

abbrev pub with_source : Merger → ℕ → Source → Merger
with_source g i c = record { house = g.house; sources = set g.sources i c }

-- The queued parts: for each site 16 places of 57 words, the head first.
abbrev pub place_at : ℕ → ℕ → ℕ
place_at i j = sizes.site_queue * i + sizes.part * j

-- the words of place j of site i + 1, and the record there
unfoldable pub place_words : List ℕ → ℕ → ℕ → List ℕ
place_words queues i j = take sizes.part (drop (place_at i j) queues)

unfoldable pub queued_part : List ℕ → ℕ → ℕ → List ℕ
queued_part queues i j = take (get_or (place_words queues i j) word.length 0) (place_words queues i j)

-- A handed state: counts within the sizes, queued parts well made and of their site. No part is of a site that the house lacks.
unfoldable pub queued_ok : House → List ℕ → ℕ → ℕ → Bool
queued_ok o queues i j =
    every (leb (get_or (place_words queues i j) word.length 0) sizes.part
    ∷ part_ok o (queued_part queues i j)
    ∷ eqb (record_head (queued_part queues i j)).site (i + 1)
    ∷ [])

unfoldable pub source_ok : House → List ℕ → Source → ℕ → Bool
source_ok o queues c i = every (leb c.queued sizes.queue ∷ all_below (queued_ok o queues i) c.queued ∷ [])

unfoldable pub merger_ok : Merger → List ℕ → Bool
merger_ok g queues =
    every (eqb (length queues) sizes.queues
    ∷ house_ok g.house
    ∷ all_below (λ i. source_ok g.house queues (source_at g i) i) sizes.sites
    ∷ [])

-- Merge: a part behind the site's queue, or its state number.
abbrev pub merge_part_causes : Source → RecordHead → List Cause
merge_part_causes c r =
    cause (not (precedes c.number c.coordinator r.number r.coordinator)) reason.behind
    ∷ cause (leb r.number c.state) reason.behind
    ∷ cause (leb sizes.queue c.queued) reason.queue_full
    ∷ []

unfoldable pub merge_part_code : Source → RecordHead → ℕ
merge_part_code c r = code_of (merge_part_causes c r)

unfoldable pub merge_part : Merger → List ℕ → List ℕ → Merging
merge_part g queues m =
    let r = record_head m in
    let i = r.site - 1 in
    let c = source_at g i in
    unless_merger (merge_part_code c r) g queues
    (done_merger
    (with_source g i (record { state = c.state; number = r.number; coordinator = r.coordinator; queued = c.queued + 1 }))
    (put_at (place_at i c.queued) queues m))

abbrev pub merge_state_causes : Source → RecordHead → List Cause
merge_state_causes c r = cause (ltb r.number c.state) reason.behind ∷ []

unfoldable pub merge_state_code : Source → RecordHead → ℕ
merge_state_code c r = code_of (merge_state_causes c r)

unfoldable pub merge_state : Merger → List ℕ → List ℕ → Merging
merge_state g queues m =
    let r = record_head m in
    let i = r.site - 1 in
    let c = source_at g i in
    unless_merger (merge_state_code c r) g queues
    (done_merger
    (with_source g i (record { state = r.number; number = c.number; coordinator = c.coordinator; queued = c.queued }))
    queues)

abbrev pub merge_causes : Merger → List ℕ → List ℕ → List Cause
merge_causes g queues m =
    cause (not (merger_ok g queues)) reason.malformed
    ∷ cause (not (some (part_ok g.house m ∷ state_ok g.house m ∷ []))) reason.malformed
    ∷ []

unfoldable pub merge_code : Merger → List ℕ → List ℕ → ℕ
merge_code g queues m = code_of (merge_causes g queues m)

unfoldable pub merge_of : Merger → List ℕ → List ℕ → Merging
merge_of g queues m =
    unless_merger (merge_code g queues m) g queues
    (pick (eqb (record_head m).kind kind.part) (merge_part g queues m) (merge_state g queues m))

-- Emit: the heads of the sites are one value, in the order by (number, coordinator).
unfoldable pub head_at : List ℕ → ℕ → RecordHead
head_at queues i = record_head (place_words queues i 0)

abbrev pub no_head : RecordHead
no_head = record { kind = 0; site = 0; number = 0; coordinator = 0; tx = 0; mask = 0; count = 0 }

unfoldable pub heads_of : List ℕ → ℕ → List RecordHead
heads_of queues n = fold_below (λ i l. set l i (head_at queues i)) n (replicate sizes.sites no_head)

abbrev pub head_in : List RecordHead → ℕ → RecordHead
head_in heads i = get_or heads i no_head

abbrev pub head_before : RecordHead → RecordHead → Bool
head_before a b = precedes a.number a.coordinator b.number b.coordinator

-- which of them count: those of the sites that have a part queued
unfoldable pub has_head : Merger → ℕ → Bool
has_head g i = ltb 0 (source_at g i).queued

-- the better of the best site index so far and i; 8 for none
unfoldable pub better_head : Merger → List RecordHead → ℕ → ℕ → ℕ
better_head g heads i best =
    pick (has_head g i) (pick (ltb best sizes.sites) (pick (head_before (head_in heads i) (head_in heads best)) i best) i) best

-- the site index of g, the least head; 8 for none
unfoldable pub least_head : Merger → List RecordHead → ℕ → ℕ
least_head g heads n = fold_below (better_head g heads) n sizes.sites

-- g itself, of the heads as they stand in the queues
abbrev pub least_site : Merger → List ℕ → ℕ
least_site g queues = least_head g (heads_of queues g.house.sites) g.house.sites

abbrev pub due_head : Merger → List ℕ → RecordHead
due_head g queues = head_in (heads_of queues g.house.sites) (least_site g queues)

-- due when every site of the house has a queued part or a state number at or above g's number
unfoldable pub is_due_at : Merger → ℕ → ℕ → Bool
is_due_at g number i = pick (has_head g i) true (leb number (source_at g i).state)

unfoldable pub is_due : Merger → List RecordHead → ℕ → Bool
is_due g heads least =
    every (ltb least sizes.sites ∷ all_below (is_due_at g (head_in heads least).number) g.house.sites ∷ [])

-- site i + 1 has a head of r's pair
unfoldable pub has_part : Merger → List RecordHead → RecordHead → ℕ → Bool
has_part g heads r i =
    every (has_head g i ∷ eqb (head_in heads i).number r.number ∷ eqb (head_in heads i).coordinator r.coordinator ∷ [])

-- it has one where r's mask names it, and not elsewhere, and agrees with r in words 5 and 6
unfoldable pub is_whole_at : Merger → List RecordHead → RecordHead → ℕ → Bool
is_whole_at g heads r i =
    pick (in_mask r.mask (i + 1))
    (every (has_part g heads r i ∷ eqb (head_in heads i).tx r.tx ∷ eqb (head_in heads i).mask r.mask ∷ []))
    (not (has_part g heads r i))

unfoldable pub is_whole : Merger → List RecordHead → RecordHead → Bool
is_whole g heads r = all_below (is_whole_at g heads r) g.house.sites

abbrev pub due_causes : Merger → List RecordHead → ℕ → List Cause
due_causes g heads least =
    cause (every (is_due g heads least ∷ not (is_whole g heads (head_in heads least)) ∷ [])) reason.not_whole
    ∷ cause (not (is_due g heads least)) reason.nothing
    ∷ []

unfoldable pub due_code : Merger → List RecordHead → ℕ → ℕ
due_code g heads least = code_of (due_causes g heads least)

-- the writes of a whole record's parts among the first n sites, by key ascending since sites hold ascending keys
unfoldable pub part_writes : List ℕ → ℕ → ℕ → List ℕ
part_writes queues mask i = pick (in_mask mask (i + 1)) (record_writes (queued_part queues i 0)) []

unfoldable pub joined_writes : List ℕ → ℕ → ℕ → List ℕ
joined_writes queues mask n = fold_below (λ i ws. ws ++ part_writes queues mask i) n []

abbrev pub writes_in : List ℕ → ℕ
writes_in ws = length ws / sizes.write

abbrev pub merged_head : RecordHead → ℕ → RecordHead
merged_head r count =
    record { kind = kind.merged; site = 0; number = r.number; coordinator = r.coordinator; tx = r.tx; mask = r.mask; count = count }

unfoldable pub merged_words : List ℕ → ℕ → RecordHead → List ℕ
merged_words queues n r =
    let ws = joined_writes queues r.mask n in
    record_words (merged_head r (writes_in ws)) ws

-- a site's queue without its head: the places behind it move up, and the last is 0
abbrev pub behind_head : List ℕ → List ℕ
behind_head ws = drop sizes.part ws ++ replicate sizes.part 0

unfoldable pub site_words : List ℕ → ℕ → List ℕ
site_words queues i = take sizes.site_queue (drop (sizes.site_queue * i) queues)

unfoldable pub pop_queue : List ℕ → ℕ → List ℕ
pop_queue queues i = put_at (sizes.site_queue * i) queues (behind_head (site_words queues i))

unfoldable pub pop_queue_at : ℕ → ℕ → List ℕ → List ℕ
pop_queue_at mask i queues = pick (in_mask mask (i + 1)) (pop_queue queues i) queues

unfoldable pub pop_queues : List ℕ → ℕ → ℕ → List ℕ
pop_queues queues mask n = fold_below (pop_queue_at mask) n queues

abbrev pub pop_source : Source → Source
pop_source c = record { state = c.state; number = c.number; coordinator = c.coordinator; queued = c.queued - 1 }

unfoldable pub pop_merger_at : ℕ → ℕ → Merger → Merger
pop_merger_at mask i g = pick (in_mask mask (i + 1)) (with_source g i (pop_source (source_at g i))) g

unfoldable pub pop_merger : Merger → ℕ → ℕ → Merger
pop_merger g mask n = fold_below (pop_merger_at mask) n g

unfoldable pub emit_due : Merger → List ℕ → List RecordHead → ℕ → Merging
emit_due g queues heads least =
    let r = head_in heads least in
    unless_merger (due_code g heads least) g queues
    (record {
      answer = Emitted r.number r.coordinator r.tx;
      words = merged_words queues g.house.sites r;
      merger = pop_merger g r.mask g.house.sites;
      queues = pop_queues queues r.mask g.house.sites;
    })

abbrev pub emit_causes : Merger → List ℕ → ℕ → List Cause
emit_causes g queues room = cause (ltb room sizes.merged) reason.short ∷ cause (not (merger_ok g queues)) reason.malformed ∷ []

unfoldable pub emit_code : Merger → List ℕ → ℕ → ℕ
emit_code g queues room = code_of (emit_causes g queues room)

unfoldable pub emit_of : Merger → ℕ → List ℕ → Merging
emit_of g room queues =
    unless_merger (emit_code g queues room) g queues (emit_due g queues (heads_of queues g.house.sites) (least_site g queues))

-- Start.
unfoldable pub fresh_merger : House → Merger
fresh_merger o = record { house = o; sources = replicate sizes.sites past_source }

abbrev pub merger_start_causes : ℕ → List ℕ → ℕ → List Cause
merger_start_causes sites table given =
    cause (not (count_ok sites)) reason.malformed
    ∷ cause (not (eqb (length table) sites)) reason.malformed
    ∷ cause (not (eqb given sizes.queues)) reason.malformed
    ∷ cause (not (table_ok sites table)) reason.bad_table
    ∷ []

unfoldable pub merger_start_code : ℕ → List ℕ → ℕ → ℕ
merger_start_code sites table given = code_of (merger_start_causes sites table given)

unfoldable pub merger_start_of : ℕ → List ℕ → List ℕ → Merging
merger_start_of sites table queues =
    let code = merger_start_code sites table (length queues) in
    pick (eqb code 0)
    (done_merger (fresh_merger (house_of sites table)) (replicate (length queues) 0))
    (refused_merger code (fresh_merger no_house) queues)
