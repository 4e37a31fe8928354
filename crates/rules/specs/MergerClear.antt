-- S19, at the merger: what a state and a record that are not refused say, by name.
use Rattle.std.specs.Prelude.{◌+◌, ◌<◌, ◌≤◌, ℕ, eqb, leb, ltb, get_or, length, Bool, not, true, List, [], ◌∷◌, ◌⊎◌, ◌≡◌, refl}
use Rattle.std.proofs.Common.{eq-eqb, eqb-true, le-leb, leb-false, leb-true, ltb-true, ltb-false, inl, inr, ⊎_elim, ap, arith}
use Rattle.std.proofs.lemmas.Bool.{not-false}
use Rattle.kinds.specs.declared.House.{House}
use Rattle.kinds.specs.declared.Merger.{Merger}
use Rattle.kinds.specs.declared.RecordHead.{RecordHead}
use Rattle.kinds.specs.declared.Source.{Source}
use Rattle.laws.specs.Cause.{cause, clear_at}
use Rattle.laws.specs.Choice.{by_test, every_at, some}
use Rattle.laws.specs.Pair.{precedes}
use Rattle.laws.specs.Scan.{all_below_lem, all_below_at, all_below}
use Rattle.rules.specs.House.{house_ok}
use Rattle.rules.specs.HouseLaws.{house_passed}
use Rattle.rules.specs.Merger.{emit_code, merge_code, merge_part_code, merger_ok, place_words, queued_ok, queued_part, source_at, source_ok}
use Rattle.rules.specs.MessageLaws.{site_clear}
use Rattle.rules.specs.Record.{part_ok, part_tests, record_head, record_writes, state_ok, state_tests}
use Rattle.rules.specs.RecordLaws.{length_record, part_clear, part_passed_good, part_passed_words, shape_clear, state_clear}
use Rattle.rules.specs.RecordLaws.{state_passed_good}
use Rattle.kinds.specs.Kind as kind
use Rattle.kinds.specs.Reason as reason
use Rattle.kinds.specs.Sizes as sizes
use Rattle.kinds.specs.Word as word

-- the words of a part: at least a header
pub part_long : (o : House) (m : List ℕ) → part_ok o m ≡ true → sizes.record_header ≤ length m
unfolding part_ok
part_long o m e = (shape_clear m (every_at (part_tests o m) 0 e)).long

pub state_long : (o : House) (m : List ℕ) → state_ok o m ≡ true → sizes.record_header ≤ length m
unfolding state_ok
state_long o m e = (shape_clear m (every_at (state_tests o m) 0 e)).long

-- What a possible state is: queued parts are well made and of their site.
pub record QueuedClear (o : House) (queues : List ℕ) (i j : ℕ) : Type 0 where
  pub short : get_or (place_words queues i j) word.length 0 ≤ sizes.part
  pub part : part_ok o (queued_part queues i j) ≡ true
  pub site : (record_head (queued_part queues i j)).site ≡ i + 1

pub record MergerClear (g : Merger) (queues : List ℕ) : Type 0 where
  pub size : length queues ≡ sizes.queues
  pub house : house_ok g.house ≡ true
  pub some : 1 ≤ g.house.sites
  pub few : g.house.sites ≤ sizes.sites
  pub counts : (i : ℕ) → i < g.house.sites → (source_at g i).queued ≤ sizes.queue
  pub parts : (i j : ℕ) → i < g.house.sites → j < (source_at g i).queued → QueuedClear g.house queues i j
  pub rest : (i : ℕ) → g.house.sites ≤ i → i < sizes.sites → (source_at g i).queued ≡ 0

queued_clear : (o : House) (queues : List ℕ) (i j : ℕ) → queued_ok o queues i j ≡ true → QueuedClear o queues i j
unfolding queued_ok
queued_clear o queues i j e =
    let m = queued_part queues i j in
    let l = leb (get_or (place_words queues i j) word.length 0) sizes.part ∷ part_ok o m ∷ eqb (record_head m).site (i + 1) ∷ [] in
    record { short = leb-true _ _ (every_at l 0 e); part = every_at l 1 e; site = eqb-true _ _ (every_at l 2 e) }

clear_queued : (o : House) (queues : List ℕ) (i j : ℕ) → QueuedClear o queues i j → queued_ok o queues i j ≡ true
unfolding queued_ok
clear_queued o queues i j c = rw (le-leb _ _ c.short, c.part, eq-eqb _ _ c.site)

source_clear : (o : House) (queues : List ℕ) (c : Source) (i : ℕ) → source_ok o queues c i ≡ true
    → (c.queued ≤ sizes.queue) × ((j : ℕ) → j < c.queued → QueuedClear o queues i j)
unfolding source_ok
source_clear o queues c i e =
    let l = leb c.queued sizes.queue ∷ all_below (queued_ok o queues i) c.queued ∷ [] in
    (leb-true _ _ (every_at l 0 e), λ j h. queued_clear o queues i j (all_below_at (queued_ok o queues i) c.queued j (every_at l 1 e) h))

clear_source : (o : House) (queues : List ℕ) (c : Source) (i : ℕ) → c.queued ≤ sizes.queue
    → ((j : ℕ) → j < c.queued → QueuedClear o queues i j)
    → source_ok o queues c i ≡ true
unfolding source_ok
clear_source o queues c i n f =
    rw (le-leb _ _ n, ← all_below_lem (queued_ok o queues i) c.queued (λ j h. clear_queued o queues i j (f j h)))

-- a site that the house lacks has no part queued: it would be of a site of the house
source_rest : (o : House) (queues : List ℕ) (c : Source) (i : ℕ) → o.sites ≤ i → source_ok o queues c i ≡ true → c.queued ≡ 0
source_rest o queues c i h e =
    by_test (ltb 0 c.queued)
    (λ t. let q = (source_clear o queues c i e).1 0 (ltb-true 0 c.queued t) in
    let s = site_clear o (record_head (queued_part queues i 0)).site (part_clear o _ (part_passed_good o _ q.part).head).site in
    absurd (omega (arith, s.high, q.site)))
    (λ f. omega (arith, ltb-false 0 c.queued f))

rest_source : (o : House) (queues : List ℕ) (c : Source) (i : ℕ) → c.queued ≡ 0 → source_ok o queues c i ≡ true
rest_source o queues c i e = clear_source o queues c i (omega arith) (λ j h. absurd (omega arith))

pub merger_clear : (g : Merger) (queues : List ℕ) → merger_ok g queues ≡ true → MergerClear g queues
unfolding merger_ok
merger_clear g queues e =
    let t : ℕ → Bool = λ i. source_ok g.house queues (source_at g i) i in
    let l = eqb (length queues) sizes.queues ∷ house_ok g.house ∷ all_below t sizes.sites ∷ [] in
    let each : (i : ℕ) → i < sizes.sites → t i ≡ true = λ i b. all_below_at t sizes.sites i (every_at l 2 e) b in
    let (some, few, table) = house_passed g.house (every_at l 1 e) in
    record {
      size = eqb-true _ _ (every_at l 0 e);
      house = every_at l 1 e;
      some = some;
      few = few;
      counts = λ i b. (source_clear g.house queues (source_at g i) i (each i (omega arith))).0;
      parts = λ i j b. (source_clear g.house queues (source_at g i) i (each i (omega arith))).1 j;
      rest = λ i b k. source_rest g.house queues (source_at g i) i b (each i k);
    }

pub clear_merger : (g : Merger) (queues : List ℕ) → MergerClear g queues → merger_ok g queues ≡ true
unfolding merger_ok
clear_merger g queues c =
    rw (
      eq-eqb _ _ c.size,
      c.house,
      ← all_below_lem (λ i. source_ok g.house queues (source_at g i) i) sizes.sites each,
    )
  where
    each : (i : ℕ) → i < sizes.sites → source_ok g.house queues (source_at g i) i ≡ true
    each i b =
        by_test (ltb i g.house.sites)
        (λ t. let h = ltb-true i _ t in clear_source g.house queues (source_at g i) i (c.counts i h) (λ j b. c.parts i j h b))
        (λ f. rest_source g.house queues (source_at g i) i (c.rest i (ltb-false i _ f) b))

-- What merge takes: a part that fits its place, or a state.
pub record StateReady (m : List ℕ) : Type 0 where
  pub long : sizes.record_header ≤ length m
  pub low : 1 ≤ (record_head m).site
  pub high : (record_head m).site ≤ sizes.sites

pub record PartReady (queues m : List ℕ) : Type 0 where
  pub size : length queues ≡ sizes.queues
  pub short : length m ≤ sizes.part
  pub state : StateReady m

-- the words of a part: at most 57
pub part_short : (o : House) (m : List ℕ) → part_ok o m ≡ true → length m ≤ sizes.part
part_short o m e =
    let p = part_passed_good o m e in
    let c = part_clear o (record_head m) p.head in
    let w = ap length (part_passed_words o m e) in
    omega (arith, w, length_record (record_head m) (record_writes m) p.size, c.few)

-- what a merge that is not refused 2 is handed
pub record Mergeable (g : Merger) (queues m : List ℕ) : Type 0 where
  pub possible : MergerClear g queues
  pub record_ok : (part_ok g.house m ≡ true) ⊎ (state_ok g.house m ≡ true)

pub merge_clear : (g : Merger) (queues m : List ℕ) → merge_code g queues m ≡ 0 → Mergeable g queues m
unfolding merge_code
merge_clear g queues m e =
    by_test (merger_ok g queues)
    (λ o. record {
      possible = merger_clear g queues o;
      record_ok =
          by_test (part_ok g.house m)
          (λ p. inl p)
          (λ p. by_test (state_ok g.house m)
          (λ s. inr s)
          (λ s. absurd (let z = rw (o, p, s) at e in omega arith)));
    })
    (λ o. absurd (let z = rw o at e in omega arith))

part_state : (o : House) (m : List ℕ) → o.sites ≤ sizes.sites → part_ok o m ≡ true → StateReady m
part_state o m n e =
    let s = site_clear o (record_head m).site (part_clear o (record_head m) (part_passed_good o m e).head).site in
    record { long = part_long o m e; low = s.low; high = omega arith }

state_state : (o : House) (m : List ℕ) → o.sites ≤ sizes.sites → state_ok o m ≡ true → StateReady m
state_state o m n e =
    let s = site_clear o (record_head m).site (state_clear o (record_head m) (state_passed_good o m e).head).site in
    record { long = state_long o m e; low = s.low; high = omega arith }

pub state_ready : (g : Merger) (queues m : List ℕ) → merge_code g queues m ≡ 0 → StateReady m
state_ready g queues m e =
    let c = merge_clear g queues m e in
    ⊎_elim (part_state g.house m c.possible.few) (state_state g.house m c.possible.few) c.record_ok

-- a record of the kind of a part is one
pub taken_part : (g : Merger) (queues m : List ℕ) → merge_code g queues m ≡ 0 → (record_head m).kind ≡ kind.part → part_ok g.house m ≡ true
taken_part g queues m e k =
    ⊎_elim (λ p. p)
    (λ s. absurd (omega (arith, (state_clear g.house (record_head m) (state_passed_good g.house m s).head).kind)))
    (merge_clear g queues m e).record_ok

pub part_ready : (g : Merger) (queues m : List ℕ) → merge_code g queues m ≡ 0 → (record_head m).kind ≡ kind.part → PartReady queues m
part_ready g queues m e k =
    record {
      size = (merge_clear g queues m e).possible.size;
      short = part_short g.house m (taken_part g queues m e k);
      state = state_ready g queues m e;
    }

pub emit_clear : (g : Merger) (queues : List ℕ) (room : ℕ) → emit_code g queues room ≡ 0 → (sizes.merged ≤ room) × MergerClear g queues
unfolding emit_code
emit_clear g queues room e =
    by_test (ltb room sizes.merged)
    (λ s. absurd (let z = rw s at e in omega arith))
    (λ s. by_test (merger_ok g queues)
    (λ o. (ltb-false _ _ s, merger_clear g queues o))
    (λ o. absurd (let z = rw (s, o) at e in omega arith)))

-- A part that is taken: above the site's last part, its number above the site's last state, and a place free.
pub record PartTaken (c : Source) (r : RecordHead) : Type 0 where
  pub above : precedes c.number c.coordinator r.number r.coordinator ≡ true
  pub beyond : c.state < r.number
  pub room : c.queued < sizes.queue

pub part_taken : (c : Source) (r : RecordHead) → merge_part_code c r ≡ 0 → PartTaken c r
unfolding merge_part_code
part_taken c r e =
    let l =
    cause (not (precedes c.number c.coordinator r.number r.coordinator)) reason.behind
    ∷ cause (leb r.number c.state) reason.behind
    ∷ cause (leb sizes.queue c.queued) reason.queue_full
    ∷ []
    in
    record {
      above = not-false _ (clear_at l 0 refl e);
      beyond = leb-false _ _ (clear_at l 1 refl e);
      room = leb-false _ _ (clear_at l 2 refl e);
    }
