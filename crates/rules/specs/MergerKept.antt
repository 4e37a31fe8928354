-- A possible merger stays possible: start makes one, and merge and emit keep it.
use Rattle.std.specs.Prelude.{◌+◌, ◌-◌, ◌<◌, ◌≤◌, suc, zero, ℕ, eqb, ltb, get_or, length, replicate, true, List, ◌⊎◌, ◌≡◌, refl}
use Rattle.std.proofs.lemmas.Bool.{eqb-false}
use Rattle.std.proofs.Common.{eqb-true, ltb-false, ltb-true, get_or-set_other, get_or-set_same, inl, inr, ⊎_elim, ◌∙◌, ap, sym, arith}
use Rattle.std.proofs.lemmas.List.{get_or-replicate, length-replicate}
use Rattle.std.proofs.Math.ListN.{length-set}
use Rattle.kinds.specs.declared.House.{House}
use Rattle.kinds.specs.declared.Merger.{Merger}
use Rattle.kinds.specs.declared.Source.{Source}
use Rattle.laws.specs.Choice.{by_test, pick, some}
use Rattle.laws.specs.Overlay.{put_at}
use Rattle.laws.specs.Scan.{fold_below, split_last}
use Rattle.rules.specs.HouseLaws.{house_passed}
use Rattle.rules.specs.House.{in_mask, house_ok}
use Rattle.rules.specs.Merger.{due_code, emit_code, emit_due, emit_of, fresh_merger, head_in, heads_of, least_head, merge_code, merge_of}
use Rattle.rules.specs.Merger.{merge_part, merge_part_code, merge_state, merge_state_code, past_source, place_at, place_words, pop_merger}
use Rattle.rules.specs.Merger.{pop_merger_at, pop_queues, pop_source, queued_part, source_at, with_source}
use Rattle.rules.specs.MergerClear.{MergerClear, QueuedClear, merge_clear, part_long, part_short, part_taken, taken_part}
use Rattle.rules.specs.MergerLaws.{Queued, due_queued, pop_later}
use Rattle.rules.specs.MergerWords.{above, kept_place, length_popped, length_put, popped_place, put_elsewhere, put_length}
use Rattle.rules.specs.MergerWords.{put_part_back}
use Rattle.rules.specs.MessageLaws.{SiteClear, site_clear}
use Rattle.rules.specs.Record.{part_ok, record_head, state_ok}
use Rattle.rules.specs.RecordLaws.{part_clear, part_passed_good, shape_clear, state_clear, state_passed_good, part_shape}
use Rattle.kinds.specs.Kind as kind
use Rattle.kinds.specs.Sizes as sizes

-- eight sources, as every merger of the code has, and the state is possible
pub record Holds (g : Merger) (queues : List ℕ) : Type 0 where
  pub sized : length g.sources ≡ sizes.sites
  pub clear : MergerClear g queues

-- a record is good wherever its place's words are
moved_clear : (o : House) (a b : List ℕ) (i j k : ℕ) → place_words b i k ≡ place_words a i j → QueuedClear o a i j → QueuedClear o b i k
unfolding queued_part
moved_clear o a b i j k e c =
    record {
      short = rw e c.short;
      part = rw e c.part;
      site = rw e c.site;
    }

-- Start.
pub fresh_holds : (o : House) (k : ℕ) → house_ok o ≡ true → k ≡ sizes.queues → Holds (fresh_merger o) (replicate k 0)
unfolding fresh_merger
fresh_holds o k t e =
    let (some, few, table) = house_passed o t in
    record {
      sized = refl;
      clear =
          record {
            size = length-replicate k 0 ∙ e;
            house = t;
            some = some;
            few = few;
            counts = λ i h. rw (none i (omega arith)) (omega arith);
            parts = λ i j h l. absurd (let z = none i (omega arith) in omega arith);
            rest = λ i h l. none i l;
          };
    }
  where
    none : (i : ℕ) → i < sizes.sites → (get_or (replicate sizes.sites past_source) i past_source).queued ≡ 0
    none i h = rw (get_or-replicate sizes.sites i past_source past_source h) refl

-- Merge: a part behind the queue.
module _ (g : Merger) (queues m : List ℕ) (i : ℕ) (s : Source) where
  source_same : i < length g.sources → source_at (with_source g i s) i ≡ s
  source_same h = get_or-set_same g.sources i s past_source h

  source_other : (k : ℕ) → (k ≡ i → ⊥) → source_at (with_source g i s) k ≡ source_at g k
  source_other k f = get_or-set_other g.sources i k s past_source f

module _ (g : Merger) (queues m : List ℕ) (i : ℕ) (s : Source) (c : Holds g queues) (b : i < g.house.sites) where
  -- the places of the sites, as the counts with the new source say
  counted : (k : ℕ) → k < g.house.sites → s.queued ≤ sizes.queue → (source_at (with_source g i s) k).queued ≤ sizes.queue
  counted k h n =
      by_test (eqb k i)
      (λ t. let e = eqb-true k i t in rw (e, source_same g queues m i s (omega (arith, c.sized, c.clear.few))) n)
      (λ t. rw (source_other g queues m i s k (eqb-false k i t)) (c.clear.counts k h))

  -- the sites that the house lacks
  others_none : (k : ℕ) → g.house.sites ≤ k → k < sizes.sites → (source_at (with_source g i s) k).queued ≡ 0
  others_none k h l = rw (source_other g queues m i s k (λ z. omega arith)) (c.clear.rest k h l)

  state_kept : s.queued ≡ (source_at g i).queued → Holds (with_source g i s) queues
  state_kept n =
      record {
        sized = length-set g.sources i s ∙ c.sized;
        clear =
            record {
              size = c.clear.size;
              house = c.clear.house;
              some = c.clear.some;
              few = c.clear.few;
              counts = λ k h. counted k h (omega (arith, c.clear.counts i b));
              parts = λ k j h l. c.clear.parts k j h (rw (same k) at l);
              rest = others_none;
            };
      }
    where
      same : (k : ℕ) → (source_at (with_source g i s) k).queued ≡ (source_at g k).queued
      same k =
          by_test (eqb k i)
          (λ t. let e = eqb-true k i t in rw (e, source_same g queues m i s (omega (arith, c.sized, c.clear.few))) n)
          (λ t. rw (source_other g queues m i s k (eqb-false k i t)) refl)

  module _ (p : part_ok g.house m ≡ true) (e : (record_head m).site ≡ i + 1) (r : (source_at g i).queued < sizes.queue)
      (n : s.queued ≡ (source_at g i).queued + 1) where
    -- the queues with the part
    after : List ℕ
    after = put_at (place_at i (source_at g i).queued) queues m

    part_new : QueuedClear g.house after i (source_at g i).queued
    unfolding after
    part_new =
        let q = (source_at g i).queued in
        let h = part_long g.house m p in
        let l = part_short g.house m p in
        let w = (shape_clear m (part_shape g.house m p)).whole in
        let f = c.clear.few in
        let k = put_length queues m i q c.clear.size (omega arith) r l (omega arith) w in
        let z = put_part_back queues m i q c.clear.size (omega arith) r l (omega arith) w in
        record { short = rw k l; part = rw z p; site = rw z e }

    part_old : (k j : ℕ)
        → (place_at k j + sizes.part ≤ place_at i (source_at g i).queued) ⊎ (place_at i (source_at g i).queued + sizes.part ≤ place_at k j)
        → QueuedClear g.house queues k j → QueuedClear g.house after k j
    unfolding after
    part_old k j d o =
        let f = c.clear.few in
        moved_clear g.house queues after k j j
        (put_elsewhere queues m i (source_at g i).queued c.clear.size (omega arith) r (part_short g.house m p) k j d) o

    part_there : (k j : ℕ) → k < g.house.sites → j < (source_at (with_source g i s) k).queued → QueuedClear g.house after k j
    part_there k j h l =
        by_test (eqb k i)
        (λ t. let z = eqb-true k i t in
        let f = c.clear.few in
        let q = source_same g queues m i s (omega (arith, c.sized)) in
        let u : j < (source_at g i).queued + 1 = rw (z, q, n) at l in
        rw z
        (by_test (eqb j (source_at g i).queued)
        (λ w. rw (eqb-true j (source_at g i).queued w) part_new)
        (λ w. let y : j < (source_at g i).queued = above j (source_at g i).queued (omega arith) (eqb-false j (source_at g i).queued w) in
        part_old i j (inl (omega arith)) (c.clear.parts i j b y))))
        (λ t. let f = eqb-false k i t in
        let u : j < (source_at g k).queued = rw (source_other g queues m i s k f) at l in
        let o = c.clear.parts k j h u in
        let w = c.clear.counts k h in
        by_test (ltb k i)
        (λ v. let y = ltb-true k i v in part_old k j (inl (omega arith)) o)
        (λ v. let y = above i k (ltb-false k i v) (λ x. f (sym x)) in part_old k j (inr (omega arith)) o))

    part_kept : Holds (with_source g i s) after
    unfolding after
    part_kept =
        let f = c.clear.few in
        let l = part_short g.house m p in
        record {
          sized = length-set g.sources i s ∙ c.sized;
          clear =
              record {
                size = length_put (place_at i (source_at g i).queued) queues m (omega (arith, c.clear.size)) ∙ c.clear.size;
                house = c.clear.house;
                some = c.clear.some;
                few = c.clear.few;
                counts = λ k h. counted k h (omega arith);
                parts = part_there;
                rest = others_none;
              };
        }

-- the site of a taken record is one of the house
taken_site : (g : Merger) (queues m : List ℕ) → merge_code g queues m ≡ 0 → SiteClear g.house (record_head m).site
taken_site g queues m e =
    ⊎_elim
    (λ (p : part_ok g.house m ≡ true).
    site_clear g.house (record_head m).site (part_clear g.house (record_head m) (part_passed_good g.house m p).head).site)
    (λ (s : state_ok g.house m ≡ true).
    site_clear g.house (record_head m).site (state_clear g.house (record_head m) (state_passed_good g.house m s).head).site)
    (merge_clear g queues m e).record_ok

merge_part_kept : (g : Merger) (queues m : List ℕ) → Holds g queues → merge_code g queues m ≡ 0 → (record_head m).kind ≡ kind.part
    → Holds (merge_part g queues m).merger (merge_part g queues m).queues
unfolding merge_part after
merge_part_kept g queues m c e k =
    let r = record_head m in
    let i = r.site - 1 in
    let s = taken_site g queues m e in
    by_test (eqb (merge_part_code (source_at g i) r) 0)
    (λ t. let p = part_taken (source_at g i) r (eqb-true _ _ t) in
    let n : Source =
    record { state = (source_at g i).state; number = r.number; coordinator = r.coordinator; queued = (source_at g i).queued + 1 } in
    rw t (part_kept g queues m i n c (omega arith) (taken_part g queues m e k) (omega arith) p.room refl))
    (λ t. rw t c)

merge_state_kept : (g : Merger) (queues m : List ℕ) → Holds g queues → merge_code g queues m ≡ 0
    → Holds (merge_state g queues m).merger (merge_state g queues m).queues
unfolding merge_state
merge_state_kept g queues m c e =
    let r = record_head m in
    let i = r.site - 1 in
    let s = taken_site g queues m e in
    by_test (eqb (merge_state_code (source_at g i) r) 0)
    (λ t. let n : Source =
    record { state = r.number; number = (source_at g i).number; coordinator = (source_at g i).coordinator; queued = (source_at g i).queued }
    in
    rw t (state_kept g queues m i n c (omega arith) refl))
    (λ t. rw t c)

pub merge_kept : (g : Merger) (queues m : List ℕ) → Holds g queues → Holds (merge_of g queues m).merger (merge_of g queues m).queues
unfolding merge_of
merge_kept g queues m c =
    by_test (eqb (merge_code g queues m) 0)
    (λ t. let e = eqb-true _ _ t in
    by_test (eqb (record_head m).kind kind.part)
    (λ k. rw (t, k) (merge_part_kept g queues m c e (eqb-true _ _ k)))
    (λ k. rw (t, k) (merge_state_kept g queues m c e)))
    (λ t. rw t c)

-- Emit: the sites of the mask are without their heads.
pub pop_house : (g : Merger) (mask n : ℕ) → (pop_merger g mask n).house ≡ g.house
unfolding pop_merger fold_below pop_merger_at
pop_house g mask zero = refl
pop_house g mask (suc n) = by_test (in_mask mask (n + 1)) (λ t. rw t (pop_house g mask n)) (λ t. rw t (pop_house g mask n))

pop_sized : (g : Merger) (mask n : ℕ) → length (pop_merger g mask n).sources ≡ length g.sources
unfolding pop_merger fold_below pop_merger_at
pop_sized g mask zero = refl
pop_sized g mask (suc n) =
    let h = pop_merger g mask n in
    by_test (in_mask mask (n + 1))
    (λ t. rw t (length-set h.sources n (pop_source (source_at h n)) ∙ pop_sized g mask n))
    (λ t. rw t (pop_sized g mask n))

pub popped_source : (g : Merger) (mask n i : ℕ) → n ≤ length g.sources → i < n
    → source_at (pop_merger g mask n) i ≡ pick (in_mask mask (i + 1)) (pop_source (source_at g i)) (source_at g i)
unfolding pop_merger fold_below pop_merger_at
popped_source g mask zero i b h = absurd (omega arith)
popped_source g mask (suc n) i b h =
    let p = pop_merger g mask n in
    let l = pop_sized g mask n in
    split_last h
    (λ (z : i ≡ n). rw z
    (by_test (in_mask mask (n + 1))
    (λ t. rw t (get_or-set_same p.sources n (pop_source (source_at p n)) past_source (omega arith)
    ∙ ap pop_source (pop_later g mask n n (omega arith))))
    (λ t. rw t (pop_later g mask n n (omega arith)))))
    (λ (y : i < n).
    let q = popped_source g mask n i (omega arith) y in
    by_test (in_mask mask (n + 1))
    (λ t. rw t (get_or-set_other p.sources n i (pop_source (source_at p n)) past_source (λ z. omega arith) ∙ q))
    (λ t. rw t q))

pop_kept : (g : Merger) (queues : List ℕ) (mask : ℕ) → Holds g queues → Queued g mask
    → Holds (pop_merger g mask g.house.sites) (pop_queues queues mask g.house.sites)
unfolding Queued
pop_kept g queues mask c f =
    let n = g.house.sites in
    let o = pop_house g mask n in
    let u = c.clear.few in
    let s : (i : ℕ) → i < n → source_at (pop_merger g mask n) i ≡ pick (in_mask mask (i + 1)) (pop_source (source_at g i)) (source_at g i) =
    λ i h. popped_source g mask n i (omega (arith, c.sized)) h in
    record {
      sized = pop_sized g mask n ∙ c.sized;
      clear =
          record {
            size = length_popped queues mask n c.clear.size u ∙ c.clear.size;
            house = rw o c.clear.house;
            some = rw o c.clear.some;
            few = rw o u;
            counts = λ i h. let k : i < n = rw o at h in
                let w = c.clear.counts i k in
                by_test (in_mask mask (i + 1)) (λ t. rw (s i k, t) (omega arith)) (λ t. rw (s i k, t) w);
            parts = λ i j h l. let k : i < n = rw o at h in
                let w = c.clear.counts i k in
                rw o
                (by_test (in_mask mask (i + 1))
                (λ t. let y = f i k t in let b : j < (source_at g i).queued - 1 = rw (s i k, t) at l in
                moved_clear g.house queues (pop_queues queues mask n) i (j + 1) j
                (popped_place queues mask n i c.clear.size u k j t (omega arith)) (c.clear.parts i (j + 1) k (omega arith)))
                (λ t. let b : j < (source_at g i).queued = rw (s i k, t) at l in
                moved_clear g.house queues (pop_queues queues mask n) i j j
                (kept_place queues mask n i c.clear.size u k j t (omega arith)) (c.clear.parts i j k b)));
            rest = λ i h l. let k : n ≤ i = rw o at h in rw (pop_later g mask n i k) (c.clear.rest i k l);
          };
    }

pub emit_kept : (g : Merger) (room : ℕ) (queues : List ℕ) → Holds g queues
    → Holds (emit_of g room queues).merger (emit_of g room queues).queues
unfolding emit_of emit_due
emit_kept g room queues c =
    let heads = heads_of queues g.house.sites in
    let least = least_head g heads g.house.sites in
    by_test (eqb (emit_code g queues room) 0)
    (λ t. by_test (eqb (due_code g heads least) 0)
    (λ d. rw (t, d) (pop_kept g queues (head_in heads least).mask c (due_queued g heads least (eqb-true _ _ d))))
    (λ d. rw (t, d) c))
    (λ t. rw t c)
