-- What a merge does, by cases, and the words of the queues after a part is put behind one of them.
use Prim.Native.Nat.{ℕ, ◌+◌, ◌-◌, ◌≤◌, ◌<◌}
use mathlib.Core.Path.{◌≡◌, refl, ◌∙◌}
use mathlib.Core.Bool.{true}
use mathlib.Core.Logic.{◌⊎◌, inl, inr, ⊎_elim}
use mathlib.Core.List.{List, [], ◌∷◌, ◌++◌}
use native.Mathlib.Omega.{arith}
use borrow.Author.Tests.{eqb-true, eqb-false, ltb-true, ltb-false}
use lib.Dec.{eqb, ltb}
use lib.ListN.{length-append}
use Rattle.laws.specs.Choice.{picked_left, by_test}
use Rattle.laws.specs.Cause.{cause, clear_at}
use Rattle.laws.specs.Overlay.{put_at}
use Rattle.kinds.specs.Sizes as sizes
use Rattle.kinds.specs.Kind as kind
use Rattle.kinds.specs.Reason as reason
use Rattle.kinds.specs.State.{past_entry}
use Rattle.kinds.specs.declared.House.{House}
use Rattle.kinds.specs.declared.Entry.{Entry}
use Rattle.kinds.specs.declared.RecordHead.{RecordHead}
use Rattle.kinds.specs.declared.Source.{Source}
use Rattle.kinds.specs.declared.Merger.{Merger}
use Rattle.rules.specs.House.{coordinator_of, is_tx}
use Rattle.rules.specs.MessageLaws.{site_clear}
use Rattle.rules.specs.Record.{record_head, part_ok, state_ok}
use Rattle.rules.specs.RecordLaws.{shape_clear, part_clear, part_passed_good, part_shape}
use Rattle.rules.specs.Merger.{done_merger, refused_merger, source_at, with_source, place_at, place_words, queued_part, merge_part_code}
use Rattle.rules.specs.Merger.{merge_part, merge_state_code, merge_state, merge_code, merge_of}
use Rattle.rules.specs.MergerClear.{PartTaken, part_taken, merge_clear, taken_part, part_short}
use Rattle.rules.specs.MergerKept.{Holds}
use Rattle.rules.specs.MergerWords.{put_part_back, put_elsewhere}
use Rattle.rules.proofs.Lists.Tables.{last_cases}
use Rattle.rules.proofs.Refine.Refines.{entry_words}
use Rattle.rules.proofs.Stream.Stream.{rank_of}
use Rattle.rules.proofs.Refine.RefineMerger.{SourceIs}

-- What a merge does: refused, a part taken, or a state taken.
pub record TakesPart (g : Merger) (queues m : List ℕ) (r : RecordHead) (i : ℕ) : Type 0 where
  pub ok : part_ok g.house m ≡ true
  pub taken : PartTaken (source_at g i) r
  pub is : merge_of g queues m
      ≡ done_merger
      (with_source g i
      (record { state = (source_at g i).state; number = r.number; coordinator = r.coordinator; queued = (source_at g i).queued + 1 }))
      (put_at (place_at i (source_at g i).queued) queues m)

pub record TakesState (g : Merger) (queues m : List ℕ) (r : RecordHead) (i : ℕ) : Type 0 where
  pub ok : state_ok g.house m ≡ true
  pub beyond : (source_at g i).state ≤ r.number
  pub is : merge_of g queues m
      ≡ done_merger
      (with_source g i
      (record {
        state = r.number;
        number = (source_at g i).number;
        coordinator = (source_at g i).coordinator;
        queued = (source_at g i).queued;
      })) queues

state_taken : (c : Source) (r : RecordHead) → merge_state_code c r ≡ 0 → c.state ≤ r.number
unfolding merge_state_code
state_taken c r e = ltb-false _ _ (clear_at (cause (ltb r.number c.state) reason.behind ∷ []) 0 refl e)

taken_state : (g : Merger) (queues m : List ℕ) → merge_code g queues m ≡ 0 → ((record_head m).kind ≡ kind.part → ⊥)
    → state_ok g.house m ≡ true
taken_state g queues m e k =
    ⊎_elim
    (λ (p : part_ok g.house m ≡ true). absurd (k (part_clear g.house (record_head m) (part_passed_good g.house m p).head).kind))
    (λ (s : state_ok g.house m ≡ true). s)
    (merge_clear g queues m e).record_ok

pub merge_cases : (g : Merger) (queues m : List ℕ)
    → ((n : ℕ) × (merge_of g queues m ≡ refused_merger n g queues))
    ⊎ (TakesPart g queues m (record_head m) ((record_head m).site - 1) ⊎ TakesState g queues m (record_head m) ((record_head m).site - 1))
unfolding merge_of merge_part merge_state
merge_cases g queues m =
    let r = record_head m in
    let c = source_at g (r.site - 1) in
    by_test (eqb (merge_code g queues m) 0)
    (λ e. by_test (eqb r.kind kind.part)
    (λ k. by_test (eqb (merge_part_code c r) 0)
    (λ d. inr (inl
    (record {
      ok = taken_part g queues m (eqb-true _ _ e) (eqb-true _ _ k);
      taken = part_taken c r (eqb-true _ _ d);
      is = rw (e, k, d);
    })))
    (λ d. inl (merge_part_code c r, rw (e, k, d))))
    (λ k. by_test (eqb (merge_state_code c r) 0)
    (λ d. inr (inr
    (record {
      ok = taken_state g queues m (eqb-true _ _ e) (eqb-false _ _ k);
      beyond = state_taken c r (eqb-true _ _ d);
      is = rw (e, k, d);
    })))
    (λ d. inl (merge_state_code c r, rw (e, k, d)))))
    (λ e. inl (merge_code g queues m, rw e))

pub tx_low : (o : House) (t : ℕ) → is_tx o t ≡ true → coordinator_of t ≤ o.sites
unfolding is_tx
tx_low o t e = (site_clear o (coordinator_of t) (picked_left _ _ e)).high

-- One site's queue with a part more, and the others.
module _ (g : Merger) (queues ws : List ℕ) (i : ℕ) (h : Holds g queues) (l : i < g.house.sites) (c : (source_at g i).queued < sizes.queue)
    (o : part_ok g.house ws ≡ true) where
  abbrev after : List ℕ
  after = put_at (place_at i (source_at g i).queued) queues ws

  place_kept : (k j : ℕ) → k < g.house.sites → j < (source_at g k).queued → ((k ≡ i) × (j ≡ (source_at g i).queued) → ⊥)
      → queued_part after k j ≡ queued_part queues k j
  unfolding queued_part
  place_kept k j a b n =
      let f = h.clear.few in
      let u = h.clear.counts k a in
      let put = put_elsewhere queues ws i (source_at g i).queued h.clear.size (omega arith) c (part_short g.house ws o) k j in
      let same : place_words after k j ≡ place_words queues k j =
      by_test (ltb k i)
      (λ t. put (inl (omega (arith, ltb-true k i t))))
      (λ t. by_test (ltb i k)
      (λ y. put (inr (omega (arith, ltb-true i k y))))
      (λ y. let e : k ≡ i = omega (arith, ltb-false k i t, ltb-false i k y) in
      put (inl (before k e j b n)))) in
      rw same
    where
      before : (k : ℕ) → k ≡ i → (j : ℕ) → j < (source_at g k).queued → ((k ≡ i) × (j ≡ (source_at g i).queued) → ⊥)
          → place_at k j + sizes.part ≤ place_at i (source_at g i).queued
      before k e j b n = let d : j < (source_at g i).queued = rw e at b in rw e (omega arith)

  new_part : queued_part after i (source_at g i).queued ≡ ws
  new_part =
      let f = h.clear.few in
      let s = shape_clear ws (part_shape g.house ws o) in
      put_part_back queues ws i (source_at g i).queued h.clear.size (omega arith) c (part_short g.house ws o)
      (omega arith) s.whole

  pub more_queued : (e : Entry) (queue : List Entry) (state last : ℕ) → ws ≡ entry_words (i + 1) e → coordinator_of e.tx < 16
      → SourceIs (source_at g i) queues i queue state last
      → SourceIs (record {
        state = (source_at g i).state;
        number = e.number;
        coordinator = coordinator_of e.tx;
        queued = (source_at g i).queued + 1;
      }) after i
      (queue ++ (e ∷ [])) state (rank_of e)
  more_queued e queue state last q b x =
      record {
        queued = omega (arith, x.queued, length-append queue (e ∷ []));
        state_is = x.state_is;
        last_is = refl;
        low = b;
        words = last_cases (λ j y. queued_part after i j ≡ entry_words (i + 1) y) queue e past_entry
            (λ j k. place_kept i j l (omega (arith, x.queued)) (λ z. omega (arith, z.1, x.queued)) ∙ x.words j k)
            (rw (← x.queued) (new_part ∙ q));
      }

  pub still_queued : (k : ℕ) (queue : List Entry) (state last : ℕ) → k < g.house.sites → (k ≡ i → ⊥)
      → SourceIs (source_at g k) queues k queue state last
      → SourceIs (source_at g k) after k queue state last
  still_queued k queue state last a n x =
      record {
        queued = x.queued;
        state_is = x.state_is;
        last_is = x.last_is;
        low = x.low;
        words = λ j b. place_kept k j a (omega (arith, x.queued)) (λ z. n z.0) ∙ x.words j b;
      }
