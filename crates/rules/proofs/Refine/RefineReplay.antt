-- Replay, as a step: a merged record that a copy takes is the next item, and its writes leave what the item leaves. And value.
use Prim.Native.Nat.{ℕ, zero, suc, ◌+◌, ◌*◌, ◌≤◌, ◌<◌}
use mathlib.Core.Path.{◌≡◌, refl, sym, ap, ◌∙◌}
use mathlib.Core.Bool.{true, not}
use mathlib.Core.Logic.{◌⊎◌, inl, inr, ⊎_elim}
use mathlib.Core.List.{List, [], ◌∷◌, ◌++◌}
use native.Mathlib.Nat.{eq-or-lt_of_le}
use native.Mathlib.Numerals.{add-one}
use native.Mathlib.Omega.{arith}
use borrow.Author.Tests.{eqb-true, lt-ltb, not-false}
use lib.Dec.{eqb}
use lib.ListN.{length, get_or, set, take, length-set, length-map}
use lib.Seq.{get_or-set_same, get_or-set_other, take-suc}
use Rattle.laws.specs.Choice.{every_at, by_test}
use Rattle.laws.specs.Cause.{cause, clear_at}
use Rattle.laws.specs.Pair.{rank, precedes, precedes_rank}
use Rattle.kinds.specs.Sizes as sizes
use Rattle.rules.specs.ValueLaws.{set_before}
use Rattle.kinds.specs.declared.House.{House}
use Rattle.kinds.specs.Kind as kind
use Rattle.kinds.specs.Reason as reason
use Rattle.kinds.specs.Word as word
use Rattle.kinds.specs.State.{fresh}
use Rattle.kinds.specs.declared.Answer.TheVariants.{Refused, Replayed}
use Rattle.rules.specs.House.{coordinator_of}
use Rattle.rules.specs.Record.{record_head, record_writes, merged_tests, merged_ok}
use Rattle.rules.specs.RecordLaws.{writes_back, merged_clear, merged_passed_good}
use Rattle.rules.specs.Merger.{writes_in}
use Rattle.rules.specs.Copy.{copy_number, copy_coordinator, copy_value, replay_code, replayed, replay_of}
use Rattle.rules.specs.World.{World, Handed, step, copy_step, replay_step, step_taken}
use Rattle.rules.specs.World as world
use Rattle.rules.proofs.Lists.Tables.{all_at, upd_cases, upd_both, all_is}
use Rattle.rules.proofs.Protocol.ProtocolTables.{Rec, r_part, r_state}
use Rattle.rules.proofs.Refine.Refines.{rec_words, part_head_of}
use Rattle.rules.proofs.Stream.Stream as stream
use Rattle.rules.proofs.Stream.Stream.{Item, Stream, item_rank}
use Rattle.rules.proofs.Stream.StreamInv.{past_item, item_at, item_low}
use Rattle.rules.proofs.Stream.StreamReached.{Standing}
use Rattle.rules.proofs.Stream.StreamClaims.{last_rank, prefix, item_rank_lem, left_in, left_more}
use Rattle.rules.proofs.Refine.RefineMerger.{item_writes, item_head, item_words, Placed, end_number, end_coordinator, CopyIs, StreamIs}
use Rattle.rules.proofs.Refine.RefineMerger.{Onward}
use Rattle.rules.proofs.Refine.RefineMerger.{one_step, posted_no_record, is_map, part_head_lem, state_head, item_head_lem, map_at}
use Rattle.rules.proofs.Refine.RefineMerger.{words_same}
use Rattle.rules.proofs.Refine.RefineLaid.{laid, length_put, put_header, put_value_lem, laid_item}

-- The pair of the last of some items.
pub end_number_lem : (k : ℕ) (l : List Item) (x : Item) → end_number k (l ++ (x ∷ [])) ≡ x.number
end_number_lem k [] x = refl
end_number_lem k (y ∷ l) x = end_number_lem y.number l x

pub end_coordinator_lem : (k : ℕ) (l : List Item) (x : Item) → end_coordinator k (l ++ (x ∷ [])) ≡ coordinator_of x.tx
end_coordinator_lem k [] x = refl
end_coordinator_lem k (y ∷ l) x = end_coordinator_lem (coordinator_of y.tx) l x

pub end_rank_lem : (m : stream.Merger) (n : ℕ) → n ≤ length m.out
    → rank (end_number 0 (take n m.out)) (end_coordinator 0 (take n m.out)) ≡ last_rank m n
end_rank_lem m zero h = refl
end_rank_lem m (suc n) h =
    rw (take-suc m.out n past_item h, end_number_lem 0 (take n m.out) (item_at m n), end_coordinator_lem 0 (take n m.out) (item_at m n)) refl

-- One item more replayed.
pub record Replays (copy ws : List ℕ) : Type 0 where
  pub size : length copy ≡ sizes.copy
  pub ok : merged_ok ws ≡ true
  pub above : precedes (copy_number copy) (copy_coordinator copy) (record_head ws).number (record_head ws).coordinator ≡ true
  pub is : replay_of copy ws ≡ record { answer = Replayed (record_head ws).number (record_head ws).coordinator; copy = replayed copy ws }

pub replay_cases : (copy ws : List ℕ) → ((n : ℕ) × (replay_of copy ws ≡ record { answer = Refused n; copy = copy })) ⊎ Replays copy ws
unfolding replay_of replay_code
replay_cases copy ws =
    let l =
    cause (not (eqb (length copy) sizes.copy)) reason.malformed
    ∷ cause (not (merged_ok ws)) reason.malformed
    ∷ cause (not (precedes (copy_number copy) (copy_coordinator copy) (record_head ws).number (record_head ws).coordinator)) reason.behind
    ∷ []
    in
    by_test (eqb (replay_code copy ws) 0)
    (λ e. let z = eqb-true (replay_code copy ws) 0 e in
    inr (record {
      size = eqb-true (length copy) sizes.copy (not-false _ (clear_at l 0 refl z));
      ok = not-false _ (clear_at l 1 refl z);
      above = not-false _ (clear_at l 2 refl z);
      is = rw e;
    }))
    (λ e. inl (replay_code copy ws, rw e))

item_writes_lem : (n : ℕ) (x : Item) → record_writes (item_words n x) ≡ item_writes n x
unfolding item_words
item_writes_lem n x = writes_back (item_head n x) (item_writes n x)

copy_more : {house : House} {copy : List ℕ} {l : List Item} (x : Item) → Placed house x → CopyIs house copy l
    → CopyIs house (replayed copy (item_words house.sites x)) (l ++ (x ∷ []))
unfolding replayed
copy_more {house} {copy} {l} x c i =
    let n = writes_in (item_writes house.sites x) in
    let a = set copy word.last_number x.number in
    let b = set a word.last_coordinator (coordinator_of x.tx) in
    let e : length b ≡ sizes.copy = length-set a word.last_coordinator (coordinator_of x.tx) ∙ length-set copy word.last_number x.number
    ∙ i.size in
    let f : length a ≡ sizes.copy = length-set copy word.last_number x.number ∙ i.size in
    rw (item_head_lem house.sites x, item_writes_lem house.sites x)
    (record {
      size = length_put b (item_writes house.sites x) n ∙ e;
      number =
          put_header b (item_writes house.sites x) n word.last_number (omega arith)
          ∙ get_or-set_other a word.last_coordinator word.last_number (coordinator_of x.tx) 0 (λ z. omega arith)
          ∙ get_or-set_same copy word.last_number x.number 0 (omega (arith, i.size))
          ∙ sym (end_number_lem 0 l x);
      coordinator =
          put_header b (item_writes house.sites x) n word.last_coordinator (omega arith)
          ∙ get_or-set_same a word.last_coordinator (coordinator_of x.tx) 0 (omega arith)
          ∙ sym (end_coordinator_lem 0 l x);
      value = λ k h.
          let v : copy_value b k ≡ copy_value copy k =
          set_before a word.last_coordinator (coordinator_of x.tx) (sizes.copy_header + sizes.value * k) (omega arith)
          ∙ set_before copy word.last_number x.number (sizes.copy_header + sizes.value * k) (omega arith) in
          put_value_lem b (item_writes house.sites x) n k e h
          ∙ ap (laid (item_writes house.sites x) k n) (v ∙ i.value k h)
          ∙ laid_item x c k h (left_in house k fresh l)
          ∙ sym (left_more house k fresh l x);
    })

module _ {house : House} {w : World} {v : Stream} (x : StreamIs house w v) (z : Standing house v) where
  abbrev m : stream.Merger
  m = v.merger

  -- what is handed in and passes as a merged record is an item, replayed or next
  record FromStream (c : ℕ) (ws : List ℕ) : Type 0 where
    place : ℕ
    reached : place ≤ v.replayed c
    below : place < length m.out
    words : ws ≡ item_words house.sites (item_at m place)
    there : place < length w.stream

  kind_in : (s : ℕ) (r : Rec) → (record_head (rec_words s r)).kind ≤ kind.state
  unfolding part_head_of
  kind_in s (r_part e) = rw (part_head_lem s e) (omega arith)
  kind_in s (r_state n) = rw (state_head s n) (omega arith)

  from_stream_lem : (c : ℕ) (ws : List ℕ) → Handed w (world.replay c ws) → merged_ok ws ≡ true → FromStream c ws
  unfolding record_head merged_ok
  from_stream_lem c ws h e = go h
    where
      k : (record_head ws).kind ≡ kind.merged
      k = (merged_clear (record_head ws) (merged_passed_good ws e).head).kind

      go : Handed w (world.replay c ws) → FromStream c ws
      go (inl a) =
          absurd (posted_no_record v.protocol.post ws (all_is x.refines.sent a) (every_at (merged_tests ws) 0 e) (omega (arith, k)))
      go (inr (inl (s, a))) =
          let (r, q) = is_map (rec_words s) (v.protocol.log s) (rw (x.refines.log s) at a) in
          absurd (let y : (record_head ws).kind ≡ (record_head (rec_words s r)).kind = ap (λ (l : List ℕ). (record_head l).kind) q in
          omega (arith, k, kind_in s r))
      go (inr (inr (i, a, b, q))) =
          let (d, f) = map_at (item_words house.sites) m.out past_item i (rw x.emitted at b) in
          record { place = i; reached = omega (arith, x.replayed c); below = d; words = sym q ∙ rw x.emitted f; there = b }

  -- the copy's last pair
  pub pair_low : (n : ℕ) → n ≤ length m.out → end_coordinator 0 (take n m.out) < 16
  pair_low zero h = omega arith
  pair_low (suc n) h =
      rw (take-suc m.out n past_item h, end_coordinator_lem 0 (take n m.out) (item_at m n))
      (omega (arith, item_low z.invariant z.streamed x.refines.few n h))

  module _ (c : ℕ) (ws : List ℕ) (t : Replays (w.copy c) ws) (f : FromStream c ws) where
    abbrev next : Item
    next = item_at m f.place

    above : last_rank m (v.replayed c) < item_rank next
    above =
        let i = x.copy c in
        let r : record_head ws ≡ item_head house.sites next = ap record_head f.words ∙ item_head_lem house.sites next in
        let a = rw (i.number, i.coordinator, r) at t.above in
        let b = precedes_rank (end_number 0 (take (v.replayed c) m.out)) (end_coordinator 0 (take (v.replayed c) m.out))
        next.number (coordinator_of next.tx)
        (pair_low (v.replayed c) (z.replayed c))
        (omega (arith, item_low z.invariant z.streamed x.refines.few f.place f.below)) a in
        omega (arith, end_rank_lem m (v.replayed c) (z.replayed c))

    is_next_lem : f.place ≡ v.replayed c
    is_next_lem =
        ⊎_elim (λ (h : f.place ≡ v.replayed c). h)
        (λ (h : f.place < v.replayed c). absurd (let q = prefix z.invariant z.streamed (v.replayed c) (z.replayed c) in
        omega (arith, above, q.low f.place h, item_rank_lem z.invariant z.streamed f.place f.below)))
        (eq-or-lt_of_le f.reached)

    counted : step_taken (Replayed (record_head ws).number (record_head ws).coordinator) w.stream (w.replayed c) ws ≡ v.replayed c + 1
    unfolding step_taken
    counted =
        let n : w.replayed c ≡ f.place = x.replayed c ∙ sym is_next_lem in
        let b : get_or w.stream f.place [] ≡ ws =
        rw x.emitted
        (map_at (item_words house.sites) m.out past_item f.place
        (omega (arith, length-map m.out (item_words house.sites), f.below))).1
        ∙ sym f.words in
        rw (n, lt-ltb f.place (length w.stream) f.there, b, words_same ws) (ap (λ (k : ℕ). k + 1) is_next_lem)

    -- the copy with it
    copied : CopyIs house (replayed (w.copy c) ws) (take (v.replayed c + 1) m.out)
    copied =
        let n = v.replayed c in
        let l : n < length m.out = omega (arith, f.below, is_next_lem) in
        let e : ws ≡ item_words house.sites (item_at m n) = f.words ∙ ap (λ (k : ℕ). item_words house.sites (item_at m k)) is_next_lem in
        rw (e, add-one n, take-suc m.out n past_item l) (copy_more (item_at m n) (all_at x.placed past_item n l) (x.copy c))

  pub replay_onward : (c : ℕ) (ws : List ℕ) → Handed w (world.replay c ws) → Onward house v (step w (world.replay c ws)).world []
  unfolding step replay_step copy_step step_taken
  replay_onward c ws h = go (replay_cases (w.copy c) ws)
    where
      go : ((n : ℕ) × (replay_of (w.copy c) ws ≡ record { answer = Refused n; copy = w.copy c })) ⊎ Replays (w.copy c) ws
          → Onward house v (step w (world.replay c ws)).world []
      go (inl (n, e)) =
          let r = x.refines in
          rw e (
            v,
            stream.stop,
            refl,
            record {
              refines = record { few = r.few; site = r.site; outside = r.outside; sent = r.sent; log = r.log; stream = r.stream };
              merger = x.merger;
              merged = x.merged;
              placed = x.placed;
              emitted = x.emitted;
              replayed = upd_cases (λ j k. k ≡ v.replayed j) w.replayed c (w.replayed c) (x.replayed c) (λ j a. x.replayed j);
              copy = upd_cases (λ j y. CopyIs house y (take (v.replayed j) m.out)) w.copy c (w.copy c) (x.copy c)
                  (λ j a. x.copy j);
            },
          )
      go (inr t) =
          let r = x.refines in
          let f = from_stream_lem c ws h t.ok in
          let l : v.replayed c < length m.out = omega (arith, f.below, is_next_lem c ws t f) in
          rw t.is (
            _,
            one_step (stream.replays c l),
            refl,
            record {
              refines = record { few = r.few; site = r.site; outside = r.outside; sent = r.sent; log = r.log; stream = r.stream };
              merger = x.merger;
              merged = x.merged;
              placed = x.placed;
              emitted = x.emitted;
              replayed = upd_both (λ j a b. a ≡ b) w.replayed v.replayed c _ (v.replayed c + 1) (counted c ws t f)
                  (λ j a. x.replayed j);
              copy = upd_both (λ j a b. CopyIs house a (take b m.out)) w.copy v.replayed c _ (v.replayed c + 1) (copied c ws t f)
                  (λ j a. x.copy j);
            },
          )

  -- a call that leaves the world
  pub stays_onward : Onward house v w []
  stays_onward = (v, stream.stop, refl, x)
