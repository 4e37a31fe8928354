-- Emit, as a step: the least head is the machine's, and what is written are the words of its item.
use Prim.Native.Nat.{ℕ, zero, suc, ◌+◌, ◌-◌, ◌≤◌, ◌<◌}
use mathlib.Core.Path.{◌≡◌, refl, sym, ap, ◌∙◌}
use mathlib.Core.Bool.{true, false}
use mathlib.Core.Logic.{◌⊎◌, inl, inr}
use mathlib.Core.List.{List, [], ◌∷◌, ◌++◌, map-append, append-nil}
use native.Mathlib.Numerals.{add-one}
use native.Mathlib.Omega.{arith}
use borrow.Author.Tests.{eqb-true}
use lib.Dec.{eqb}
use lib.ListN.{length}
use lib.Seq.{take-append-le}
use Rattle.laws.specs.Choice.{every_at, by_test, set_not}
use Rattle.laws.specs.Scan.{fold_below, all_below_at}
use Rattle.kinds.specs.Sizes as sizes
use Rattle.kinds.specs.declared.House.{House}
use Rattle.kinds.specs.declared.Entry.{Entry}
use Rattle.kinds.specs.declared.RecordHead.{RecordHead}
use Rattle.kinds.specs.declared.Merger.{Merger}
use Rattle.kinds.specs.declared.Answer.TheVariants.{Emitted}
use Rattle.rules.specs.House.{in_mask, home_of}
use Rattle.rules.specs.Keys.{sorted_key, sorted_count}
use Rattle.rules.specs.Value.{fits}
use Rattle.rules.specs.KeysLaws.{word_key}
use Rattle.rules.specs.Record.{record_words, record_head, record_writes, write_key, write_value, key_ascends, part_write_ok}
use Rattle.rules.specs.Record.{merged_tests, merged_ok}
use Rattle.rules.specs.RecordLaws.{writes_back, part_passed_good, merged_clear, merged_passed_good, merged_passed_words}
use Rattle.rules.specs.Merger.{Merging, refused_merger, source_at, pop_source, queued_part, heads_of, has_part, due_head, least_site, due_code}
use Rattle.rules.specs.Merger.{part_writes, joined_writes, writes_in, merged_head, pop_merger, pop_queues, emit_due, emit_code, emit_of}
use Rattle.rules.specs.MergerLaws.{has_part_lem, part_had}
use Rattle.rules.proofs.MergerJoin.{Emits, emits}
use Rattle.rules.specs.MergerKept.{Holds, emit_kept, popped_source, pop_house}
use Rattle.rules.specs.MergerWords.{popped_place, kept_place}
use Rattle.rules.specs.World.{World, step, merger_step, record_in}
use Rattle.rules.specs.World as world
use Rattle.rules.proofs.Lists.Tables.{All, a_nil, all_append, all_one}
use Rattle.rules.proofs.Protocol.ProtocolTables.{Protocol}
use Rattle.rules.proofs.Protocol.Invariants.{In}
use Rattle.rules.proofs.Protocol.Committed.{committed_asked}
use Rattle.rules.proofs.Refine.Refines.{IsRecord, entry_words, part_head_of, Refines, count_is}
use Rattle.rules.proofs.Stream.Stream as stream
use Rattle.rules.proofs.Stream.Stream.{Item, Stream, WholeAt, head_keys, behind_head, item_of, emitted}
use Rattle.rules.proofs.Stream.StreamInv.{head_real}
use Rattle.rules.proofs.Stream.StreamReached.{Standing}
use Rattle.rules.proofs.Refine.RefineHeads.{clear_head, inside, head_is, some_queued, low, due_is, due_at, rank_part, part_rank}
use Rattle.rules.proofs.Refine.RefineMerger.{key_words, site_writes, item_writes, item_words, SourceIs, MergerIs, Placed, StreamIs}
use Rattle.rules.proofs.Refine.RefineMerger.{Onward}
use Rattle.rules.proofs.Refine.RefineMerger.{one_step, part_head_lem}

-- An emit is refused, or emits.
emit_cases : (g : Merger) (room : ℕ) (queues : List ℕ)
    → ((n : ℕ) × (emit_of g room queues ≡ refused_merger n g queues)) ⊎ Emits g queues (emit_of g room queues)
unfolding emit_of emit_due
emit_cases g room queues =
    let heads = heads_of queues g.house.sites in
    let h = due_head g queues in
    by_test (eqb (emit_code g queues room) 0)
    (λ x. by_test (eqb (due_code g heads (least_site g queues)) 0)
    (λ y. let z : (emit_of g room queues).answer ≡ Emitted h.number h.coordinator h.tx = rw (x, y) in
    inr (emits g room queues h.number h.coordinator h.tx z))
    (λ y. inl (due_code g heads (least_site g queues), rw (x, y))))
    (λ x. inl (emit_code g queues room, rw x))

-- what is emitted is a record
merged_record : (m : List ℕ) → merged_ok m ≡ true → All IsRecord (record_in m)
unfolding merged_ok record_head
merged_record [] e = a_nil
merged_record (n ∷ m) e =
    all_one (
      every_at (merged_tests (n ∷ m)) 0 e,
      omega (arith, (merged_clear (record_head (n ∷ m)) (merged_passed_good (n ∷ m) e).head).kind),
    )

-- The house and the places after it.
module _ (g : Merger) (queues : List ℕ) (mask n i : ℕ) (c : Holds g queues) (h : n ≤ sizes.sites) (l : i < n) where
  source_popped : (e : Entry) (queue : List Entry) (state last : ℕ) → in_mask mask (i + 1) ≡ true → length (e ∷ queue) ≤ sizes.queue
      → SourceIs (source_at g i) queues i (e ∷ queue) state last
      → SourceIs (source_at (pop_merger g mask n) i) (pop_queues queues mask n) i queue state last
  unfolding queued_part
  source_popped e queue state last t b x =
      let y : source_at (pop_merger g mask n) i ≡ pop_source (source_at g i) = rw t at (popped_source g mask n i (omega (arith, c.sized)) l) in
      rw y
      (record {
        queued = omega (arith, x.queued);
        state_is = x.state_is;
        last_is = x.last_is;
        low = x.low;
        words = λ j k. rw (popped_place queues mask n i c.clear.size h l j t (omega arith), add-one j) (x.words (suc j) (omega arith));
      })

  source_kept : (queue : List Entry) (state last : ℕ) → in_mask mask (i + 1) ≡ false → length queue ≤ sizes.queue
      → SourceIs (source_at g i) queues i queue state last
      → SourceIs (source_at (pop_merger g mask n) i) (pop_queues queues mask n) i queue state last
  unfolding queued_part
  source_kept queue state last t b x =
      let y : source_at (pop_merger g mask n) i ≡ source_at g i = rw t at (popped_source g mask n i (omega (arith, c.sized)) l) in
      rw y
      (record {
        queued = x.queued;
        state_is = x.state_is;
        last_is = x.last_is;
        low = x.low;
        words = λ j k. rw (kept_place queues mask n i c.clear.size h l j t (omega arith)) (x.words j k);
      })

record_one : (n : ℕ) (x : Item) → record_in (item_words n x) ≡ item_words n x ∷ []
unfolding item_words record_words
record_one n x = refl

module _ {house : House} {w : World} {v : Stream} (x : StreamIs house w v) (z : Standing house v) where
  abbrev p : Protocol
  p = v.protocol

  abbrev m : stream.Merger
  m = v.merger

  abbrev g : Merger
  g = w.merger

  -- An emit.
  module _ {y : Merging} (d : Emits g w.queues y) (G : Entry) (r : List Entry) (q : m.queue (least_site g w.queues + 1) ≡ G ∷ r) where
    abbrev k : ℕ
    k = least_site g w.queues

    abbrev heads : List RecordHead
    heads = heads_of w.queues g.house.sites

    k_low : k < house.sites
    k_low = low x z k d.least G r q

    is_G : due_head g w.queues ≡ part_head_of (k + 1) G
    is_G = due_is x z k d.least G r q

    mask_G : (due_head g w.queues).mask ≡ G.mask
    unfolding part_head_of
    mask_G = ap (λ (h : RecordHead). h.mask) is_G

    whole_at : (i : ℕ) → i < house.sites → WholeAt G (i + 1) (m.queue (i + 1))
    unfolding part_head_of
    whole_at i l = go (m.queue (i + 1)) refl
      where
        there : in_mask G.mask (i + 1) ≡ has_part g heads (due_head g w.queues) i
        there = rw mask_G at (d.whole i (inside x z i l)).there

        go : (u : List Entry) → m.queue (i + 1) ≡ u → WholeAt G (i + 1) u
        go [] e =
            by_test (has_part g heads (due_head g w.queues) i)
            (λ t. absurd
            (let a = (has_part_lem g heads (due_head g w.queues) i t).queued in omega (arith, (x.merger.source i l).queued, ap length e)))
            (λ t. there ∙ t)
        go (e ∷ u) f =
            let h = head_is x z i l e u f in
            by_test (has_part g heads (due_head g w.queues) i)
            (λ t. inl (
              there ∙ t,
              (
                part_rank x z k d.least G r q i l e u f (has_part_lem g heads (due_head g w.queues) i t),
                rw (h, is_G) at ((d.whole i (inside x z i l)).tx t),
                rw (h, is_G) at ((d.whole i (inside x z i l)).mask t),
              ),
            ))
            (λ t. inr (
              there
                  ∙ t,
              λ n. set_not _ (part_had g heads (due_head g w.queues) i (rank_part x z k d.least G r q i l e u f n)) t,
            ))

    machine_emits : stream.Emits house m G
    machine_emits =
        record {
          site = k + 1;
          site_low = omega arith;
          site_high = omega (arith, k_low);
          behind = r;
          head = q;
          due = λ s a b. let e : s - 1 + 1 ≡ s = omega arith in rw e at (due_at x z k d.least G r q d.due (s - 1) (omega arith));
          whole = λ s a b. let e : s - 1 + 1 ≡ s = omega arith in rw e at (whole_at (s - 1) (omega arith));
        }

    -- The queues after it.
    queue_few : (i : ℕ) → i < house.sites → length (m.queue (i + 1)) ≤ sizes.queue
    queue_few i l = omega (arith, (x.merger.source i l).queued, x.merger.holds.clear.counts i (inside x z i l))

    abbrev item : Item
    item = item_of G m.queue

    -- a site of the mask has a head
    with_head : (P : List Entry → Type 0) (i : ℕ) → i < house.sites → in_mask G.mask (i + 1) ≡ true
        → ((e : Entry) (u : List Entry) → m.queue (i + 1) ≡ e ∷ u → P (e ∷ u)) → P (m.queue (i + 1))
    with_head P i l t f = go (m.queue (i + 1)) refl (whole_at i l)
      where
        go : (u : List Entry) → m.queue (i + 1) ≡ u → WholeAt G (i + 1) u → P u
        go [] e a = absurd (set_not _ t a)
        go (e ∷ u) q a = f e u q

    source_after : (i : ℕ) → i < house.sites
        → SourceIs (source_at (pop_merger g G.mask g.house.sites) i) (pop_queues w.queues G.mask g.house.sites) i
        ((emitted m G).queue (i + 1)) (m.state (i + 1)) (m.last (i + 1))
    source_after i l =
        let h = x.merger.holds in
        by_test (in_mask G.mask (i + 1))
        (λ t. rw t (with_head
        (λ u. length u ≤ sizes.queue → SourceIs (source_at g i) w.queues i u (m.state (i + 1)) (m.last (i + 1))
        → SourceIs (source_at (pop_merger g G.mask g.house.sites) i) (pop_queues w.queues G.mask g.house.sites) i
        (behind_head u) (m.state (i + 1)) (m.last (i + 1)))
        i l t
        (λ e u f b c. source_popped g w.queues G.mask g.house.sites i h h.clear.few (inside x z i l) e u (m.state (i + 1))
        (m.last (i + 1)) t b c)
        (queue_few i l) (x.merger.source i l)))
        (λ t. rw t (source_kept g w.queues G.mask g.house.sites i h h.clear.few (inside x z i l) (m.queue (i + 1))
        (m.state (i + 1)) (m.last (i + 1)) t (queue_few i l) (x.merger.source i l)))

    tables : Holds y.merger y.queues → MergerIs house y.merger y.queues (emitted m G)
    tables h =
        let a : y.merger ≡ pop_merger g G.mask g.house.sites = d.merger ∙ ap (λ (n : ℕ). pop_merger g n g.house.sites) mask_G in
        let b : y.queues ≡ pop_queues w.queues G.mask g.house.sites = d.queues_left
        ∙ ap (λ (n : ℕ). pop_queues w.queues n g.house.sites) mask_G in
        record {
          house_is = ap (λ (u : Merger). u.house) a ∙ pop_house g G.mask g.house.sites ∙ x.merger.house_is;
          holds = h;
          source = λ i l. rw (a, b) (source_after i l);
        }

    -- What is written.
    part_same : (i : ℕ) → i < house.sites → part_writes w.queues G.mask i ≡ site_writes item i
    unfolding part_writes entry_words
    part_same i l =
        by_test (in_mask G.mask (i + 1))
        (λ t. rw t (with_head (λ u. record_writes (queued_part w.queues i 0) ≡ key_words (head_keys u)) i l t
        (λ e u f. ap record_writes (clear_head x z i l e u f) ∙ writes_back (part_head_of (i + 1) e) (key_words e.keys))))
        (λ t. rw t)

    joined : (n : ℕ) → n ≤ house.sites → joined_writes w.queues G.mask n ≡ item_writes n item
    unfolding joined_writes item_writes fold_below
    joined zero h = refl
    joined (suc n) h =
        let a = joined n (omega arith) in
        let b = part_same n h in
        λ i. a i ++ b i

    words_are : y.words ≡ item_words house.sites item
    unfolding part_head_of item_words
    words_are =
        let n = g.house.sites in
        let ws = joined_writes w.queues (due_head g w.queues).mask n in
        let e : ws ≡ item_writes house.sites item =
        ap (λ (a : ℕ). joined_writes w.queues a n) mask_G ∙ ap (joined_writes w.queues G.mask) (count_is x.merger.house_is)
        ∙ joined house.sites (omega arith) in
        merged_passed_words y.words d.passes
        ∙ (λ i. record_words (d.head i) (d.writes i))
        ∙ ap (λ (a : RecordHead). record_words (merged_head a (writes_in ws)) ws) is_G
        ∙ ap (λ (a : List ℕ). record_words (merged_head (part_head_of (k + 1) G) (writes_in a)) a) e

    -- its keys are of their sites
    keys_there : (i j : ℕ) → i < house.sites → in_mask G.mask (i + 1) ≡ true → j < sorted_count (item.keys (i + 1))
        → home_of house (sorted_key (item.keys (i + 1)) j) ≡ i + 1
    unfolding part_write_ok entry_words part_head_of
    keys_there i j l t =
        rw t
        (with_head (λ u. j < sorted_count (head_keys u) → home_of house (sorted_key (head_keys u) j) ≡ i + 1) i l t
        (λ e u f b.
        let M = queued_part w.queues i 0 in
        let c = x.merger.holds.clear.parts i 0 (inside x z i l) (some_queued x z i l e u f) in
        let r : record_head M ≡ part_head_of (i + 1) e = ap record_head (clear_head x z i l e u f) ∙ part_head_lem (i + 1) e in
        let s : record_writes M ≡ key_words e.keys = ap record_writes (clear_head x z i l e u f)
        ∙ writes_back (part_head_of (i + 1) e) (key_words e.keys) in
        let a = rw (r, s) at (part_passed_good g.house M c.part).writes in
        let o = all_below_at (part_write_ok g.house (i + 1) (key_words e.keys)) (sorted_count e.keys) j a b in
        let n = eqb-true _ _
        (every_at (key_ascends (key_words e.keys) j ∷ eqb (home_of g.house (write_key (key_words e.keys) j)) (i + 1)
        ∷ fits (write_value (key_words e.keys) j) ∷ []) 1 o) in
        let v = word_key e.keys (sorted_count e.keys) j b in
        ap (λ (h : House). home_of h (sorted_key e.keys j)) (sym x.merger.house_is) ∙ ap (home_of g.house) (sym v) ∙ n))

    placed_new : Placed house item
    placed_new =
        record {
          keys = λ s j a t h. let e : s - 1 + 1 ≡ s = omega arith in
              rw e at (keys_there (s - 1) j (omega (arith, site_few s a t)) (rw e t) (rw e h));
          few = site_few;
        }
      where
        site_few : (s : ℕ) → 1 ≤ s → in_mask G.mask s ≡ true → s ≤ house.sites
        site_few s a t =
            let f = head_real z.invariant z.streamed (k + 1) G r (omega arith) q in
            let o : In (p.mask G.tx) s = (a, rw f.mask at t) in
            (z.invariant.parts.site s G.tx
            (z.invariant.account.asked_has G.tx s
            (committed_asked z.invariant.parts z.invariant.account G.tx f.committed) o)).1

    emit_to : Refines house (merger_step w y w.merged).world p → Holds y.merger y.queues
        → Onward house v (merger_step w y w.merged).world []
    unfolding merger_step
    emit_to f h = (
      record { protocol = p; merger = emitted m G; replayed = v.replayed },
      one_step (stream.merges _ (stream.emit G machine_emits)),
      refl,
      record {
        refines = f;
        merger = tables h;
        merged = x.merged;
        placed = all_append x.placed (all_one placed_new);
        emitted = rw (x.emitted, words_are, record_one house.sites item)
            (sym (map-append (item_words house.sites) m.out (item ∷ [])));
        replayed = x.replayed;
        copy = λ c. rw (take-append-le (v.replayed c) m.out (item ∷ []) (z.replayed c)) (x.copy c);
      },
    )

  pub emit_onward : (out : List ℕ) → Onward house v (step w (world.emit out)).world []
  unfolding step merger_step
  emit_onward out = go (emit_cases g (length out) w.queues)
    where
      go : ((n : ℕ) × (emit_of g (length out) w.queues ≡ refused_merger n g w.queues))
          ⊎ Emits g w.queues (emit_of g (length out) w.queues) → Onward house v (step w (world.emit out)).world []
      go (inl (n, e)) = rw (e, append-nil) (v, stream.stop, refl, x)
      go (inr d) = some (m.queue (least_site g w.queues + 1)) refl
        where
          some : (u : List Entry) → m.queue (least_site g w.queues + 1) ≡ u → Onward house v (step w (world.emit out)).world []
          some [] e =
              absurd (let l : least_site g w.queues < house.sites = omega (arith, d.least.below, count_is x.merger.house_is) in
              omega (arith, d.least.queued, (x.merger.source (least_site g w.queues) l).queued, ap length e))
          some (e ∷ u) q =
              let r = x.refines in
              emit_to d e u q
              (record {
                few = r.few;
                site = r.site;
                outside = r.outside;
                sent = r.sent;
                log = r.log;
                stream = all_append r.stream (merged_record _ d.passes);
              })
              (emit_kept g (length out) w.queues x.merger.holds)
