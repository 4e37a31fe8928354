-- Merge, as a step: a record of a log that is taken is the next one, or a state that moves nothing.
use Prim.Native.Nat.{ℕ, ◌+◌, ◌-◌, ◌≤◌, ◌<◌}
use mathlib.Core.Path.{◌≡◌, refl, sym, ap, ◌∙◌}
use mathlib.Core.Bool.{Bool, true, false}
use mathlib.Core.Logic.{◌⊎◌, inl, inr, ⊎_elim}
use mathlib.Core.List.{List, [], ◌∷◌, ◌++◌, append-nil}
use native.Mathlib.Nat.{eq-or-lt_of_le}
use native.Mathlib.Omega.{arith}
use borrow.Author.Tests.{eqb-true, eqb-false, ltb-true, lt-ltb}
use lib.Dec.{eqb, ltb}
use lib.ListN.{length, get_or, length-map}
use lib.Seq.{get_or-take, get_or-set_same, get_or-set_other, length-take-le}
use Rattle.kinds.specs.declared.House.{House}
use Rattle.laws.specs.Choice.{every, every_at, by_test, set_not}
use Rattle.laws.specs.Overlay.{put_at}
use Rattle.laws.specs.Pair.{precedes_rank}
use Rattle.kinds.specs.Kind as kind
use Rattle.kinds.specs.declared.Entry.{Entry}
use Rattle.kinds.specs.declared.RecordHead.{RecordHead}
use Rattle.kinds.specs.declared.Source.{Source}
use Rattle.kinds.specs.declared.Merger.{Merger}
use Rattle.kinds.specs.declared.Answer.TheVariants.{Done}
use Rattle.rules.specs.House.{coordinator_of, is_site}
use Rattle.rules.specs.MessageLaws.{site_clear}
use Rattle.rules.specs.Record.{record_head, record_shape, part_ok}
use Rattle.rules.specs.RecordLaws.{part_clear, part_passed_good, state_clear, state_passed_good, part_shape, state_shape}
use Rattle.rules.specs.Install.{state_words}
use Rattle.rules.specs.Merger.{Merging, done_merger, refused_merger, source_at, with_source, place_at, merge_of, past_source}
use Rattle.rules.specs.MergerClear.{PartTaken}
use Rattle.rules.specs.MergerKept.{Holds, merge_kept}
use Rattle.rules.specs.World.{World, Handed, upd, step, merger_step, merge_step, step_taken, same_words, record_in}
use Rattle.rules.specs.World as world
use Rattle.rules.proofs.Lists.Tables.{upd_cases, upd_same, upd_other, all_at, all_is}
use Rattle.rules.proofs.Protocol.ProtocolTables.{Protocol, Rec, r_part, r_state}
use Rattle.rules.proofs.Protocol.Frames.{in_range_lem}
use Rattle.rules.proofs.Refine.Refines.{rec_words, entry_words, part_head_of, count_is}
use Rattle.rules.proofs.Stream.Stream as stream
use Rattle.rules.proofs.Stream.Stream.{Stream, Steps, NextRecord, rank_of}
use Rattle.rules.proofs.Stream.StreamInv.{NotAbove}
use Rattle.rules.proofs.Stream.StreamReached.{Standing}
use Rattle.rules.proofs.Book.Told.{told_steps}
use Rattle.rules.proofs.Refine.RefineMerger.{item_words, MergerIs, StreamIs, Onward, one_step, posted_no_record, is_map, part_head_lem}
use Rattle.rules.proofs.Refine.RefineMerger.{state_head, item_head_lem, map_at, same_words_lem, words_same}
use Rattle.rules.proofs.Refine.RefineQueue.{TakesPart, TakesState, merge_cases, tx_low, more_queued, still_queued}

module _ {house : House} {w : World} {v : Stream} (x : StreamIs house w v) where
  abbrev p : Protocol
  p = v.protocol

  abbrev m : stream.Merger
  m = v.merger

  abbrev with_merger : stream.Merger → Stream
  with_merger n = record { protocol = v.protocol; merger = n; replayed = v.replayed }

  -- nothing is emitted
  quiet : (e : Merging) (merged : ℕ → ℕ) (n : stream.Merger) (s : Steps house v (with_merger n)) → told_steps s ≡ [] → n.out ≡ m.out
      → e.words ≡ []
      → MergerIs house e.merger e.queues n → ((s : ℕ) → merged s ≡ n.took s) → Onward house v (merger_step w e merged).world []
  unfolding merger_step
  quiet e merged n s t o k i c =
      let r = x.refines in
      let y : w.stream ++ record_in e.words ≡ w.stream = rw (k, append-nil) in (
        with_merger n,
        s,
        t,
        record {
          refines = record { few = r.few; site = r.site; outside = r.outside; sent = r.sent; log = r.log; stream = rw y r.stream };
          merger = i;
          merged = c;
          placed = rw o x.placed;
          emitted = rw (y, o) x.emitted;
          replayed = x.replayed;
          copy = rw o x.copy;
        },
      )

  -- what is handed in and passes as a record is one of a log, taken or next
  record FromLog (ws : List ℕ) (s : ℕ) : Type 0 where
    place : ℕ
    reached : place ≤ m.took s
    below : place < length (p.log s)
    words : ws ≡ rec_words s (get_or (p.log s) place (r_state 0))

  pub logged : (s i : ℕ) → i < length (w.log s)
      → (i < length (p.log s)) × (get_or (w.log s) i [] ≡ rec_words s (get_or (p.log s) i (r_state 0)))
  logged s i h = rw (x.refines.log s) (map_at (rec_words s) (p.log s) (r_state 0) i (rw (x.refines.log s) at h))

  site_in_lem : (s : ℕ) (r : Rec) → (record_head (rec_words s r)).site ≡ s
  unfolding part_head_of
  site_in_lem s (r_part e) = rw (part_head_lem s e)
  site_in_lem s (r_state n) = rw (state_head s n)

  from_log_lem : (ws : List ℕ) → Handed w (world.merge ws) → record_shape ws ≡ true → (record_head ws).kind ≤ kind.state
      → FromLog ws (record_head ws).site
  unfolding record_head
  from_log_lem ws (inl a) e k = absurd (posted_no_record p.post ws (all_is x.refines.sent a) e (omega arith))
  from_log_lem ws (inr (inl (s, (i, a, b, c)))) e k =
      let (d, q) = logged s i b in
      let f : FromLog ws s = record { place = i; reached = omega (arith, x.merged s); below = d; words = sym c ∙ q } in
      let y : s ≡ (record_head ws).site =
      sym (ap (λ (l : List ℕ). (record_head l).site) f.words ∙ site_in_lem s (get_or (p.log s) i (r_state 0))) in
      rw y at f
  from_log_lem ws (inr (inr a)) e k =
      let (y, q) = is_map (item_words house.sites) m.out (rw x.emitted at a) in
      absurd (let z : (record_head ws).kind ≡ kind.merged = ap (λ (l : List ℕ). (record_head l).kind) q
      ∙ ap (λ (r : RecordHead). r.kind) (item_head_lem house.sites y) in omega arith)

  -- One record more is counted where it is the next.
  abbrev counted : List ℕ → ℕ → ℕ
  counted ws s = step_taken Done (w.log s) (w.merged s) ws

  abbrev is_next : List ℕ → ℕ → Bool
  is_next ws s = every (ltb (w.merged s) (length (w.log s)) ∷ same_words (get_or (w.log s) (w.merged s) []) ws ∷ [])

  count_next : (ws : List ℕ) (s : ℕ) → is_next ws s ≡ true → counted ws s ≡ m.took s + 1
  unfolding step_taken
  count_next ws s e = rw e (ap (λ (n : ℕ). n + 1) (x.merged s))

  count_same : (ws : List ℕ) (s : ℕ) → is_next ws s ≡ false → counted ws s ≡ m.took s
  unfolding step_taken
  count_same ws s e = rw e (x.merged s)

  -- the one at the place of the next is
  next_is : (ws : List ℕ) (s : ℕ) (f : FromLog ws s) → f.place ≡ m.took s → is_next ws s ≡ true
  next_is ws s f e =
      let n : w.merged s ≡ f.place = x.merged s ∙ sym e in
      let l = length-map (p.log s) (rec_words s) in
      let b : f.place < length (w.log s) = rw (x.refines.log s) (omega (arith, f.below)) in
      let q : get_or (w.log s) f.place [] ≡ ws = (logged s f.place b).1 ∙ sym f.words in
      rw (n, lt-ltb f.place (length (w.log s)) b, q, words_same ws)

  took_all : (s n : ℕ) (j : ℕ) → n ≡ m.took s + 1 → upd w.merged s n j ≡ upd m.took s (m.took s + 1) j
  unfolding upd
  took_all s n j e = by_test (eqb j s) (λ t. rw (t, e)) (λ t. rw t (x.merged j))

  -- the world after a merge of a record of site i + 1
  abbrev After : List ℕ → ℕ → Type 0
  After ws i =
      Onward house v (merger_step w (merge_of w.merger w.queues ws)
      (upd w.merged (i + 1) (step_taken (merge_of w.merger w.queues ws).answer (w.log (i + 1)) (w.merged (i + 1)) ws))).world []

  took_none : (s n : ℕ) (j : ℕ) → n ≡ m.took s → upd w.merged s n j ≡ m.took j
  took_none s n j e = upd_cases (λ j k. k ≡ m.took j) w.merged s n e (λ j a. x.merged j) j

  -- A part, by its site's index.
  module _ (z : Standing house v) (ws : List ℕ) (i : ℕ) (l : i < house.sites) (f : FromLog ws (i + 1)) where
    abbrev g : Merger
    g = w.merger

    bound : i < g.house.sites
    bound = rw x.merger.house_is l

    set_here : (c : Source) → source_at (with_source g i c) i ≡ c
    set_here c = get_or-set_same g.sources i c past_source (let k = x.refines.few in omega (arith, x.merger.holds.sized))

    set_there : (c : Source) (k : ℕ) → (k ≡ i → ⊥) → source_at (with_source g i c) k ≡ source_at g k
    set_there c k n = get_or-set_other g.sources i k c past_source n

    other_site : (k : ℕ) → eqb (k + 1) (i + 1) ≡ false → k ≡ i → ⊥
    other_site k t e = eqb-false (k + 1) (i + 1) t (rw e)

    next_record : (r : Rec) → f.place ≡ m.took (i + 1) → get_or (p.log (i + 1)) f.place (r_state 0) ≡ r → NextRecord p m (i + 1) r
    next_record r e q =
        let b : m.took (i + 1) < length (p.log (i + 1)) = omega (arith, f.below) in
        record { some = b; is = in_range_lem (p.log (i + 1)) (m.took (i + 1)) r (r_state 0) b ∙ rw e at q }

    -- what was taken is not above
    taken_low : f.place < m.took (i + 1) → NotAbove (m.last (i + 1)) (m.state (i + 1)) (get_or (p.log (i + 1)) f.place (r_state 0))
    taken_low h =
        let y = z.streamed.source (i + 1) in
        let b = length-take-le (m.took (i + 1)) (p.log (i + 1)) y.count in
        rw get_or-take at (all_at y.below (r_state 0) f.place (omega arith))

    module _ (e : Entry) (q : get_or (p.log (i + 1)) f.place (r_state 0) ≡ r_part e) (o : part_ok g.house ws ≡ true)
        (t : PartTaken (source_at g i) (part_head_of (i + 1) e)) where
      part_words_lem : ws ≡ entry_words (i + 1) e
      part_words_lem = f.words ∙ ap (rec_words (i + 1)) q

      new_source : Source
      new_source =
          record { state = (source_at g i).state; number = e.number; coordinator = coordinator_of e.tx; queued = (source_at g i).queued + 1 }

      e_low : coordinator_of e.tx < 16
      unfolding part_head_of
      e_low =
          let r : record_head ws ≡ part_head_of (i + 1) e = ap record_head part_words_lem ∙ part_head_lem (i + 1) e in
          let c = part_clear g.house (record_head ws) (part_passed_good g.house ws o).head in
          let u = tx_low g.house (record_head ws).tx c.pair.tx in
          let y : coordinator_of (record_head ws).tx ≡ coordinator_of e.tx = ap (λ (h : RecordHead). coordinator_of h.tx) r in
          omega (arith, x.merger.holds.clear.few)

      above : m.last (i + 1) < rank_of e
      unfolding part_head_of
      above =
          let c = x.merger.source i l in
          let k = precedes_rank (source_at g i).number (source_at g i).coordinator e.number (coordinator_of e.tx) c.low e_low
          t.above in
          omega (arith, c.last_is)

      beyond : m.state (i + 1) < e.number
      unfolding part_head_of
      beyond = omega (arith, (x.merger.source i l).state_is, t.beyond)

      part_next : f.place ≡ m.took (i + 1)
      part_next =
          ⊎_elim (λ (h : f.place ≡ m.took (i + 1)). h)
          (λ (h : f.place < m.took (i + 1)). absurd (let k : rank_of e ≤ m.last (i + 1) = rw q at (taken_low h) in omega (arith, above)))
          (eq-or-lt_of_le f.reached)

      part_tables : Holds (with_source g i new_source) (put_at (place_at i (source_at g i).queued) w.queues ws)
          → MergerIs house (with_source g i new_source) (put_at (place_at i (source_at g i).queued) w.queues ws)
          (stream.took_part m (i + 1) e)
      unfolding upd new_source
      part_tables h =
          record {
            house_is = x.merger.house_is;
            holds = h;
            source = λ k b. by_test (eqb (k + 1) (i + 1))
                (λ u. let y : k ≡ i = omega (arith, eqb-true (k + 1) (i + 1) u) in
                rw (u, y) (rw (set_here new_source)
                (more_queued g w.queues ws i x.merger.holds bound t.room o e (m.queue (i + 1)) (m.state (i + 1))
                (m.last (i + 1)) part_words_lem e_low (x.merger.source i l))))
                (λ u. let n = other_site k u in
                rw (u, set_there new_source k n)
                (still_queued g w.queues ws i x.merger.holds bound t.room o k _ _ _ (rw x.merger.house_is b) n
                (x.merger.source k b)));
          }

      part_onward : merge_of g w.queues ws
          ≡ done_merger (with_source g i new_source) (put_at (place_at i (source_at g i).queued) w.queues ws)
          → After ws i
      part_onward d =
          let h = rw d at (merge_kept g w.queues ws x.merger.holds) in
          rw d
          (quiet _ _ (stream.took_part m (i + 1) e)
          (one_step (stream.merges _ (stream.take_part (i + 1) e (next_record (r_part e) part_next q) above beyond)))
          refl refl refl (part_tables h)
          (λ j. took_all (i + 1) (counted ws (i + 1)) j (count_next ws (i + 1) (next_is ws (i + 1) f part_next))))

    module _ (n : ℕ) (q : get_or (p.log (i + 1)) f.place (r_state 0) ≡ r_state n) (t : (source_at g i).state ≤ n) where
      state_words_lem : ws ≡ state_words (i + 1) n
      state_words_lem = f.words ∙ ap (rec_words (i + 1)) q

      with_number : Source
      with_number =
          record { state = n; number = (source_at g i).number; coordinator = (source_at g i).coordinator; queued = (source_at g i).queued }

      state_tables : (states : ℕ → ℕ) (took : ℕ → ℕ) → states (i + 1) ≡ n → ((k : ℕ) → (k ≡ i → ⊥) → states (k + 1) ≡ m.state (k + 1))
          → Holds (with_source g i with_number) w.queues
          → MergerIs house (with_source g i with_number) w.queues
          (record { took = took; queue = m.queue; state = states; last = m.last; out = m.out })
      unfolding with_number
      state_tables states took a b h =
          record {
            house_is = x.merger.house_is;
            holds = h;
            source = λ k c. by_test (eqb k i)
                (λ u. let y = eqb-true k i u in let d = x.merger.source i l in
                rw y (rw (set_here with_number)
                (record { queued = d.queued; state_is = sym a; last_is = d.last_is; low = d.low; words = d.words })))
                (λ u. let y = eqb-false k i u in rw (set_there with_number k y, b k y) (x.merger.source k c));
          }

      -- the next record is the same state
      same_record : (r : Rec) → rec_words (i + 1) r ≡ ws → r ≡ r_state n
      unfolding part_head_of
      same_record (r_part e) c =
          let h = sym (part_head_lem (i + 1) e) ∙ ap record_head (c ∙ state_words_lem) ∙ state_head (i + 1) n in
          absurd (let y : kind.part ≡ kind.state = ap (λ (r : RecordHead). r.kind) h in omega arith)
      same_record (r_state k) c =
          let h = sym (state_head (i + 1) k) ∙ ap record_head (c ∙ state_words_lem) ∙ state_head (i + 1) n in
          ap r_state (ap (λ (r : RecordHead). r.number) h)

      next_state : is_next ws (i + 1) ≡ true → NextRecord p m (i + 1) (r_state n)
      next_state e =
          let y = ltb (w.merged (i + 1)) (length (w.log (i + 1))) ∷ same_words (get_or (w.log (i + 1)) (w.merged (i + 1)) []) ws ∷ [] in
          let a = ltb-true (w.merged (i + 1)) (length (w.log (i + 1))) (every_at y 0 e) in
          let (b, c) = logged (i + 1) (w.merged (i + 1)) a in
          let d = same_record _ (sym c ∙ same_words_lem _ ws (every_at y 1 e)) in
          let o = x.merged (i + 1) in
          record { some = rw o at b; is = rw o at (in_range_lem (p.log (i + 1)) (w.merged (i + 1)) (r_state n) (r_state 0) b ∙ d) }

      state_low : m.state (i + 1) ≤ n
      state_low = omega (arith, (x.merger.source i l).state_is)

      -- one taken before, that moves nothing
      state_same : is_next ws (i + 1) ≡ false → m.state (i + 1) ≡ n
      state_same e =
          ⊎_elim (λ (h : f.place ≡ m.took (i + 1)). absurd (set_not _ (next_is ws (i + 1) f h) e))
          (λ (h : f.place < m.took (i + 1)). let k : n ≤ m.state (i + 1) = rw q at (taken_low h) in omega (arith, state_low))
          (eq-or-lt_of_le f.reached)

      state_onward : merge_of g w.queues ws ≡ done_merger (with_source g i with_number) w.queues
          → After ws i
      state_onward d =
          let h = rw d at (merge_kept g w.queues ws x.merger.holds) in
          rw d
          (by_test (is_next ws (i + 1))
          (λ e. quiet _ _ (stream.took_state m (i + 1) n)
          (one_step (stream.merges _ (stream.take_state (i + 1) n (next_state e) state_low)))
          refl refl refl
          (state_tables (upd m.state (i + 1) n) (upd m.took (i + 1) (m.took (i + 1) + 1)) (upd_same m.state (i + 1) n)
          (λ k a. upd_other m.state (i + 1) n (k + 1) (λ b. a (omega arith))) h)
          (λ j. took_all (i + 1) (counted ws (i + 1)) j (count_next ws (i + 1) e)))
          (λ e. quiet _ _ m stream.stop refl refl refl
          (state_tables m.state m.took (state_same e) (λ k a. refl) h)
          (λ j. took_none (i + 1) (counted ws (i + 1)) j (count_same ws (i + 1) e))))

  module _ (z : Standing house v) (ws : List ℕ) (h : Handed w (world.merge ws)) where
    abbrev Merged : Type 0
    Merged = Onward house v (step w (world.merge ws)).world []

    -- a record taken, by its site's index
    part_on : (i : ℕ) → (record_head ws).site ≡ i + 1 → i < house.sites → TakesPart w.merger w.queues ws (record_head ws) i
        → FromLog ws (i + 1) → Merged
    unfolding step merge_step part_head_of new_source
    part_on i e l t f = rw e (go (get_or (p.log (i + 1)) f.place (r_state 0)) refl)
      where
        go : (r : Rec) → get_or (p.log (i + 1)) f.place (r_state 0) ≡ r → After ws i
        go (r_part y) q =
            let c : record_head ws ≡ part_head_of (i + 1) y = ap record_head (f.words ∙ ap (rec_words (i + 1)) q) ∙ part_head_lem (i + 1) y in
            let u = rw c at t in
            part_onward z ws i l f y q t.ok u.taken u.is
        go (r_state n) q =
            let c = ap record_head (f.words ∙ ap (rec_words (i + 1)) q) ∙ state_head (i + 1) n in
            absurd (omega (
              arith,
              (part_clear w.merger.house (record_head ws) (part_passed_good w.merger.house ws t.ok).head).kind,
              ap (λ (r : RecordHead). r.kind) c,
            ))

    state_on : (i : ℕ) → (record_head ws).site ≡ i + 1 → i < house.sites → TakesState w.merger w.queues ws (record_head ws) i
        → FromLog ws (i + 1) → Merged
    unfolding step merge_step part_head_of with_number
    state_on i e l t f = rw e (go (get_or (p.log (i + 1)) f.place (r_state 0)) refl)
      where
        go : (r : Rec) → get_or (p.log (i + 1)) f.place (r_state 0) ≡ r → After ws i
        go (r_part y) q =
            let c : record_head ws ≡ part_head_of (i + 1) y = ap record_head (f.words ∙ ap (rec_words (i + 1)) q) ∙ part_head_lem (i + 1) y in
            absurd (omega (
              arith,
              (state_clear w.merger.house (record_head ws) (state_passed_good w.merger.house ws t.ok).head).kind,
              ap (λ (r : RecordHead). r.kind) c,
            ))
        go (r_state n) q =
            let c = ap record_head (f.words ∙ ap (rec_words (i + 1)) q) ∙ state_head (i + 1) n in
            let u = rw c at t in
            state_onward z ws i l f n q u.beyond u.is

    pub merge_onward : Merged
    unfolding step merge_step step_taken
    merge_onward = go (merge_cases w.merger w.queues ws)
      where
        index : (s : ℕ) → is_site w.merger.house s ≡ true → (s ≡ s - 1 + 1) × (s - 1 < house.sites)
        index s e = let c = site_clear w.merger.house s e in (omega arith, omega (arith, count_is x.merger.house_is))

        go : ((n : ℕ) × (merge_of w.merger w.queues ws ≡ refused_merger n w.merger w.queues))
            ⊎ (TakesPart w.merger w.queues ws (record_head ws) ((record_head ws).site - 1)
            ⊎ TakesState w.merger w.queues ws (record_head ws) ((record_head ws).site - 1)) → Merged
        go (inl (n, d)) =
            rw d (quiet (refused_merger n w.merger w.queues) _ m stream.stop refl refl refl x.merger
            (λ j. took_none (record_head ws).site _ j (x.merged (record_head ws).site)))
        go (inr (inl t)) =
            let c = part_clear w.merger.house (record_head ws) (part_passed_good w.merger.house ws t.ok).head in
            let (e, l) = index (record_head ws).site c.site in
            part_on ((record_head ws).site - 1) e l t
            (rw e at (from_log_lem ws h (part_shape w.merger.house ws t.ok) (omega (arith, c.kind))))
        go (inr (inr t)) =
            let c = state_clear w.merger.house (record_head ws) (state_passed_good w.merger.house ws t.ok).head in
            let (e, l) = index (record_head ws).site c.site in
            state_on ((record_head ws).site - 1) e l t
            (rw e at (from_log_lem ws h (state_shape w.merger.house ws t.ok) (omega (arith, c.kind))))
