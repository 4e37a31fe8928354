-- The heads, as the merger reads them, are the machine's: the least is its least, and what is due here is due there.
use Prim.Native.Nat.{ℕ, ◌+◌, ◌≤◌, ◌<◌}
use mathlib.Core.Path.{◌≡◌, refl, ap, ◌∙◌}
use mathlib.Core.Bool.{false}
use mathlib.Core.Logic.{⊎_elim}
use mathlib.Core.List.{List, [], ◌∷◌}
use native.Mathlib.Omega.{arith}
use lib.ListN.{length}
use Rattle.kinds.specs.declared.House.{House}
use Rattle.laws.specs.Pair.{precedes, not_precedes_rank}
use Rattle.kinds.specs.declared.Entry.{Entry}
use Rattle.kinds.specs.declared.RecordHead.{RecordHead}
use Rattle.kinds.specs.declared.Merger.{Merger}
use Rattle.rules.specs.House.{coordinator_of, in_mask}
use Rattle.rules.specs.Record.{record_head}
use Rattle.rules.specs.Merger.{source_at, queued_part, heads_of, head_in}
use Rattle.rules.specs.MergerLaws.{HasPart, LeastOf, IsDue}
use Rattle.rules.proofs.MergerJoin.{heads_at, head_part}
use Rattle.rules.specs.World.{World}
use Rattle.rules.proofs.Protocol.Committed.{low_coordinator}
use Rattle.rules.proofs.Refine.Refines.{entry_words, part_head_of, count_is}
use Rattle.rules.proofs.Stream.Stream as stream
use Rattle.rules.proofs.Stream.Stream.{Stream, rank_of, DueAt}
use Rattle.rules.proofs.Stream.StreamInv.{head_real}
use Rattle.rules.proofs.Stream.StreamReached.{Standing}
use Rattle.rules.proofs.Refine.RefineMerger.{StreamIs, part_head_lem}

module _ {house : House} {w : World} {v : Stream} (x : StreamIs house w v) (z : Standing house v) where
  abbrev m : stream.Merger
  m = v.merger

  abbrev g : Merger
  g = w.merger

  abbrev heads : List RecordHead
  heads = heads_of w.queues g.house.sites

  pub inside : (i : ℕ) → i < house.sites → i < g.house.sites
  inside i l = rw x.merger.house_is l

  -- the head of a site, as the merger reads it
  module _ (i : ℕ) (l : i < house.sites) (e : Entry) (r : List Entry) (q : m.queue (i + 1) ≡ e ∷ r) where
    pub some_queued : 0 < (source_at g i).queued
    some_queued = omega (arith, (x.merger.source i l).queued, ap length q)

    pub clear_head : queued_part w.queues i 0 ≡ entry_words (i + 1) e
    clear_head =
        let c = x.merger.source i l in
        rw q at (c.words 0 (omega (arith, ap length q)))

    pub head_is : head_in heads i ≡ part_head_of (i + 1) e
    head_is =
        let c = x.merger.holds.clear in
        let b : i < g.house.sites = rw x.merger.house_is l in
        heads_at w.queues g.house.sites i c.few b
        ∙ head_part g.house w.queues i (c.parts i 0 b some_queued)
        ∙ ap record_head clear_head ∙ part_head_lem (i + 1) e

    pub head_low : coordinator_of e.tx ≤ 8
    head_low = low_coordinator x.refines.few z.invariant.parts (i + 1) e.tx
        (head_real z.invariant z.streamed (i + 1) e r (omega arith) q).has

  -- the least head, at site k + 1
  module _ (k : ℕ) (l : LeastOf g heads g.house.sites k) (G : Entry) (r : List Entry) (q : m.queue (k + 1) ≡ G ∷ r) where
    pub low : k < house.sites
    low = omega (arith, l.below, count_is x.merger.house_is)

    pub due_is : head_in heads k ≡ part_head_of (k + 1) G
    due_is = head_is k low G r q

    pub mask_is : (s : ℕ) → in_mask (head_in heads k).mask s ≡ in_mask G.mask s
    unfolding part_head_of
    mask_is s = ap (λ (h : RecordHead). in_mask h.mask s) due_is

    pub G_low : coordinator_of G.tx ≤ 8
    G_low = head_low k low G r q

    pub least_rank : (i : ℕ) → i < house.sites → (e : Entry) (u : List Entry) → m.queue (i + 1) ≡ e ∷ u → rank_of G ≤ rank_of e
    unfolding part_head_of
    least_rank i b e u f =
        let c : precedes e.number (coordinator_of e.tx) G.number (coordinator_of G.tx) ≡ false =
        rw (head_is i b e u f, due_is) at (l.least i (inside i b) (some_queued i b e u f)) in
        not_precedes_rank e.number (coordinator_of e.tx) G.number (coordinator_of G.tx) (omega (arith, head_low i b e u f))
        (omega (arith, G_low)) c

    pub due_at : IsDue g heads k → (i : ℕ) → i < house.sites → DueAt G (m.state (i + 1)) (m.queue (i + 1))
    unfolding part_head_of
    due_at d i b = go (m.queue (i + 1)) refl
      where
        go : (u : List Entry) → m.queue (i + 1) ≡ u → DueAt G (m.state (i + 1)) u
        go [] e =
            let c = x.merger.source i b in
            ⊎_elim
            (λ (y : 0 < (source_at g i).queued). absurd (omega (arith, c.queued, ap length e)))
            (λ (y : (head_in heads k).number ≤ (source_at g i).state). omega (arith, c.state_is, ap (λ (h : RecordHead). h.number) due_is))
            (d.every i (inside i b))
        go (e ∷ u) f = least_rank i b e u f

    -- a head with its pair
    pub rank_part : (i : ℕ) → i < house.sites → (e : Entry) (u : List Entry) → m.queue (i + 1) ≡ e ∷ u → rank_of e ≡ rank_of G
        → HasPart g heads (head_in heads k) i
    unfolding part_head_of
    rank_part i b e u f n =
        let a = head_low i b e u f in
        let c = G_low in
        rw due_is (record {
          queued = some_queued i b e u f;
          number = rw (head_is i b e u f) (omega arith);
          coordinator = rw (head_is i b e u f) (omega arith);
        })

    pub part_rank : (i : ℕ) → i < house.sites → (e : Entry) (u : List Entry) → m.queue (i + 1) ≡ e ∷ u
        → HasPart g heads (head_in heads k) i
        → rank_of e ≡ rank_of G
    unfolding part_head_of
    part_rank i b e u f o =
        let h = head_is i b e u f in
        let c : e.number ≡ G.number = rw (h, due_is) at o.number in
        let d : coordinator_of e.tx ≡ coordinator_of G.tx = rw (h, due_is) at o.coordinator in
        omega arith
