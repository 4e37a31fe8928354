-- Logs ascend, as words, and so the merger takes the next record of each, unless its queue is full.
use Prim.Native.Nat.{ℕ, ◌+◌, ◌-◌, ◌≤◌, ◌<◌}
use mathlib.Core.Path.{◌≡◌, refl, ap, ◌∙◌}
use mathlib.Core.Bool.{true}
use mathlib.Core.Logic.{◌⊎◌, inl, inr}
use mathlib.Core.List.{List, []}
use native.Mathlib.Omega.{arith}
use borrow.Author.Tests.{eq-eqb, ne_eqb, le-ltb, lt-leb}
use lib.Dec.{eqb, leb}
use lib.ListN.{length, get_or}
use lib.Seq.{get_or-take, length-take-le}
use Rattle.laws.specs.Choice.{pick, by_test}
use Rattle.laws.specs.Pair.{precedes, rank_precedes}
use Rattle.kinds.specs.Sizes as sizes
use Rattle.kinds.specs.declared.House.{House}
use Rattle.kinds.specs.Kind as kind
use Rattle.kinds.specs.Reason as reason
use Rattle.kinds.specs.declared.Entry.{Entry}
use Rattle.kinds.specs.declared.RecordHead.{RecordHead}
use Rattle.kinds.specs.declared.Merger.{Merger}
use Rattle.kinds.specs.declared.Answer.{Answer}
use Rattle.kinds.specs.declared.Answer.TheVariants.{Refused, Done}
use Rattle.rules.specs.House.{coordinator_of, is_site}
use Rattle.rules.specs.MessageLaws.{site_clear}
use Rattle.rules.specs.Record.{record_head, part_ok, state_ok}
use Rattle.rules.specs.RecordLaws.{part_clear, part_passed_good, state_clear, state_passed_good}
use Rattle.rules.specs.Merger.{source_at, merger_ok, merge_part_code, merge_part, merge_state_code, merge_state, merge_code, merge_of}
use Rattle.rules.specs.MergerClear.{clear_merger}
use Rattle.rules.specs.World.{World, step, merge_step, merger_step}
use Rattle.rules.specs.World as world
use Rattle.rules.specs.Progress.{Follows, LogsAscend}
use Rattle.rules.proofs.Lists.Tables.{all_at, All}
use Rattle.rules.proofs.Protocol.ProtocolTables.{Protocol, Rec, r_part, r_state}
use Rattle.rules.proofs.Protocol.Invariants.{Invariant, StandsBefore}
use Rattle.rules.proofs.Protocol.Committed.{low_coordinator}
use Rattle.rules.proofs.Refine.Refines.{rec_words, part_head_of, count_is}
use Rattle.rules.proofs.Stream.Stream as stream
use Rattle.rules.proofs.Stream.Stream.{Stream}
use Rattle.rules.proofs.Stream.StreamReached.{Standing}
use Rattle.rules.proofs.Records.StreamNext.{Lasts, stands_before, part_real, next_part, next_state}
use Rattle.rules.proofs.Refine.RefineMerger.{SourceIs, StreamIs, part_head_lem, state_head}
use Rattle.rules.proofs.Refine.RefineMerge.{logged}
use Rattle.rules.proofs.Records.Written.{RecordOk}

-- Two records of a log, by their heads.
module _ {house : House} {p : Protocol} (few : house.sites ≤ 8) (inv : Invariant house p) (s i j : ℕ) (l : i < j)
    (h : j < length (p.log s)) where
  abbrev rec_at : ℕ → Rec
  rec_at k = get_or (p.log s) k (r_state 0)

  before : StandsBefore (rec_at j) (rec_at i)
  before =
      let b = stands_before [] (p.log s) j (inv.order.ascends s) h in
      let n = length-take-le j (p.log s) (omega arith) in
      rw get_or-take at (all_at b (r_state 0) i (omega arith))

  low : (k : ℕ) (e : Entry) → k < length (p.log s) → rec_at k ≡ r_part e → coordinator_of e.tx < 16
  low k e b q = omega (arith, low_coordinator few inv.parts s e.tx (part_real inv s k e b q).has)

  follow : (x y : Rec) → rec_at i ≡ x → rec_at j ≡ y → StandsBefore y x → Follows (record_head (rec_words s x)) (record_head (rec_words s y))
  unfolding part_head_of
  follow (r_part d) (r_part e) u v b =
      rw (part_head_lem s d, part_head_lem s e)
      (record {
        part_part = λ x y. rank_precedes d.number (coordinator_of d.tx) e.number (coordinator_of e.tx) (low i d (omega arith) u)
            (low j e h v) b;
        state_part = λ x y. absurd (omega arith);
        state_state = λ x y. absurd (omega arith);
      })
  follow (r_part d) (r_state n) u v b =
      rw (part_head_lem s d, state_head s n)
      (record {
        part_part = λ x y. absurd (omega arith);
        state_part = λ x y. absurd (omega arith);
        state_state = λ x y. absurd (omega arith);
      })
  follow (r_state k) (r_part e) u v b =
      rw (state_head s k, part_head_lem s e)
      (record { part_part = λ x y. absurd (omega arith); state_part = λ x y. b; state_state = λ x y. absurd (omega arith) })
  follow (r_state k) (r_state n) u v b =
      rw (state_head s k, state_head s n)
      (record { part_part = λ x y. absurd (omega arith); state_part = λ x y. absurd (omega arith); state_state = λ x y. b })

-- What the merger answers to a record that passes and is not behind.
merge_passes : (g : Merger) (queues m : List ℕ) → merger_ok g queues ≡ true → (part_ok g.house m ≡ true) ⊎ (state_ok g.house m ≡ true)
    → merge_code g queues m ≡ 0
unfolding merge_code
merge_passes g queues m o (inl e) = rw (o, e)
merge_passes g queues m o (inr e) = by_test (part_ok g.house m) (λ t. rw (o, t)) (λ t. rw (o, t, e))

abbrev Taken : Answer → Type 0
Taken a = (a ≡ Done) ⊎ (a ≡ Refused reason.queue_full)

part_answer : (g : Merger) (queues m : List ℕ) → (let r = record_head m in let c = source_at g (r.site - 1) in
    precedes c.number c.coordinator r.number r.coordinator ≡ true → c.state < r.number → Taken (merge_part g queues m).answer)
unfolding merge_part merge_part_code
part_answer g queues m a b =
    let r = record_head m in
    let c = source_at g (r.site - 1) in
    by_test (leb sizes.queue c.queued)
    (λ t. rw (a, lt-leb r.number c.state b, t) (inr refl))
    (λ t. rw (a, lt-leb r.number c.state b, t) (inl refl))

state_answer : (g : Merger) (queues m : List ℕ) → (source_at g ((record_head m).site - 1)).state ≤ (record_head m).number
    → Taken (merge_state g queues m).answer
unfolding merge_state merge_state_code
state_answer g queues m a = rw (le-ltb (record_head m).number (source_at g ((record_head m).site - 1)).state a) (inl refl)

-- The logs of a house.
module _ {house : House} {w : World} {v : Stream} (x : StreamIs house w v) (z : Standing house v) (l : Lasts v.protocol v.merger)
    (f : (s : ℕ) → All (RecordOk house) (w.log s)) where
  abbrev p : Protocol
  p = v.protocol

  abbrev m : stream.Merger
  m = v.merger

  pub logs_ascend : LogsAscend w
  logs_ascend s i j b h =
      let (y, q) = logged x s i (omega arith) in
      let (c, k) = logged x s j h in
      rw (q, k) (follow x.refines.few z.invariant s i j b c _ _ refl refl (before x.refines.few z.invariant s i j b c))

  -- The next of the log of s.
  module _ (s : ℕ) (h : w.merged s < length (w.log s)) where
    abbrev ws : List ℕ
    ws = get_or (w.log s) (w.merged s) []

    abbrev g : Merger
    g = w.merger

    passes : (part_ok g.house ws ≡ true) ⊎ (state_ok g.house ws ≡ true)
    passes = rw x.merger.house_is (all_at (f s) [] (w.merged s) h)

    -- its site is one of the house
    inside : (1 ≤ (record_head ws).site) × ((record_head ws).site ≤ house.sites)
    inside = go passes
      where
        of : is_site g.house (record_head ws).site ≡ true → (1 ≤ (record_head ws).site) × ((record_head ws).site ≤ house.sites)
        of e = let c = site_clear g.house (record_head ws).site e in (c.low, omega (arith, c.high, count_is x.merger.house_is))

        go : (part_ok g.house ws ≡ true) ⊎ (state_ok g.house ws ≡ true)
            → (1 ≤ (record_head ws).site) × ((record_head ws).site ≤ house.sites)
        go (inl e) = of (part_clear g.house (record_head ws) (part_passed_good g.house ws e).head).site
        go (inr e) = of (state_clear g.house (record_head ws) (state_passed_good g.house ws e).head).site

    -- the protocol's record
    next : (m.took s < length (p.log s)) × (ws ≡ rec_words s (get_or (p.log s) (m.took s) (r_state 0)))
    next = let (b, q) = logged x s (w.merged s) h in
        (rw (x.merged s) at b, q ∙ ap (λ (i : ℕ). rec_words s (get_or (p.log s) i (r_state 0))) (x.merged s))

    source : 1 ≤ s → s ≤ house.sites → SourceIs (source_at g (s - 1)) w.queues (s - 1) (m.queue s) (m.state s) (m.last s)
    source b c = let e : s - 1 + 1 ≡ s = omega arith in rw e at (x.merger.source (s - 1) (omega arith))

    taken : (r : Rec) → get_or (p.log s) (m.took s) (r_state 0) ≡ r
        → Taken (pick (eqb (record_head ws).kind kind.part) (merge_part g w.queues ws) (merge_state g w.queues ws)).answer
    unfolding part_head_of
    taken (r_part e) q =
        let d : record_head ws ≡ part_head_of s e = ap record_head (next.1 ∙ ap (rec_words s) q) ∙ part_head_lem s e in
        let (b, c) = rw d at inside in
        let k = source b c in
        let (u, y) = next_part z.invariant z.streamed s next.0 l e q in
        let low = low_coordinator x.refines.few z.invariant.parts s e.tx
        (part_real z.invariant s (m.took s) e next.0 q).has in
        rw (eq-eqb (record_head ws).kind kind.part (ap (λ (r : RecordHead). r.kind) d))
        (part_answer g w.queues ws
        (rw d (rank_precedes _ _ e.number (coordinator_of e.tx) k.low (omega arith) (omega (arith, k.last_is))))
        (rw d (omega (arith, k.state_is))))
    taken (r_state n) q =
        let t = next.1 ∙ ap (rec_words s) q in
        let d = ap record_head t ∙ state_head s n in
        let (b, c) = rw d at inside in
        rw (ne_eqb (record_head ws).kind kind.part (λ o. omega (arith, ap (λ (r : RecordHead). r.kind) d)))
        (state_answer g w.queues ws
        (rw d (omega (arith, (source b c).state_is, next_state z.invariant z.streamed s next.0 n q))))

    pub next_taken : Taken (step w (world.merge ws)).answer
    unfolding step merge_step merger_step merge_of
    next_taken =
        rw (merge_passes g w.queues ws (clear_merger g w.queues x.merger.holds.clear) passes)
        (taken (get_or (p.log s) (m.took s) (r_state 0)) refl)
