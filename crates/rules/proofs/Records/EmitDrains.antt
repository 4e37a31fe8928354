-- An emit of a drained house is not refused, as long as a committed transaction up to n is not emitted: the least head is not above it, so
-- it is due at every site, and whole.
use Prim.Native.Nat.{ℕ, ◌+◌, ◌-◌, ◌≤◌, ◌<◌}
use mathlib.Core.Path.{◌≡◌, refl, ap}
use mathlib.Core.Bool.{true}
use mathlib.Core.Logic.{◌⊎◌, inl, inr, ⊎_elim}
use mathlib.Core.List.{List, [], ◌∷◌, ◌++◌}
use native.Mathlib.Omega.{arith}
use borrow.Author.Tests.{le-ltb}
use lib.ListN.{length, length-append}
use Rattle.kinds.specs.Sizes as sizes
use Rattle.kinds.specs.declared.House.{House}
use Rattle.kinds.specs.declared.Entry.{Entry}
use Rattle.kinds.specs.declared.RecordHead.{RecordHead}
use Rattle.kinds.specs.declared.Merger.{Merger}
use Rattle.rules.specs.House.{coordinator_of}
use Rattle.rules.specs.Record.{record_words}
use Rattle.rules.specs.Merger.{heads_of, head_in, is_due, is_whole, least_site, merged_words, due_code, emit_due, emit_code, emit_of, merger_ok}
use Rattle.rules.specs.MergerClear.{clear_merger}
use Rattle.rules.proofs.MergerLaws as laws
use Rattle.rules.specs.MergerLaws.{LeastOf, least_is, least_some}
use Rattle.rules.specs.World.{World, step, merger_step, record_in}
use Rattle.rules.specs.World as world
use Rattle.rules.proofs.Protocol.ProtocolTables.{Protocol}
use Rattle.rules.proofs.Refine.Refines.{part_head_of, count_is}
use Rattle.rules.proofs.Stream.Stream as stream
use Rattle.rules.proofs.Stream.Stream.{Stream}
use Rattle.rules.proofs.Stream.StreamInv.{Out}
use Rattle.rules.proofs.Stream.StreamReached.{Standing}
use Rattle.rules.proofs.Protocol.Committed.{coordinator_site}
use Rattle.rules.proofs.Records.StreamDrain.{DrainedAt, HeadUpTo, drained_head}
use Rattle.rules.proofs.Refine.RefineMerger.{StreamIs}
use Rattle.rules.proofs.Refine.RefineHeads.{inside, some_queued, due_is, least_rank}
use Rattle.rules.proofs.Records.DueWhole.{due_whole_at}

-- an emit that is not refused writes one record
emit_code_lem : (g : Merger) (queues : List ℕ) (room : ℕ) → sizes.merged ≤ room → merger_ok g queues ≡ true → emit_code g queues room ≡ 0
unfolding emit_code
emit_code_lem g queues room h o = rw (le-ltb room sizes.merged h, o)

due_code_lem : (g : Merger) (heads : List RecordHead) (k : ℕ) → is_due g heads k ≡ true → is_whole g heads (head_in heads k) ≡ true
    → due_code g heads k ≡ 0
unfolding due_code
due_code_lem g heads k d e = rw (d, e)

one_written : (g : Merger) (queues : List ℕ) (room : ℕ) → emit_code g queues room ≡ 0
    → due_code g (heads_of queues g.house.sites) (least_site g queues) ≡ 0
    → length (record_in (emit_of g room queues).words) ≡ 1
unfolding emit_of emit_due merged_words record_words
one_written g queues room c d = rw (c, d)

module _ {house : House} {w : World} {v : Stream} (x : StreamIs house w v) (z : Standing house v) where
  abbrev p : Protocol
  p = v.protocol

  abbrev m : stream.Merger
  m = v.merger

  abbrev g : Merger
  g = w.merger

  abbrev heads : List RecordHead
  heads = heads_of w.queues g.house.sites

  abbrev k : ℕ
  k = least_site g w.queues

  module _ (n : ℕ) (d : (s : ℕ) → 1 ≤ s → s ≤ house.sites → DrainedAt p m n s) where
    -- where the least head is up to n
    least_due : LeastOf g heads g.house.sites k → (G : Entry) (r : List Entry) → m.queue (k + 1) ≡ G ∷ r → G.number ≤ n
        → is_due g heads k ≡ true
    unfolding part_head_of
    least_due l G r q h =
        let c = x.merger.holds.clear in
        laws.due_is g heads k
        (record {
          some = omega (arith, l.below, c.few);
          every = λ i b. inr (let y : i < house.sites = rw x.merger.house_is at b in
              let e = ap (λ (f : RecordHead). f.number) (due_is x z k l G r q) in
              omega (arith, (x.merger.source i y).state_is, (d (i + 1) (omega arith) (omega arith)).1));
        })

    module _ (t : ℕ) (committed : 0 < p.num t) (upto : p.num t ≤ n) where
      head_due : HeadUpTo p m t (coordinator_of t) → is_due g heads k ≡ true
      head_due (e, u, q, h) =
          let (b, c) = coordinator_site z.invariant t committed in
          let i = coordinator_of t - 1 in
          let o : i + 1 ≡ coordinator_of t = omega arith in
          go i (omega arith) (rw o q) (omega (arith, x.refines.few))
        where
          go : (i : ℕ) → i < house.sites → m.queue (i + 1) ≡ e ∷ u → coordinator_of t ≤ 8 → is_due g heads k ≡ true
          go i y f low = some (m.queue (k + 1)) refl
            where
              few : g.house.sites ≤ sizes.sites
              few = x.merger.holds.clear.few

              least : LeastOf g heads g.house.sites k
              least = least_is g heads g.house.sites few
                  (least_some g heads g.house.sites i few (inside x z i y) (some_queued x z i y e u f))

              some : (r : List Entry) → m.queue (k + 1) ≡ r → is_due g heads k ≡ true
              some [] j =
                  let b : k < house.sites = omega (arith, least.below, count_is x.merger.house_is) in
                  absurd (omega (arith, least.queued, (x.merger.source k b).queued, ap length j))
              some (G ∷ r) j = least_due least G r j (omega (arith, least_rank x z k least G r j i y e u f))

      pub emit_drains : (out : List ℕ) → sizes.merged ≤ length out
          → Out m t ⊎ (length (step w (world.emit out)).world.stream ≡ length w.stream + 1)
      unfolding step merger_step
      emit_drains out room =
          let (b, c) = coordinator_site z.invariant t committed in
          ⊎_elim (λ (o : Out m t). inl o) (λ (o : HeadUpTo p m t (coordinator_of t)). inr (more (head_due o)))
          (drained_head z.invariant z.streamed t committed n upto (d (coordinator_of t) b c))
        where
          more : is_due g heads k ≡ true → length (w.stream ++ record_in (emit_of g (length out) w.queues).words) ≡ length w.stream + 1
          more e =
              let y = one_written g w.queues (length out)
              (emit_code_lem g w.queues (length out) room (clear_merger g w.queues x.merger.holds.clear))
              (due_code_lem g heads k e (due_whole_at x z e)) in
              omega (arith, length-append w.stream (record_in (emit_of g (length out) w.queues).words))
