-- Records go on, proved: after any lawful list every log ascends, the merger takes the next of each, a due record is whole, and a drained
-- house emits what is committed.
use Prim.Native.Nat.{ℕ, zero, suc, ◌+◌, ◌-◌, ◌≤◌, ◌<◌}
use mathlib.Core.Path.{◌≡◌, sym, ap, ◌∙◌}
use mathlib.Core.Logic.{◌⊎◌, inl, inr}
use mathlib.Core.List.{List, [], map}
use native.Mathlib.Omega.{arith}
use lib.ListN.{length, get_or, replicate, length-map}
use lib.Seq.{get_or-take, length-take-le}
use Rattle.laws.specs.Pair.{rank}
use Rattle.kinds.specs.Sizes as sizes
use Rattle.kinds.specs.declared.House.{House}
use Rattle.kinds.specs.Kind as kind
use Rattle.kinds.specs.declared.RecordHead.{RecordHead}
use Rattle.rules.specs.House.{coordinator_of}
use Rattle.rules.specs.Record.{record_head}
use Rattle.rules.specs.World.{World, step, merger_step, run, fresh_world}
use Rattle.rules.specs.World as world
use Rattle.rules.specs.Book.{Fact}
use Rattle.rules.specs.Claim.{Committed}
use Rattle.rules.specs.Progress.{Drained, InStream, RecordsProgress, record_at}
use Rattle.rules.proofs.Lists.Tables.{all_at, All, a_nil}
use Rattle.rules.proofs.Protocol.ProtocolTables.{Protocol, r_state, Rec, r_part}
use Rattle.rules.proofs.Protocol.Protocol.{fresh_protocol}
use Rattle.rules.proofs.Refine.Refines.{rec_words, part_head_of}
use Rattle.rules.proofs.Stream.Stream as stream
use Rattle.rules.proofs.Stream.Stream.{Stream, fresh_stream}
use Rattle.rules.proofs.Stream.StreamInv.{past_item, Out, NotAbove}
use Rattle.rules.proofs.Records.StreamNext.{Lasts, lasts_fresh, lasts_steps}
use Rattle.rules.proofs.Records.StreamDrain.{DrainedAt, rank_index}
use Rattle.rules.proofs.Refine.RefineMerger.{item_words, item_head_lem, map_at, part_head_lem, state_head}
use Rattle.rules.proofs.Demand.Stands.{Stands, Keeps, call_stands, list_stands}
use Rattle.rules.proofs.Book.BookLists.{is_kept}
use Rattle.rules.proofs.Records.Written.{RecordOk, call_written}
use Rattle.rules.proofs.Records.LogsAscend.{logs_ascend, next_taken}
use Rattle.rules.proofs.Records.DueWhole.{due_is_whole}
use Rattle.rules.proofs.Records.EmitDrains.{emit_drains}

-- A house whose logs ascend.
record Climbs (house : House) (w : World) (v : Stream) : Type 0 where
  lasts : Lasts v.protocol v.merger
  written : (s : ℕ) → All (RecordOk house) (w.log s)

call_climbs : {house : House} → house.sites ≤ 8 → Keeps (Climbs house) house
call_climbs few w v u c h i z ss e j m =
    record {
      lasts = lasts_steps few ss z m.lasts;
      written = call_written i.refines z.invariant m.written c;
    }

fresh_climbs : (house : House) → Climbs house (fresh_world house) fresh_stream
unfolding fresh_world fresh_stream
fresh_climbs house = record { lasts = lasts_fresh fresh_protocol; written = λ s. a_nil }

-- A drained house, at the machine's tables.
module _ {house : House} {w : World} {b : List Fact} (x : Stands (Climbs house) house w b) where
  abbrev p : Protocol
  p = x.stream.protocol

  abbrev m : stream.Merger
  m = x.stream.merger

  -- a state of the log, as the protocol has it
  state_in : (s i : ℕ) → i < length (w.log s) → (record_at w s i).kind ≡ kind.state
      → (i < length (p.log s)) × (get_or (p.log s) i (r_state 0) ≡ r_state (record_at w s i).number)
  unfolding part_head_of
  state_in s i h k =
      let (b, q) = map_at (rec_words s) (p.log s) (r_state 0) i (rw (x.is.refines.log s) at h) in
      let e : get_or (w.log s) i [] ≡ rec_words s (get_or (p.log s) i (r_state 0)) = rw (x.is.refines.log s) q in
      (b, go (get_or (p.log s) i (r_state 0)) (ap record_head e))
    where
      go : (x : Rec) → record_at w s i ≡ record_head (rec_words s x) → x ≡ r_state (record_at w s i).number
      go (r_part e) q = absurd (let z : kind.state ≡ kind.part = sym k ∙ ap (λ (h : RecordHead). h.kind) (q ∙ part_head_lem s e) in omega arith)
      go (r_state n) q = ap r_state (sym (ap (λ (h : RecordHead). h.number) (q ∙ state_head s n)))

  drained_at : (n : ℕ) → Drained house w n → (s : ℕ) → 1 ≤ s → s ≤ house.sites → DrainedAt p m n s
  drained_at n d s l h =
      let (e, (i, k, u, v)) = d s l h in
      let (c, q) = state_in s i k u in
      let y = x.standing.streamed.source s in
      let o : length (w.log s) ≡ length (p.log s) = ap length (x.is.refines.log s) ∙ length-map (p.log s) (rec_words s) in
      let t : m.took s ≡ length (p.log s) = sym (x.is.merged s) ∙ e ∙ o in
      let z = all_at y.below (r_state 0) i (omega (arith, length-take-le (m.took s) (p.log s) y.count)) in
      let j : NotAbove (m.last s) (m.state s) (r_state (record_head (get_or (w.log s) i [])).number) =
      rw (get_or-take (m.took s) (p.log s) i (r_state 0) (omega arith), q) at z in
      (t, omega arith)

  in_stream : (t : ℕ) → Out m t → InStream w t
  in_stream t (j, l, e) =
      let c : j < length (map (item_words house.sites) m.out) = omega (arith, length-map m.out (item_words house.sites)) in
      let q = (map_at (item_words house.sites) m.out past_item j c).1 in
      rw x.is.emitted (
        j,
        c,
        ap (λ (ws : List ℕ). (record_head ws).tx) q
            ∙ ap (λ (h : RecordHead). h.tx) (item_head_lem house.sites (get_or m.out j past_item)) ∙ e,
      )

  -- more items than ranks up to t's: it is one of them
  many_out : (t : ℕ) → 0 < p.num t → rank (p.num t) (coordinator_of t) < length w.stream → Out m t
  many_out t n h =
      let o : length w.stream ≡ length m.out = ap length x.is.emitted ∙ length-map m.out (item_words house.sites) in
      let j = length m.out - 1 in
      x.standing.streamed.whole t j n (omega arith)
      (omega (arith, rank_index x.standing.invariant x.standing.streamed j (omega arith)))

-- an emit leaves the logs, and what was taken of them
emit_drained : (house : House) (w : World) (n : ℕ) (out : List ℕ) → Drained house w n → Drained house (step w (world.emit out)).world n
unfolding step merger_step
emit_drained house w n out d = d

-- emits, until t is out: the stream grows by each of them, and has at most as many items below t as t's rank
drain : {house : House} → house.sites ≤ 8 → (f : ℕ) {w : World} {b : List Fact} (n t k c : ℕ) (out : List ℕ)
    → Stands (Climbs house) house w b
    → Drained house w n → Committed b t k c → k ≤ n
    → sizes.merged ≤ length out → rank k c < length w.stream + f → (j : ℕ) × InStream (run w (replicate j (world.emit out))) t
unfolding run
drain few zero n t k c out x d h u room l =
    let (y, q, e) = x.booked.commits.commit t k c h in
    (0, in_stream x t (many_out x t y (omega arith)))
drain {house} few (suc f) {w} n t k c out x d h u room l =
    let (y, q, e) = x.booked.commits.commit t k c h in
    go (λ g. drain few f n t k c out (call_stands (Climbs house) few (call_climbs few) (world.emit out) tt x) (emit_drained house w n out d)
    (is_kept _ h) u room (omega arith))
    (emit_drains x.is x.standing n (drained_at x n d) t y (omega arith) out room)
  where
    go : (length (step w (world.emit out)).world.stream ≡ length w.stream + 1
        → (j : ℕ) × InStream (run (step w (world.emit out)).world (replicate j (world.emit out))) t)
        → Out x.stream.merger t ⊎ (length (step w (world.emit out)).world.stream ≡ length w.stream + 1)
        → (j : ℕ) × InStream (run w (replicate j (world.emit out))) t
    go r (inl o) = (0, in_stream x t o)
    go r (inr g) = let (j, i) = r g in (suc j, i)

pub records_progress : RecordsProgress
unfolding RecordsProgress
records_progress house calls good lawful =
    let few = good.few in
    let x = list_stands (Climbs house) few (call_climbs few) good (fresh_climbs house) calls lawful in
    let z = x.standing in
    let y = x.more in (
      logs_ascend x.is z y.lasts y.written,
      next_taken x.is z y.lasts y.written,
      due_is_whole x.is z,
      λ n t k c out d h u room. drain few (rank k c + 1) n t k c out x d h u room (omega arith),
    )
