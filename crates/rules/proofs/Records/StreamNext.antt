-- The next record of a log, against what the merger has taken: it stands behind all of it, and so above it.
use Prim.Native.Nat.{ℕ, zero, suc, ◌≤◌, ◌<◌}
use mathlib.Core.Path.{◌≡◌, refl, sym, ◌∙◌}
use mathlib.Core.List.{List, [], ◌∷◌, ◌++◌, append_assoc, append-nil}
use native.Mathlib.Omega.{arith}
use borrow.Author.Tests.{eqb-true}
use lib.Dec.{eqb}
use lib.ListN.{length, get_or, take}
use lib.Seq.{take-append-le}
use Rattle.kinds.specs.declared.House.{House}
use Rattle.laws.specs.Choice.{by_test}
use Rattle.laws.specs.Pair.{rank}
use Rattle.kinds.specs.declared.Entry.{Entry}
use Rattle.kinds.specs.State.{past_entry}
use Rattle.rules.specs.World.{upd}
use Rattle.rules.proofs.Lists.Tables.{All, a_nil, a_cons}
use Rattle.rules.proofs.Protocol.ProtocolTables.{Protocol, Rec, r_part, r_state, parts_of}
use Rattle.rules.proofs.Protocol.Invariants.{RecBelow, Ascending, Invariant, StandsBefore}
use Rattle.rules.proofs.Protocol.Changes.{change}
use Rattle.rules.proofs.Stream.Stream.{Merger, rank_of, Merging, take_part, take_state, emit, Stream, Steps, stop, more, moves, merges}
use Rattle.rules.proofs.Stream.Stream.{replays, fresh_merger}
use Rattle.rules.proofs.Stream.StreamInv.{Real, real_at, Streamed, end_state}
use Rattle.rules.proofs.Stream.StreamTake.{taken_more, grown}
use Rattle.rules.proofs.Stream.StreamDue.{end_below}
use Rattle.rules.proofs.Stream.StreamReached.{Standing, standing_steps}

-- A record of a log: what stands before it.
pub stands_before : (before l : List Rec) (i : ℕ) → Ascending before l → i < length l
    → All (StandsBefore (get_or l i (r_state 0))) (before ++ take i l)
stands_before before [] i o h = absurd (omega arith)
stands_before before (x ∷ l) zero (a, o) h = rw append-nil a
stands_before before (x ∷ l) (suc i) (a, o) h = rw append_assoc at (stands_before (before ++ (x ∷ [])) l i o (omega arith))

-- A part of a log is one that its site installed.
part_index : (l : List Rec) (i : ℕ) (e : Entry) → i < length l → get_or l i (r_state 0) ≡ r_part e
    → (j : ℕ) × (j < length (parts_of l)) × (get_or (parts_of l) j past_entry ≡ e)
part_index [] i e h q = absurd (omega arith)
part_index (r_part x ∷ l) zero e h q = (0, omega arith, cc)
part_index (r_state n ∷ l) zero e h q = absurd (let z : ◌≡◌ {A = ℕ} 0 1 = cc in omega arith)
part_index (r_part x ∷ l) (suc i) e h q = let (j, b, k) = part_index l i e (omega arith) q in (suc j, omega arith, k)
part_index (r_state n ∷ l) (suc i) e h q = part_index l i e (omega arith) q

pub part_real : {house : House} {p : Protocol} → Invariant house p → (s i : ℕ) (e : Entry) → i < length (p.log s)
    → get_or (p.log s) i (r_state 0) ≡ r_part e → Real p s e
part_real {p = p} inv s i e h q = let (j, b, k) = part_index (p.log s) i e h q in rw k at (real_at inv s j b)

-- The rank of the last part of some records, k before the first; the merger's is that of what it took.
abbrev pub end_rank : ℕ → List Rec → ℕ
end_rank k [] = k
end_rank k (r_part e ∷ l) = end_rank (rank_of e) l
end_rank k (r_state n ∷ l) = end_rank k l

abbrev pub Lasts : Protocol → Merger → Type 0
Lasts p m = (s : ℕ) → m.last s ≡ end_rank 0 (take (m.took s) (p.log s))

rank_append : (k : ℕ) (l m : List Rec) → end_rank k (l ++ m) ≡ end_rank (end_rank k l) m
rank_append k [] m = refl
rank_append k (r_part e ∷ l) m = rank_append (rank_of e) l m
rank_append k (r_state n ∷ l) m = rank_append k l m

rank_below : {n : ℕ} (c k : ℕ) {l : List Rec} → All (RecBelow n c) l → k < rank n c → end_rank k l < rank n c
rank_below c k a_nil h = h
rank_below c k (a_cons {x = r_part e} p ps) h = rank_below c (rank_of e) ps p
rank_below c k (a_cons {x = r_state i} p ps) h = rank_below c k ps h

lasts_merged : {house : House} {p : Protocol} {m n : Merger} → Streamed house p m → Merging house p m n → Lasts p m → Lasts p n
unfolding upd
lasts_merged {p = p} {m = m} i (take_part s e r l k) f =
    λ j. by_test (eqb j s)
    (λ t. rw t (rw (eqb-true j s t, taken_more (i.source s) r.some (r_part e) r.is)
    (sym (rank_append 0 (take (m.took s) (p.log s)) (r_part e ∷ [])))))
    (λ t. rw t (f j))
lasts_merged {p = p} {m = m} i (take_state s n r l) f =
    λ j. by_test (eqb j s)
    (λ t. rw t (rw (eqb-true j s t, taken_more (i.source s) r.some (r_state n) r.is)
    (f s ∙ sym (rank_append 0 (take (m.took s) (p.log s)) (r_state n ∷ [])))))
    (λ t. rw t (f j))
lasts_merged i (emit g d) f = f

pub lasts_steps : {house : House} {v w : Stream} → house.sites ≤ 8 → Steps house v w → Standing house v → Lasts v.protocol v.merger
    → Lasts w.protocol w.merger
lasts_steps few stop z f = f
lasts_steps {house} few (more {v = u} ss (moves q m)) z f =
    let y = standing_steps few ss z in
    λ s. let (r, e) = grown u.protocol s (q.log s) ((change house u.protocol q few m y.invariant).logs s) in
    rw (e, take-append-le (u.merger.took s) (u.protocol.log s) r (y.streamed.source s).count) (lasts_steps few ss z f s)
lasts_steps few (more ss (merges n m)) z f = lasts_merged (standing_steps few ss z).streamed m (lasts_steps few ss z f)
lasts_steps few (more ss (replays c l)) z f = lasts_steps few ss z f

pub lasts_fresh : (p : Protocol) → Lasts p fresh_merger
unfolding fresh_merger
lasts_fresh p s = refl

state_upto : (n k : ℕ) {l : List Rec} → All (StandsBefore (r_state n)) l → k ≤ n → end_state k l ≤ n
state_upto n k a_nil h = h
state_upto n k (a_cons {x = r_part e} p ps) h = state_upto n k ps h
state_upto n k (a_cons {x = r_state i} p ps) h = state_upto n i ps p

-- The next: where it is a part, above the last part and beyond the last state, where it is a state, not below the last.
module _ {house : House} {p : Protocol} {m : Merger} (inv : Invariant house p) (i : Streamed house p m) (s : ℕ)
    (h : m.took s < length (p.log s)) where
  pub next_part : Lasts p m → (e : Entry) → get_or (p.log s) (m.took s) (r_state 0) ≡ r_part e
      → (m.last s < rank_of e) × (m.state s < e.number)
  next_part f e q =
      let r = part_real inv s (m.took s) e h q in
      let n : 0 < e.number = rw r.number r.committed in
      let b : All (StandsBefore (r_part e)) (take (m.took s) (p.log s)) =
      rw q at (stands_before [] (p.log s) (m.took s) (inv.order.ascends s) h) in
      (omega (arith, f s, rank_below _ 0 b (omega arith)), omega (arith, (i.source s).ends, end_below _ 0 b n))

  pub next_state : (n : ℕ) → get_or (p.log s) (m.took s) (r_state 0) ≡ r_state n → m.state s ≤ n
  next_state n q =
      let b : All (StandsBefore (r_state n)) (take (m.took s) (p.log s)) =
      rw q at (stands_before [] (p.log s) (m.took s) (inv.order.ascends s) h) in
      omega (arith, (i.source s).ends, state_upto n 0 b (omega arith))
