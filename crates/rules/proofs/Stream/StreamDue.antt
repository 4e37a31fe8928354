-- What is due at a site: whatever bounds the site's log bounds it, and of that log only the head, or what is above it, is not yet emitted.
use Prim.Native.Nat.{ℕ, zero, suc, ◌+◌, ◌-◌, ◌≤◌, ◌<◌}
use mathlib.Core.Path.{◌≡◌, refl, sym, ap, ◌∙◌}
use mathlib.Core.Logic.{◌⊎◌, inl, inr, ⊎_elim}
use mathlib.Core.List.{List, [], ◌∷◌, ◌++◌, append_assoc, append-nil}
use native.Mathlib.Nat.{eq-or-lt_of_le}
use native.Mathlib.Omega.{arith}
use lib.ListN.{length, get_or, take, length-append, take-append-drop}
use lib.Seq.{get_or-append-add}
use Rattle.kinds.specs.declared.House.{House}
use Rattle.laws.specs.Pair.{rank}
use Rattle.kinds.specs.declared.Entry.{Entry}
use Rattle.kinds.specs.State.{past_entry}
use Rattle.rules.specs.House.{coordinator_of}
use Rattle.rules.proofs.Lists.Tables.{All, a_nil, a_cons, all_left, all_right, all_take, all_head}
use Rattle.rules.proofs.Protocol.ProtocolTables.{Protocol, Rec, r_part, r_state, parts_of, inst}
use Rattle.rules.proofs.Protocol.Invariants.{at, In, RecLow, RecBelow, Invariant, Ascending, StandsBefore}
use Rattle.rules.proofs.Protocol.Committed.{low_coordinator, committed_in}
use Rattle.rules.proofs.Stream.Stream.{Merger, rank_of, DueAt}
use Rattle.rules.proofs.Stream.StreamInv.{Out, end_state, Streamed, gone, rest, inst_split, head_at_lem, head_real, item_at_lem, item_mask}
use Rattle.rules.proofs.Stream.StreamInv.{real_at}

pub all_parts : {P : Rec → Type 0} {l : List Rec} → All P l → (i : ℕ) → i < length (parts_of l) → P (r_part (get_or (parts_of l) i past_entry))
all_parts a_nil i h = absurd (omega arith)
all_parts (a_cons {x = r_part e} p ps) zero h = p
all_parts (a_cons {x = r_part e} p ps) (suc i) h = all_parts ps i (omega arith)
all_parts (a_cons {x = r_state n} p ps) i h = all_parts ps i h

-- the last state number is bounded as all are
pub end_below : {n : ℕ} (c k : ℕ) {l : List Rec} → All (RecBelow n c) l → k < n → end_state k l < n
end_below c k a_nil h = h
end_below c k (a_cons {x = r_part e} p ps) h = end_below c k ps h
end_below c k (a_cons {x = r_state i} p ps) h = end_below c i ps p

pub end_low : {n : ℕ} (k : ℕ) {l : List Rec} → All (RecLow n) l → k ≤ n → end_state k l ≤ n
end_low k a_nil h = h
end_low k (a_cons {x = r_part e} p ps) h = end_low k ps h
end_low k (a_cons {x = r_state i} p ps) h = end_low i ps p

-- What stands before a part is below it.
pub part_above : (before l : List Rec) → Ascending before l → (i : ℕ) → i < length (parts_of l)
    → All (StandsBefore (r_part (get_or (parts_of l) i past_entry))) before
part_above before [] o i h = absurd (omega arith)
part_above before (r_part x ∷ l) (a, o) zero h = a
part_above before (r_part x ∷ l) (a, o) (suc i) h =
    all_left before (r_part x ∷ []) (part_above (before ++ (r_part x ∷ [])) l o i (omega arith))
part_above before (r_state k ∷ l) (a, o) i h = all_left before (r_state k ∷ []) (part_above (before ++ (r_state k ∷ [])) l o i h)

ascending_behind : (before l m : List Rec) → Ascending before (l ++ m) → Ascending (before ++ l) m
ascending_behind before [] m o = rw append-nil o
ascending_behind before (x ∷ l) m (a, o) = rw append_assoc at (ascending_behind (before ++ (x ∷ [])) l m o)

pub parts_ascend : (before l : List Rec) → Ascending before l → (j i : ℕ) → j < i → i < length (parts_of l)
    → rank_of (get_or (parts_of l) j past_entry) < rank_of (get_or (parts_of l) i past_entry)
parts_ascend before [] o j i x h = absurd (omega arith)
parts_ascend before (r_part y ∷ l) (a, o) j zero x h = absurd (omega arith)
parts_ascend before (r_part y ∷ l) (a, o) zero (suc i) x h =
    all_head (all_right before (r_part y ∷ []) (part_above (before ++ (r_part y ∷ [])) l o i (omega arith)))
parts_ascend before (r_part y ∷ l) (a, o) (suc j) (suc i) x h = parts_ascend (before ++ (r_part y ∷ [])) l o j i (omega arith) (omega arith)
parts_ascend before (r_state k ∷ l) (a, o) j i x h = parts_ascend (before ++ (r_state k ∷ [])) l o j i x h

module _ {house : House} (few : house.sites ≤ 8) {p : Protocol} {m : Merger} (inv : Invariant house p) (i : Streamed house p m) where
  pub head_low : (s : ℕ) (e : Entry) (l : List Entry) → 1 ≤ s → m.queue s ≡ e ∷ l → coordinator_of e.tx ≤ 8
  head_low s e l h q = low_coordinator few inv.parts s e.tx (head_real inv i s e l h q).has

  -- the head of a queue was not emitted
  pub head_not_out : (s : ℕ) (e : Entry) (l : List Entry) → 1 ≤ s → m.queue s ≡ e ∷ l → Out m e.tx → ⊥
  head_not_out s e l h q (j, b, t) =
      let r = head_real inv i s e l h q in
      let o : In (p.mask e.tx) s = committed_in inv.parts inv.account e.tx r.committed s r.has in
      let (k, c, a, y) = item_at_lem inv i s j b (rw (item_mask inv i j b, t) o) in
      let (n, z) = head_at_lem inv i s e l h q in
      omega (
        arith,
        inv.parts.entry_once s k (length (gone inv i s)) a n (ap (λ (f : Entry). f.tx) y ∙ t ∙ ap (λ (f : Entry). f.tx) (sym z)),
      )

  module _ (g : Entry) (s : ℕ) (site : 1 ≤ s) (due : DueAt g (m.state s) (m.queue s)) where
    pub due_low : (n : ℕ) → All (RecLow n) (p.log s) → g.number ≤ n
    due_low n a = go (m.queue s) refl due
      where
        go : (q : List Entry) → m.queue s ≡ q → DueAt g (m.state s) q → g.number ≤ n
        go [] e d = let k = end_low 0 (all_take (m.took s) (p.log s) a) (omega arith) in omega (arith, (i.source s).ends)
        go (x ∷ q) e d =
            let (c, y) = head_at_lem inv i s x q site e in
            let k : x.number ≤ n = rw y at (all_parts a (length (gone inv i s)) c) in
            omega (arith, head_low s x q site e)

    module _ (low : coordinator_of g.tx ≤ 8) where
      pub due_below : (n c : ℕ) → 0 < n → All (RecBelow n c) (p.log s) → rank_of g < rank n c
      due_below n c z a = go (m.queue s) refl due
        where
          go : (q : List Entry) → m.queue s ≡ q → DueAt g (m.state s) q → rank_of g < rank n c
          go [] e d = let k = end_below c 0 (all_take (m.took s) (p.log s) a) z in omega (arith, (i.source s).ends)
          go (x ∷ q) e d =
              let (l, y) = head_at_lem inv i s x q site e in
              let k : rank_of x < rank n c = rw y at (all_parts a (length (gone inv i s)) l) in
              omega arith

      -- the j-th part of the log, not emitted: above it, or at the head
      pub due_behind : (j : ℕ) → j < length (inst p s) → length (gone inv i s) ≤ j
          → (rank_of g < rank_of (at p s j)) ⊎ ((q : List Entry) × (m.queue s ≡ at p s j ∷ q) × (rank_of g ≤ rank_of (at p s j)))
      due_behind j l h = go (m.queue s) refl due
        where
          go : (q : List Entry) → m.queue s ≡ q → DueAt g (m.state s) q
              → (rank_of g < rank_of (at p s j)) ⊎ ((q : List Entry) × (m.queue s ≡ at p s j ∷ q) × (rank_of g ≤ rank_of (at p s j)))
          go [] f d =
              let t = take (m.took s) (p.log s) in
              let r = rest inv i s in
              let k = j - length (gone inv i s) in
              let w : inst p s ≡ gone inv i s ++ parts_of r = rw f at (inst_split inv i s site) in
              let v : k < length (parts_of r) = omega (arith, length-append (gone inv i s) (parts_of r), ap length w) in
              let x : length (gone inv i s) + k ≡ j = omega arith in
              let z : get_or (parts_of r) k past_entry ≡ at p s j =
              rw w (sym (rw x at (get_or-append-add (gone inv i s) (parts_of r) k past_entry))) in
              let o : Ascending t r = ascending_behind [] t r (rw (take-append-drop (m.took s) (p.log s)) (inv.order.ascends s)) in
              let y : All (RecBelow (at p s j).number (coordinator_of (at p s j).tx)) t = rw z at (part_above t r o k v) in
              let n : 0 < (at p s j).number = let b = real_at inv s j l in omega (arith, b.number, b.committed) in
              inl (omega (arith, (i.source s).ends, end_below _ 0 y n))
          go (x ∷ q) f d =
              let (n, b) = head_at_lem inv i s x q site f in
              ⊎_elim
              (λ (z : length (gone inv i s) ≡ j). let y : at p s j ≡ x = rw z at b in inr (q, rw y f, rw y d))
              (λ (z : length (gone inv i s) < j).
              let v : rank_of x < rank_of (at p s j) = rw b at (parts_ascend [] (p.log s) (inv.order.ascends s) _ j z l) in
              inl (omega arith))
              (eq-or-lt_of_le h)
