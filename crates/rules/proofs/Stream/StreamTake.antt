-- The merger's invariant over a record taken, and over a move of the sites.
use Prim.Native.Nat.{ℕ, ◌+◌, ◌≤◌, ◌<◌}
use mathlib.Core.Path.{◌≡◌, refl, sym, ◌∙◌}
use mathlib.Core.Logic.{◌⊎◌, inl, inr}
use mathlib.Core.List.{List, [], ◌∷◌, ◌++◌, append_assoc, append-nil}
use native.Mathlib.Numerals.{add-one}
use native.Mathlib.Omega.{arith}
use borrow.Author.Tests.{eqb-true}
use lib.Dec.{eqb}
use lib.ListN.{length, get_or, take, length-append}
use lib.Seq.{take-append-le, take-suc}
use Rattle.kinds.specs.declared.House.{House}
use Rattle.laws.specs.Choice.{by_test}
use Rattle.laws.specs.Pair.{rank}
use Rattle.kinds.specs.declared.Entry.{Entry}
use Rattle.rules.specs.House.{coordinator_of}
use Rattle.rules.specs.World.{upd}
use Rattle.rules.proofs.Lists.Tables.{all_map, all_append, all_one}
use Rattle.rules.proofs.Protocol.ProtocolTables.{Protocol, Rec, r_part, r_state}
use Rattle.rules.proofs.Protocol.Invariants.{Invariant}
use Rattle.rules.proofs.Steps.StepParts.{parts_append}
use Rattle.rules.proofs.Protocol.Turns.{Logged, l_same, l_part, l_state}
use Rattle.rules.proofs.Protocol.News.{NumNow}
use Rattle.rules.proofs.Protocol.Changes.{Change}
use Rattle.rules.proofs.Stream.Stream.{Item, Merger, rank_of, item_rank, NextRecord, took_part, took_state}
use Rattle.rules.proofs.Stream.StreamInv.{item_at, Out, parts_at, end_state, NotAbove, Source, SourceAt, Streamed, item_low}

-- One record more taken.
end_append : (k : ℕ) (l m : List Rec) → end_state k (l ++ m) ≡ end_state (end_state k l) m
end_append k [] m = refl
end_append k (r_part e ∷ l) m = end_append k l m
end_append k (r_state n ∷ l) m = end_append n l m

not_above : (a b n k : ℕ) → a ≤ b → n ≤ k → (r : Rec) → NotAbove a n r → NotAbove b k r
not_above a b n k x y (r_part e) h = omega arith
not_above a b n k x y (r_state i) h = omega arith

module _ {out : List Item} {s : ℕ} {log : List Rec} {took : ℕ} {queue : List Entry} {state last : ℕ}
    (i : Source out s log took queue state last) (l : took < length log) where
  pub taken_more : (r : Rec) → get_or log took r ≡ r → take (took + 1) log ≡ take took log ++ (r ∷ [])
  taken_more r e = rw (add-one, take-suc log took r l, e)

  more_part : (e : Entry) → get_or log took (r_part e) ≡ r_part e → last < rank_of e
      → Source out s log (took + 1) (queue ++ (e ∷ [])) state (rank_of e)
  more_part e x h =
      let k = taken_more (r_part e) x in
      record {
        count = omega arith;
        parts = λ z. rw (k, parts_append (take took log) (r_part e ∷ []), i.parts z) (append_assoc (parts_at s out) queue (e ∷ []));
        ends = rw (k, end_append 0 (take took log) (r_part e ∷ [])) i.ends;
        below = rw k
            (all_append (all_map (not_above last (rank_of e) state state (omega arith) (omega arith)) i.below) (all_one (omega arith)));
      }

  more_state : (n : ℕ) → get_or log took (r_state n) ≡ r_state n → state ≤ n → Source out s log (took + 1) queue n last
  more_state n x h =
      let k = taken_more (r_state n) x in
      record {
        count = omega arith;
        parts = λ z. rw (k, parts_append (take took log) (r_state n ∷ [])) (rw append-nil (i.parts z));
        ends = rw (k, end_append 0 (take took log) (r_state n ∷ [])) refl;
        below = rw k (all_append (all_map (not_above last last state n (omega arith) h) i.below) (all_one (omega arith)));
      }

module _ {house : House} {p : Protocol} {m : Merger} (i : Streamed house p m) where
  -- nothing is emitted
  quiet : (n : Merger) → n.out ≡ m.out → ((s : ℕ) → SourceAt p n s) → Streamed house p n
  quiet n e h =
      record {
        source = h;
        clock = rw e i.clock;
        home = rw e i.home;
        ascends = rw e i.ascends;
        whole = rw e i.whole;
      }

  pub took_part_lem : (s : ℕ) (e : Entry) → NextRecord p m s (r_part e) → m.last s < rank_of e → Streamed house p (took_part m s e)
  unfolding upd
  took_part_lem s e n h =
      quiet (took_part m s e) refl
      (λ j. by_test (eqb j s)
      (λ t. rw t (rw (eqb-true j s t) (more_part (i.source s) n.some e n.is h)))
      (λ t. rw t (i.source j)))

  pub took_state_lem : (s k : ℕ) → NextRecord p m s (r_state k) → m.state s ≤ k → Streamed house p (took_state m s k)
  unfolding upd
  took_state_lem s k n h =
      quiet (took_state m s k) refl
      (λ j. by_test (eqb j s)
      (λ t. rw t (rw (eqb-true j s t) (more_state (i.source s) n.some k n.is h)))
      (λ t. rw t (i.source j)))

-- A move of the sites: a log may have one record more, clocks never fall, and a new number is above the clock.
pub grown : (p : Protocol) (s : ℕ) (l : List Rec) → Logged p s l → (r : List Rec) × (l ≡ p.log s ++ r)
grown p s l (l_same e) = ([], e ∙ sym (append-nil (p.log s)))
grown p s l (l_part t d f e) = (_, e)
grown p s l (l_state n a e) = (_, e)

longer : {out : List Item} {s : ℕ} {log : List Rec} {took : ℕ} {queue : List Entry} {state last : ℕ} (r : List Rec)
    → Source out s log took queue state last
    → Source out s (log ++ r) took queue state last
longer {log = log} {took = took} r i =
    let e = take-append-le took log r i.count in
    record {
      count = omega (arith, length-append log r);
      parts = λ z. rw e (i.parts z);
      ends = rw e i.ends;
      below = rw e i.below;
    }

pub streamed_moved : {house : House} {p q : Protocol} {m : Merger} → house.sites ≤ 8 → Invariant house p → Change house p q
    → Streamed house p m
    → Streamed house q m
streamed_moved {house} {p} {q} {m} h inv c i =
    record {
      source = λ s. let (r, e) = grown p s (q.log s) (c.logs s) in rw e (longer r (i.source s));
      clock = λ s j l u n. omega (arith, i.clock s j l u n, c.later.clock s);
      home = i.home;
      ascends = i.ascends;
      whole = λ t j z n l. go t j n l (c.news.num t z);
    }
  where
    go : (t j : ℕ) → j < length m.out → rank (q.num t) (coordinator_of t) ≤ item_rank (item_at m j)
        → (0 < p.num t) ⊎ NumNow p q t (q.num t) → Out m t
    go t j n l (inl z) = i.whole t j z n (rw (c.later.num t z) at l)
    go t j n l (inr (a, b, e, d, o)) =
        let has = inv.parts.has (coordinator_of t) t (λ f. omega arith) in
        let (x, y) = inv.parts.site (coordinator_of t) t has in
        absurd (omega (arith, i.clock (coordinator_of t) j x y n, item_low inv i h j n))
