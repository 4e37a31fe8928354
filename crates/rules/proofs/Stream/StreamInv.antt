-- What holds of the merger over the sites' logs, and what that says of each item and of each queued part: it is the part that
-- its site installed.
use Prim.Native.Nat.{ℕ, zero, suc, ◌+◌, ◌≤◌, ◌<◌}
use mathlib.Core.Path.{◌≡◌, refl, sym, ap, ◌∙◌}
use mathlib.Core.Bool.{true}
use mathlib.Core.Logic.{◌⊎◌, inl, inr}
use mathlib.Core.List.{List, [], ◌∷◌, ◌++◌, append_assoc}
use native.Mathlib.Omega.{arith}
use borrow.Author.Tests.{ltb-true, ltb-false}
use lib.Dec.{ltb}
use lib.ListN.{length, get_or, take, drop, length-append, take-append-drop, get_or-append}
use lib.Seq.{get_or-append-add, get_or-append_seam}
use Rattle.kinds.specs.declared.House.{House}
use Rattle.laws.specs.Choice.{pick, by_test}
use Rattle.laws.specs.Pair.{rank}
use Rattle.kinds.specs.declared.Entry.{Entry}
use Rattle.kinds.specs.State.{no_keys, past_entry}
use Rattle.rules.specs.House.{coordinator_of, in_mask}
use Rattle.rules.proofs.Lists.Tables.{All, a_nil}
use Rattle.rules.proofs.Protocol.ProtocolTables.{Protocol, Rec, r_part, r_state, parts_of, inst}
use Rattle.rules.proofs.Protocol.Invariants.{at, In, Invariant}
use Rattle.rules.proofs.Steps.StepParts.{parts_append}
use Rattle.rules.proofs.Protocol.Committed.{low_coordinator}
use Rattle.rules.proofs.Stream.Stream.{Item, Merger, rank_of, item_rank, fresh_merger}

-- past the end of what was emitted
abbrev pub past_item : Item
past_item = record { tx = 0; number = 0; mask = 0; keys = λ s. no_keys }

abbrev pub item_at : Merger → ℕ → Item
item_at m i = get_or m.out i past_item

-- t was emitted
abbrev pub Out : Merger → ℕ → Type 0
Out m t = (i : ℕ) × (i < length m.out) × ((item_at m i).tx ≡ t)

-- the part of an item at s, and the parts at s of all items
abbrev pub part_at : ℕ → Item → Entry
part_at s x = record { tx = x.tx; mask = x.mask; number = x.number; keys = x.keys s }

abbrev pub one_part : ℕ → Item → List Entry
one_part s x = pick (in_mask x.mask s) (part_at s x ∷ []) []

abbrev pub parts_at : ℕ → List Item → List Entry
parts_at s [] = []
parts_at s (x ∷ l) = one_part s x ++ parts_at s l

-- the last state number of some records, k before the first
abbrev pub end_state : ℕ → List Rec → ℕ
end_state k [] = k
end_state k (r_part e ∷ l) = end_state k l
end_state k (r_state n ∷ l) = end_state n l

-- no record lies above the last part's rank and the last state
abbrev pub NotAbove : ℕ → ℕ → Rec → Type 0
NotAbove last state (r_part e) = rank_of e ≤ last
NotAbove last state (r_state n) = n ≤ state

-- The merger took a prefix of the log of s; its parts are those emitted and then those queued.
pub record Source (out : List Item) (s : ℕ) (log : List Rec) (took : ℕ) (queue : List Entry) (state last : ℕ) : Type 0 where
  pub count : took ≤ length log
  pub parts : 1 ≤ s → parts_of (take took log) ≡ parts_at s out ++ queue
  pub ends : state ≡ end_state 0 (take took log)
  pub below : All (NotAbove last state) (take took log)

abbrev pub SourceAt : Protocol → Merger → ℕ → Type 0
SourceAt p m s = Source m.out s (p.log s) (m.took s) (m.queue s) (m.state s) (m.last s)

-- `clock`: no clock is below what was emitted. What was emitted ascends, and is every committed transaction up to its last. `home`: each
-- item has a site.
pub record Streamed (house : House) (p : Protocol) (m : Merger) : Type 0 where
  pub source : (s : ℕ) → SourceAt p m s
  pub clock : (s i : ℕ) → 1 ≤ s → s ≤ house.sites → i < length m.out → (item_at m i).number ≤ p.clock s
  pub home : (i : ℕ) → i < length m.out → (s : ℕ) × In (item_at m i).mask s
  pub ascends : (i j : ℕ) → i < j → j < length m.out → item_rank (item_at m i) < item_rank (item_at m j)
  pub whole : (t i : ℕ) → 0 < p.num t → i < length m.out → rank (p.num t) (coordinator_of t) ≤ item_rank (item_at m i) → Out m t

pub streamed_fresh : (house : House) (p : Protocol) → Streamed house p fresh_merger
unfolding fresh_merger
streamed_fresh house p =
    record {
      source = λ s. record { count = omega arith; parts = λ l. refl; ends = refl; below = a_nil };
      clock = λ s i l h n. absurd (omega arith);
      home = λ i n. absurd (omega arith);
      ascends = λ i j l n. absurd (omega arith);
      whole = λ t i z n. absurd (omega arith);
    }

-- A part that s installed.
pub record Real (p : Protocol) (s : ℕ) (e : Entry) : Type 0 where
  pub number : e.number ≡ p.num e.tx
  pub committed : 0 < p.num e.tx
  pub mask : e.mask ≡ p.mask e.tx
  pub has : p.has s e.tx ≡ true
  pub keys : e.keys ≡ p.keys s e.tx

pub real_at : {house : House} {p : Protocol} → Invariant house p → (s i : ℕ) → i < length (inst p s) → Real p s (at p s i)
real_at i s j l =
    let k = i.account.entry s j l in
    record { number = k.0; committed = k.1; mask = k.2; has = i.parts.entry_has s j l; keys = i.parts.entry_keys s j l }

-- The parts of an item among the parts at a site, and back.
pub parts_at_append : (s : ℕ) (l m : List Item) → parts_at s (l ++ m) ≡ parts_at s l ++ parts_at s m
parts_at_append s [] m = refl
parts_at_append s (x ∷ l) m = rw (parts_at_append s l m) (sym (append_assoc (one_part s x) (parts_at s l) (parts_at s m)))

pub part_of : (s : ℕ) (l : List Item) (i : ℕ) → i < length l → in_mask (get_or l i past_item).mask s ≡ true
    → (j : ℕ) × (j < length (parts_at s l)) × (get_or (parts_at s l) j past_entry ≡ part_at s (get_or l i past_item))
part_of s [] i h e = absurd (omega arith)
part_of s (x ∷ l) zero h e = rw e (0, omega arith, refl)
part_of s (x ∷ l) (suc i) h e =
    let (j, n, q) = part_of s l i (omega arith) e in (
      length (one_part s x) + j,
      omega (arith, length-append (one_part s x) (parts_at s l)),
      get_or-append-add (one_part s x) (parts_at s l) j past_entry ∙ q,
    )

abbrev ItemOf : ℕ → List Item → ℕ → Type 0
ItemOf s l j = (i : ℕ) × (i < length l) × ((get_or l i past_item).tx ≡ (get_or (parts_at s l) j past_entry).tx)

item_more : (s : ℕ) (x : Item) (l : List Item) → ((j : ℕ) → j < length (parts_at s l) → ItemOf s l j) → in_mask x.mask s ≡ true
    → (j : ℕ) → j < length (parts_at s (x ∷ l)) → ItemOf s (x ∷ l) j
item_more s x l f e zero h = rw e (0, omega arith, refl)
item_more s x l f e (suc j) h = let (i, n, q) = f j (omega (arith, rw e at h)) in rw e (suc i, omega arith, q)

pub item_of : (s : ℕ) (l : List Item) (j : ℕ) → j < length (parts_at s l) → ItemOf s l j
item_of s [] j h = absurd (omega arith)
item_of s (x ∷ l) j h =
    by_test (in_mask x.mask s)
    (λ e. item_more s x l (item_of s l) e j h)
    (λ e. let (i, n, q) = item_of s l j (rw e at h) in rw e (suc i, omega arith, q))

module _ {house : House} {p : Protocol} {m : Merger} (inv : Invariant house p) (i : Streamed house p m) where
  -- The parts that s installed: those emitted, those queued, those not taken.
  abbrev pub gone : ℕ → List Entry
  gone s = parts_at s m.out

  abbrev pub rest : ℕ → List Rec
  rest s = drop (m.took s) (p.log s)

  pub inst_split : (s : ℕ) → 1 ≤ s → inst p s ≡ gone s ++ (m.queue s ++ parts_of (rest s))
  inst_split s h =
      ap parts_of (sym (take-append-drop (m.took s) (p.log s)))
      ∙ parts_append (take (m.took s) (p.log s)) (rest s)
      ∙ ap (λ (l : List Entry). l ++ parts_of (rest s)) ((i.source s).parts h)
      ∙ append_assoc (gone s) (m.queue s) (parts_of (rest s))

  gone_at : (s j : ℕ) → 1 ≤ s → j < length (gone s) → (j < length (inst p s)) × (at p s j ≡ get_or (gone s) j past_entry)
  gone_at s j h l =
      rw (inst_split s h) (
        omega (arith, length-append (gone s) (m.queue s ++ parts_of (rest s))),
        get_or-append (gone s) (m.queue s ++ parts_of (rest s)) past_entry j l,
      )

  -- the head of a queue
  pub head_at_lem : (s : ℕ) (e : Entry) (l : List Entry) → 1 ≤ s → m.queue s ≡ e ∷ l
      → (length (gone s) < length (inst p s)) × (at p s (length (gone s)) ≡ e)
  head_at_lem s e l h q =
      rw (inst_split s h, q)
      (omega (arith, length-append (gone s) (e ∷ (l ++ parts_of (rest s)))), get_or-append_seam (gone s) e (l ++ parts_of (rest s)) past_entry)

  pub head_real : (s : ℕ) (e : Entry) (l : List Entry) → 1 ≤ s → m.queue s ≡ e ∷ l → Real p s e
  head_real s e l h q = let (n, a) = head_at_lem s e l h q in rw a at (real_at inv s (length (gone s)) n)

  -- an item at a site of its mask: the part installed there
  pub item_at_lem : (s j : ℕ) → j < length m.out → In (item_at m j).mask s
      → (k : ℕ) × (k < length (gone s)) × (k < length (inst p s)) × (at p s k ≡ part_at s (item_at m j))
  item_at_lem s j l (h, e) =
      let (k, n, q) = part_of s m.out j l e in
      let (a, b) = gone_at s k h n in
      (k, n, a, b ∙ q)

  pub item_real : (s j : ℕ) → j < length m.out → In (item_at m j).mask s → Real p s (part_at s (item_at m j))
  item_real s j l h = let (k, n, a, b) = item_at_lem s j l h in rw b at (real_at inv s k a)

  -- an item has its transaction's number and participants
  pub item_number : (j : ℕ) → j < length m.out → (item_at m j).number ≡ p.num (item_at m j).tx
  item_number j l = let (s, h) = i.home j l in (item_real s j l h).number

  pub item_committed : (j : ℕ) → j < length m.out → 0 < p.num (item_at m j).tx
  item_committed j l = let (s, h) = i.home j l in (item_real s j l h).committed

  pub item_mask : (j : ℕ) → j < length m.out → (item_at m j).mask ≡ p.mask (item_at m j).tx
  item_mask j l = let (s, h) = i.home j l in (item_real s j l h).mask

  pub item_low : house.sites ≤ 8 → (j : ℕ) → j < length m.out → coordinator_of (item_at m j).tx ≤ 8
  item_low x j l = let (s, h) = i.home j l in low_coordinator x inv.parts s _ (item_real s j l h).has

  -- what was installed and not emitted stands behind the parts emitted
  pub not_gone : (s j : ℕ) → 1 ≤ s → j < length (inst p s) → Out m (at p s j).tx ⊎ (length (gone s) ≤ j)
  not_gone s j h l =
      by_test (ltb j (length (gone s)))
      (λ t. let k = ltb-true j (length (gone s)) t in
      let (a, n, q) = item_of s m.out j k in
      inl (a, n, q ∙ ap (λ (e : Entry). e.tx) (sym (gone_at s j h k).1)))
      (λ t. inr (ltb-false j (length (gone s)) t))
