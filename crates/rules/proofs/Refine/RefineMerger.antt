-- The tie between the rules and the merger's machine: when the merger's queues, the stream and the copies are those of the machine's
-- tables.
use Prim.Native.Nat.{ℕ, ◌+◌, ◌≤◌, ◌<◌}
use mathlib.Core.Path.{◌≡◌, refl, ap, ◌∙◌}
use mathlib.Core.Bool.{true}
use mathlib.Core.List.{List, [], ◌∷◌, ◌++◌, map}
use native.Mathlib.Omega.{arith}
use borrow.Author.Tests.{eqb-true, eq-eqb}
use lib.Dec.{eqb}
use lib.ListN.{length, get_or, take, length-map, get_or-map}
use Rattle.laws.specs.Choice.{pick, picked_left, picked_right}
use Rattle.laws.specs.Scan.{fold_below}
use Rattle.laws.specs.Pair.{rank}
use Rattle.kinds.specs.Sizes as sizes
use Rattle.kinds.specs.declared.House.{House}
use Rattle.kinds.specs.Kind as kind
use Rattle.kinds.specs.Word as word
use Rattle.kinds.specs.State.{fresh, past_entry}
use Rattle.kinds.specs.declared.Keys.{Keys}
use Rattle.kinds.specs.declared.Entry.{Entry}
use Rattle.kinds.specs.declared.RecordHead.{RecordHead}
use Rattle.kinds.specs.declared.Source.{Source}
use Rattle.kinds.specs.declared.Merger.{Merger}
use Rattle.rules.specs.House.{coordinator_of, in_mask, home_of}
use Rattle.rules.specs.Keys.{sorted_key, sorted_count, sorted_words}
use Rattle.rules.specs.Message.{message_words}
use Rattle.rules.specs.Record.{record_words, record_head, record_shape}
use Rattle.rules.specs.RecordLaws.{shape_clear, head_back}
use Rattle.rules.specs.Course.{head_of}
use Rattle.rules.specs.Install.{state_words}
use Rattle.rules.specs.Merger.{source_at, queued_part, writes_in}
use Rattle.rules.specs.MergerKept.{Holds}
use Rattle.rules.specs.Copy.{copy_number, copy_coordinator, copy_value}
use Rattle.rules.specs.World.{World, Member, here, there, same_words}
use Rattle.rules.specs.Book.{Fact}
use Rattle.rules.proofs.Lists.Tables.{All}
use Rattle.rules.proofs.Protocol.ProtocolTables.{Protocol, Msg, m_join, m_joined, m_prepare, m_conc, m_cert, m_vote, m_commit, m_abort}
use Rattle.rules.proofs.Protocol.Protocol.{Moves, stop, more}
use Rattle.rules.proofs.Protocol.Frames.{in_range_lem}
use Rattle.rules.proofs.Refine.Refines.{encode, Posted, entry_words, part_head_of, Refines}
use Rattle.rules.proofs.Refine.RefineStep.{Follows}
use Rattle.rules.proofs.Stream.Stream as stream
use Rattle.rules.proofs.Stream.Stream.{Item, Stream, Step, Steps}
use Rattle.rules.proofs.Stream.StreamClaims.{left_in}
use Rattle.rules.proofs.Book.Told.{told, told_all, told_steps}

-- The words of an item.
abbrev pub key_words : Keys → List ℕ
key_words b = sorted_words b (sorted_count b)

abbrev pub site_writes : Item → ℕ → List ℕ
site_writes x i = pick (in_mask x.mask (i + 1)) (key_words (x.keys (i + 1))) []

unfoldable pub item_writes : ℕ → Item → List ℕ
item_writes n x = fold_below (λ i ws. ws ++ site_writes x i) n []

abbrev pub item_head : ℕ → Item → RecordHead
item_head n x =
    record {
      kind = kind.merged;
      site = 0;
      number = x.number;
      coordinator = coordinator_of x.tx;
      tx = x.tx;
      mask = x.mask;
      count = writes_in (item_writes n x);
    }

unfoldable pub item_words : ℕ → Item → List ℕ
item_words n x = record_words (item_head n x) (item_writes n x)

-- One site: its queue's words are those of the queued parts.
pub record SourceIs (c : Source) (queues : List ℕ) (i : ℕ) (queue : List Entry) (state last : ℕ) : Type 0 where
  pub queued : c.queued ≡ length queue
  pub state_is : c.state ≡ state
  pub last_is : rank c.number c.coordinator ≡ last
  pub low : c.coordinator < 16
  pub words : (j : ℕ) → j < length queue → queued_part queues i j ≡ entry_words (i + 1) (get_or queue j past_entry)

pub record MergerIs (house : House) (g : Merger) (queues : List ℕ) (m : stream.Merger) : Type 0 where
  pub house_is : g.house ≡ house
  pub holds : Holds g queues
  pub source : (i : ℕ) → i < house.sites → SourceIs (source_at g i) queues i (m.queue (i + 1)) (m.state (i + 1)) (m.last (i + 1))

-- an item's keys are of its parts' sites, which the house has
pub record Placed (house : House) (x : Item) : Type 0 where
  pub keys : (s j : ℕ) → 1 ≤ s → in_mask x.mask s ≡ true → j < sorted_count (x.keys s)
      → home_of house (sorted_key (x.keys s) j) ≡ s
  pub few : (s : ℕ) → 1 ≤ s → in_mask x.mask s ≡ true → s ≤ house.sites

-- the pair of the last of some items
abbrev pub end_number : ℕ → List Item → ℕ
end_number k [] = k
end_number k (x ∷ l) = end_number x.number l

abbrev pub end_coordinator : ℕ → List Item → ℕ
end_coordinator k [] = k
end_coordinator k (x ∷ l) = end_coordinator (coordinator_of x.tx) l

-- A copy that replayed some items.
pub record CopyIs (house : House) (copy : List ℕ) (items : List Item) : Type 0 where
  pub size : length copy ≡ sizes.copy
  pub number : copy_number copy ≡ end_number 0 items
  pub coordinator : copy_coordinator copy ≡ end_coordinator 0 items
  pub value : (k : ℕ) → k < sizes.keys → copy_value copy k ≡ left_in house k fresh items

pub record StreamIs (house : House) (w : World) (v : Stream) : Type 0 where
  pub refines : Refines house w v.protocol
  pub merger : MergerIs house w.merger w.queues v.merger
  pub merged : (s : ℕ) → w.merged s ≡ v.merger.took s
  pub placed : All (Placed house) v.merger.out
  pub emitted : w.stream ≡ map (item_words house.sites) v.merger.out
  pub replayed : (c : ℕ) → w.replayed c ≡ v.replayed c
  pub copy : (c : ℕ) → CopyIs house (w.copy c) (take (v.replayed c) v.merger.out)

-- some steps on, which tell these facts, the machine is that of a world
abbrev pub Onward : House → Stream → World → List Fact → Type 0
Onward house v w fs = (u : Stream) × (ss : Steps house v u) × (told_steps ss ≡ fs) × StreamIs house w u

abbrev pub one_step : {house : House} {v u : Stream} → Step house v u → Steps house v u
one_step s = stream.more stream.stop s

-- A call of a site: moves, and nothing of the merger or the copies.
module _ (g : stream.Merger) (n : ℕ → ℕ) where
  abbrev beside : Protocol → Stream
  beside p = record { protocol = p; merger = g; replayed = n }

  moved : {house : House} {p q : Protocol} → Moves house p q → Steps house (beside p) (beside q)
  moved stop = stream.stop
  moved (more ms m) = stream.more (moved ms) (stream.moves _ m)

  told_moved : {house : House} {p q : Protocol} (ms : Moves house p q) → told_steps (moved ms) ≡ told_all ms
  unfolding moved
  told_moved stop = refl
  told_moved (more ms m) = ap (λ (l : List Fact). l ++ told m) (told_moved ms)

pub site_onward : {house : House} {w x : World} {v : Stream} {fs : List Fact} → StreamIs house w v → Follows house v.protocol x fs
    → x.merger ≡ w.merger → x.queues ≡ w.queues → x.merged ≡ w.merged → x.stream ≡ w.stream → x.replayed ≡ w.replayed
    → x.copy ≡ w.copy → Onward house v x fs
site_onward {v = v} i (q, m, t, r) a b c d e f = (
  record { protocol = q; merger = v.merger; replayed = v.replayed },
  moved v.merger v.replayed m,
  told_moved v.merger v.replayed m ∙ t,
  record {
    refines = r;
    merger = rw (a, b) i.merger;
    merged = rw c i.merged;
    placed = i.placed;
    emitted = d ∙ i.emitted;
    replayed = rw e i.replayed;
    copy = rw f i.copy;
  },
)

-- A message is no record.
message_shape_lem : (a b n : ℕ) (m : Msg) → record_shape (encode a b n m) ≡ true → get_or (encode a b n m) word.kind 0 < kind.conc → ⊥
unfolding encode message_words head_of
message_shape_lem a b n (m_join t d) e k = let s = shape_clear _ e in omega (arith, s.fits)
message_shape_lem a b n (m_joined t r) e k = let s = shape_clear _ e in omega (arith, s.fits)
message_shape_lem a b n (m_prepare t c m) e k = let s = shape_clear _ e in omega (arith, s.fits)
message_shape_lem a b n (m_conc t es) e k = omega arith
message_shape_lem a b n (m_cert t es) e k = omega arith
message_shape_lem a b n (m_vote t c r) e k = omega arith
message_shape_lem a b n (m_commit t c) e k = omega arith
message_shape_lem a b n (m_abort t) e k = omega arith

pub posted_no_record : (post : ℕ → ℕ → List Msg) (ws : List ℕ) → Posted post ws → record_shape ws ≡ true
    → get_or ws word.kind 0 < kind.conc → ⊥
posted_no_record post ws p e k = message_shape_lem p.from p.to (p.place + 1) _ (rw p.words at e) (rw p.words at k)

-- What is in a list of words of things.
pub is_map : {A B : Type 0} (f : A → B) {b : B} (l : List A) → Member b (map f l) → (a : A) × (b ≡ f a)
is_map f [] i = elim i [ ]
is_map f (x ∷ l) here = (x, refl)
is_map f (x ∷ l) (there i) = is_map f l i

-- The records of a log, by their heads.
pub part_head_lem : (s : ℕ) (e : Entry) → record_head (entry_words s e) ≡ part_head_of s e
unfolding entry_words
part_head_lem s e = head_back (part_head_of s e) (key_words e.keys)

pub state_head : (s n : ℕ)
    → record_head (state_words s n) ≡ record { kind = kind.state; site = s; number = n; coordinator = 0; tx = 0; mask = 0; count = 0 }
unfolding state_words
state_head s n = head_back _ []

pub item_head_lem : (n : ℕ) (x : Item) → record_head (item_words n x) ≡ item_head n x
unfolding item_words
item_head_lem n x = head_back (item_head n x) (item_writes n x)

-- the i-th of a list of words
pub map_at : {A : Type 0} (f : A → List ℕ) (l : List A) (d : A) (i : ℕ) → i < length (map f l)
    → (i < length l) × (get_or (map f l) i [] ≡ f (get_or l i d))
map_at f l d i h = (omega (arith, length-map l f), in_range_lem (map f l) i [] (f d) h ∙ get_or-map f l i d)

-- Words compared.
pub same_words_lem : (x y : List ℕ) → same_words x y ≡ true → x ≡ y
same_words_lem [] [] e = refl
same_words_lem [] (b ∷ y) e = absurd (let z : ◌≡◌ {A = ℕ} 0 1 = cc in omega arith)
same_words_lem (a ∷ x) [] e = absurd (let z : ◌≡◌ {A = ℕ} 0 1 = cc in omega arith)
same_words_lem (a ∷ x) (b ∷ y) e =
    let p = eqb-true a b (picked_left (eqb a b) (same_words x y) e) in
    let q = same_words_lem x y (picked_right (eqb a b) (same_words x y) e) in
    λ i. p i ∷ q i

pub words_same : (x : List ℕ) → same_words x x ≡ true
words_same [] = refl
words_same (a ∷ x) = rw (eq-eqb a a refl) (words_same x)
