-- The merger and the copies on plain tables, beside the protocol's: how many records of each log were taken, what is queued, what was
-- emitted, and how much of that each copy replayed. The merger's tables stand alone, since several mergers may read the same logs.
use Prim.Native.Nat.{ℕ, ◌+◌, ◌≤◌, ◌<◌}
use mathlib.Core.Path.{◌≡◌}
use mathlib.Core.Bool.{true, false}
use mathlib.Core.Logic.{◌⊎◌}
use mathlib.Core.List.{List, [], ◌∷◌, ◌++◌}
use lib.ListN.{length, get_or}
use Rattle.kinds.specs.declared.House.{House}
use Rattle.laws.specs.Choice.{pick}
use Rattle.laws.specs.Pair.{rank}
use Rattle.kinds.specs.declared.Keys.{Keys}
use Rattle.kinds.specs.declared.Entry.{Entry}
use Rattle.kinds.specs.State.{no_keys}
use Rattle.rules.specs.House.{coordinator_of, in_mask}
use Rattle.rules.specs.World.{upd}
use Rattle.rules.proofs.Protocol.ProtocolTables.{Protocol, Rec, r_part, r_state}
use Rattle.rules.proofs.Protocol.Protocol.{Move, fresh_protocol}

-- What is emitted of a transaction: its number, its participants, and the keys of its part at each of them.
pub record Item : Type 0 where
  pub tx : ℕ
  pub number : ℕ
  pub mask : ℕ
  pub keys : ℕ → Keys

-- A pair as one number.
abbrev pub rank_of : Entry → ℕ
rank_of e = rank e.number (coordinator_of e.tx)

abbrev pub item_rank : Item → ℕ
item_rank x = rank x.number (coordinator_of x.tx)

-- `took s` records of the log of s were taken; `state s` is the last state number among them, `last s` the rank of the last part.
pub record Merger : Type 0 where
  pub took : ℕ → ℕ
  pub queue : ℕ → List Entry
  pub state : ℕ → ℕ
  pub last : ℕ → ℕ
  pub out : List Item

-- the next record of the log of s is r
pub record NextRecord (p : Protocol) (m : Merger) (s : ℕ) (r : Rec) : Type 0 where
  pub some : m.took s < length (p.log s)
  pub is : get_or (p.log s) (m.took s) r ≡ r

-- Nothing below g can come from a site with this queue and this state number: its head is at or above g, or it has none and g's number
-- is at most the state.
abbrev pub DueAt : Entry → ℕ → List Entry → Type 0
DueAt g state [] = g.number ≤ state
DueAt g state (e ∷ l) = rank_of g ≤ rank_of e

-- The head at s has g's pair where g's mask names s, and agrees with g; elsewhere no head has it.
abbrev pub SameHead : Entry → Entry → Type 0
SameHead g e = (rank_of e ≡ rank_of g) × (e.tx ≡ g.tx) × (e.mask ≡ g.mask)

abbrev pub WholeAt : Entry → ℕ → List Entry → Type 0
WholeAt g s [] = in_mask g.mask s ≡ false
WholeAt g s (e ∷ l) = ((in_mask g.mask s ≡ true) × SameHead g e) ⊎ ((in_mask g.mask s ≡ false) × (rank_of e ≡ rank_of g → ⊥))

-- g stands at the head of some site, is due and whole
pub record Emits (house : House) (m : Merger) (g : Entry) : Type 0 where
  pub site : ℕ
  pub site_low : 1 ≤ site
  pub site_high : site ≤ house.sites
  pub behind : List Entry
  pub head : m.queue site ≡ g ∷ behind
  pub due : (s : ℕ) → 1 ≤ s → s ≤ house.sites → DueAt g (m.state s) (m.queue s)
  pub whole : (s : ℕ) → 1 ≤ s → s ≤ house.sites → WholeAt g s (m.queue s)

abbrev pub head_keys : List Entry → Keys
head_keys [] = no_keys
head_keys (e ∷ l) = e.keys

abbrev pub behind_head : List Entry → List Entry
behind_head [] = []
behind_head (e ∷ l) = l

-- g's item: at each of its sites the keys of the head there
abbrev pub item_of : Entry → (ℕ → List Entry) → Item
item_of g queue =
    record { tx = g.tx; number = g.number; mask = g.mask; keys = λ s. pick (in_mask g.mask s) (head_keys (queue s)) no_keys }

-- The tables after each step.
abbrev pub took_part : Merger → ℕ → Entry → Merger
took_part m s e =
    record {
      took = upd m.took s (m.took s + 1);
      queue = upd m.queue s (m.queue s ++ (e ∷ []));
      state = m.state;
      last = upd m.last s (rank_of e);
      out = m.out;
    }

abbrev pub took_state : Merger → ℕ → ℕ → Merger
took_state m s n =
    record { took = upd m.took s (m.took s + 1); queue = m.queue; state = upd m.state s n; last = m.last; out = m.out }

abbrev pub emitted : Merger → Entry → Merger
emitted m g =
    record {
      took = m.took;
      queue = λ s. pick (in_mask g.mask s) (behind_head (m.queue s)) (m.queue s);
      state = m.state;
      last = m.last;
      out = m.out ++ (item_of g m.queue ∷ []);
    }

-- The merger's steps, over the logs as they are.
pub data Merging (house : House) (p : Protocol) (m : Merger) : Merger → Type 0 where
  take_part : (s : ℕ) (e : Entry) → NextRecord p m s (r_part e) → m.last s < rank_of e → m.state s < e.number
      → Merging house p m (took_part m s e)
  take_state : (s n : ℕ) → NextRecord p m s (r_state n) → m.state s ≤ n → Merging house p m (took_state m s n)
  emit : (g : Entry) → Emits house m g → Merging house p m (emitted m g)

unfoldable pub fresh_merger : Merger
fresh_merger = record { took = λ s. 0; queue = λ s. []; state = λ s. 0; last = λ s. 0; out = [] }

-- The sites, one merger, and copies, each with the number of items that it replayed.
pub record Stream : Type 0 where
  pub protocol : Protocol
  pub merger : Merger
  pub replayed : ℕ → ℕ

pub data Step (house : House) (w : Stream) : Stream → Type 0 where
  moves : (q : Protocol) → Move house w.protocol q → Step house w (record { protocol = q; merger = w.merger; replayed = w.replayed })
  merges : (m : Merger) → Merging house w.protocol w.merger m
      → Step house w (record { protocol = w.protocol; merger = m; replayed = w.replayed })
  replays : (c : ℕ) → w.replayed c < length w.merger.out
      → Step house w (record { protocol = w.protocol; merger = w.merger; replayed = upd w.replayed c (w.replayed c + 1) })

pub data Steps (house : House) : Stream → Stream → Type 0 where
  stop : {w : Stream} → Steps house w w
  more : {u v w : Stream} → Steps house u v → Step house v w → Steps house u w

unfoldable pub fresh_stream : Stream
fresh_stream = record { protocol = fresh_protocol; merger = fresh_merger; replayed = λ c. 0 }
