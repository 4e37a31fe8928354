-- The protocol on plain tables: what an accepted call does, as moves. Buffers, refusals and array lengths do not occur here, and words
-- only as the entries of a list. The move `passes` may drop any message. That is sound: losing one can only keep a transaction from
-- committing, and no claim promises a commit.
use Prim.Native.Nat.{ℕ, ◌+◌, ◌-◌, ◌*◌, ◌≤◌, ◌<◌, max}
use mathlib.Core.Path.{◌≡◌}
use mathlib.Core.Bool.{Bool, true, false, not}
use mathlib.Core.Logic.{◌⊎◌}
use mathlib.Core.List.{List, [], ◌∷◌, ◌++◌}
use lib.Dec.{eqb, leb}
use lib.ListN.{length, get_or}
use Rattle.laws.specs.Choice.{pick, every}
use Rattle.kinds.specs.Sizes as sizes
use Rattle.kinds.specs.declared.House.{House}
use Rattle.kinds.specs.Stage as stage
use Rattle.kinds.specs.declared.Keys.{Keys}
use Rattle.kinds.specs.declared.Course.{Course}
use Rattle.kinds.specs.declared.Sub.{Sub}
use Rattle.kinds.specs.State.{no_sub, no_keys, past_entry, with_course, with_keys}
use Rattle.kinds.specs.declared.Value.{Value}
use Rattle.rules.specs.House.{coordinator_of, home_of, tx_of, in_mask, mask_of}
use Rattle.rules.specs.Desk.{write_limit}
use Rattle.rules.specs.Message.{entry_tx, entry_mask, entry_mark, entry_count}
use Rattle.rules.specs.Keys.{wrote_key, wrote_value, read_key, dependent}
use Rattle.rules.specs.Live.{is_prepared, is_queued, all_heard}
use Rattle.rules.specs.Queue.{queued_before}
use Rattle.rules.specs.Install.{entry_of}
use Rattle.rules.specs.Course.{new_sub, with_participant, with_reply, with_decision, with_queue_mark, with_request, with_stage, is_outstanding}
use Rattle.rules.specs.World.{upd}
use Rattle.rules.specs.Book as book
use Rattle.rules.specs.Book.{Fact}
use Rattle.rules.proofs.Lists.Tables.{upd₂}
use Rattle.rules.proofs.Protocol.ProtocolTables.{Msg, Protocol, inst, set_clock, set_serial, set_live, set_gathered, set_post}
use Rattle.rules.proofs.Protocol.ProtocolTables.{set_taken, set_log, set_has, set_snap, set_keys, set_asked, set_mask, set_made}
use Rattle.rules.proofs.Protocol.ProtocolTables.{set_list, set_certed, set_cert, set_yes, set_queue_mark, set_num, set_dead, m_join}
use Rattle.rules.proofs.Protocol.ProtocolTables.{m_joined, m_prepare, m_conc, m_cert, m_vote, m_commit, m_abort, r_part, r_state}

-- Pieces of the moves.

-- a further message from a to b, and one to each other participant of a mask
abbrev pub posted : Protocol → ℕ → ℕ → Msg → Protocol
posted p a b m = set_post (upd₂ p.post a b (p.post a b ++ (m ∷ []))) p

unfoldable pub others : (ℕ → ℕ → List Msg) → ℕ → ℕ → Msg → ℕ → ℕ → List Msg
others post a mask m i j =
    pick (every (eqb i a ∷ leb 1 j ∷ in_mask mask j ∷ not (eqb j a) ∷ [])) (post i j ++ (m ∷ [])) (post i j)

abbrev pub posted_all : Protocol → ℕ → ℕ → Msg → Protocol
posted_all p a mask m = set_post (others p.post a mask m) p

-- the next message from a at b is m
pub record Next (p : Protocol) (a b : ℕ) (m : Msg) : Type 0 where
  pub some : p.taken a b < length (p.post a b)
  pub is : get_or (p.post a b) (p.taken a b) m ≡ m

abbrev pub took : Protocol → ℕ → ℕ → Protocol
took p a b = set_taken (upd₂ p.taken a b (p.taken a b + 1)) p

abbrev pub raised : Protocol → ℕ → ℕ → Protocol
raised p s n = set_clock (upd p.clock s (max (p.clock s) n)) p

abbrev pub with_live : Protocol → ℕ → ℕ → Sub → Protocol
with_live p s t b = set_live (upd₂ p.live s t b) p

abbrev pub course_at : Protocol → ℕ → ℕ → Course
course_at p s t = (p.live s t).course

abbrev pub AtStage : Protocol → ℕ → ℕ → ℕ → Type 0
AtStage p s t g = (course_at p s t).stage ≡ g

abbrev pub with_course_at : Protocol → ℕ → ℕ → Course → Protocol
with_course_at p s t c = with_live p s t (with_course (p.live s t) c)

-- entry j of a list is for u, names at least the sites of `mask`, and is marked where it should be
abbrev pub ListedAt : List ℕ → ℕ → ℕ → Bool → ℕ → Type 0
ListedAt es u mask d j = (entry_tx es j ≡ u) × ((r : ℕ) → in_mask mask r ≡ true → in_mask (entry_mask es j) r ≡ true)
    × (d ≡ true → entry_mark es j ≡ 1)

abbrev pub Listed : List ℕ → ℕ → ℕ → Bool → Type 0
Listed es u mask d = (j : ℕ) × (j < entry_count es) × ListedAt es u mask d j

-- whole entries
abbrev pub Whole : List ℕ → Type 0
Whole es = length es ≡ sizes.entry * entry_count es

-- a list of t's at s has every other prepared part there, and every install after the snapshot
pub record Covers (p : Protocol) (s t : ℕ) (es : List ℕ) : Type 0 where
  pub whole : Whole es
  pub prepared : (u : ℕ) → (u ≡ t → ⊥) → is_prepared (p.live s u) ≡ true
      → Listed es u (course_at p s u).mask (dependent (p.live s t).keys (p.live s u).keys)
  pub installed : (i : ℕ) → (p.live s t).snapshot.installs ≤ i → i < length (inst p s)
      → Listed es (get_or (inst p s) i past_entry).tx (get_or (inst p s) i past_entry).mask
      (dependent (p.live s t).keys (get_or (inst p s) i past_entry).keys)

-- a yes of t's at s on a list: an entry that names s and was installed within the snapshot is unmarked and not dependent here
abbrev pub Certified : Protocol → ℕ → ℕ → List ℕ → Type 0
Certified p s t es =
    (j i : ℕ) → j < entry_count es → in_mask (entry_mask es j) s ≡ true → i < length (inst p s) → i < (p.live s t).snapshot.installs
    → (get_or (inst p s) i past_entry).tx ≡ entry_tx es j
    → (entry_mark es j ≡ 1 → ⊥) × (dependent (p.live s t).keys (get_or (inst p s) i past_entry).keys ≡ false)

-- every entry of es is in fs, with its participants and its mark
abbrev pub Within : List ℕ → List ℕ → Type 0
Within es fs = (j : ℕ) → j < entry_count es → 0 < entry_tx es j → Listed fs (entry_tx es j) (entry_mask es j) (eqb (entry_mark es j) 1)

-- the part of t at s is not behind any other queued part there
abbrev pub LeastQueued : Protocol → ℕ → ℕ → Type 0
LeastQueued p s t = (u : ℕ) → is_queued (p.live s u) ≡ true → queued_before (p.live s u) (p.live s t) ≡ false

-- the clock, an open mark, or a decided number less 1
abbrev pub Bound : Protocol → ℕ → ℕ → Type 0
Bound p s n = (n ≡ p.clock s)
    ⊎ (((u : ℕ) × AtStage p s u stage.queued × (n ≡ (course_at p s u).number))
    ⊎ ((u : ℕ) × AtStage p s u stage.decided × (n ≡ (course_at p s u).number - 1)))

-- the state number at s: at most the clock, each open mark, and below each decided number, and one of these
pub record StateAt (p : Protocol) (s n : ℕ) : Type 0 where
  pub clock : n ≤ p.clock s
  pub marks : (u : ℕ) → AtStage p s u stage.queued → n ≤ (course_at p s u).number
  pub numbers : (u : ℕ) → AtStage p s u stage.decided → n ≤ (course_at p s u).number - 1
  pub is : Bound p s n

-- t's part begins at s, for a desk
abbrev pub began_at : Protocol → ℕ → ℕ → ℕ → ℕ → Protocol
began_at p s t d mask =
    with_live
    (set_has (upd₂ p.has s t true)
    (set_snap (upd₂ p.snap s t (length (inst p s)))
    (set_keys (upd₂ p.keys s t no_keys) p)))
    s t (new_sub t d mask (length (inst p s)))

-- What a read or a write tells the book. A read uses its key and leaves the writes; a write sets its value and leaves the others.
pub data Accessed (house : House) (s t : ℕ) (old new : Keys) : List Fact → Type 0 where
  reads : (k : ℕ) → home_of house k ≡ s → (read_key new k ≡ true) ⊎ (wrote_key new k ≡ true)
      → ((j : ℕ) → read_key old j ≡ true → read_key new j ≡ true)
      → ((j : ℕ) → (wrote_key new j ≡ wrote_key old j) × (wrote_key old j ≡ true → wrote_value new j ≡ wrote_value old j))
      → Accessed house s t old new (book.used t k ∷ [])
  writes : (k : ℕ) (v : Value) → home_of house k ≡ s → wrote_key new k ≡ true → wrote_value new k ≡ v
      → ((j : ℕ) → read_key old j ≡ true → read_key new j ≡ true)
      → ((j : ℕ) → (j ≡ k → ⊥) → (wrote_key new j ≡ wrote_key old j) × (wrote_key old j ≡ true → wrote_value new j ≡ wrote_value old j))
      → Accessed house s t old new (book.used t k ∷ book.wrote t k v ∷ [])

-- The moves. A call is some of them, one after the other.
pub data Move (house : House) (p : Protocol) : Protocol → Type 0 where
  -- begin, at site s
  begin : (s t d : ℕ) → 1 ≤ s → s ≤ house.sites → p.serial s < sizes.last_serial → t ≡ tx_of s (p.serial s + 1)
      → Move house p (began_at (set_serial (upd p.serial s (p.serial s + 1)) p) s t d (mask_of s))
  -- enlist of site r
  enlist : (s t r : ℕ) → coordinator_of t ≡ s → AtStage p s t stage.active → 1 ≤ r → r ≤ house.sites → (r ≡ s → ⊥)
      → in_mask (course_at p s t).mask r ≡ false
      → Move house p (posted (with_course_at p s t (with_participant (course_at p s t) r)) s r (m_join t (p.live s t).desk))
  -- a read or a write of an active part: what it wrote more was written by no other live part, nor installed after the snapshot, and it
  -- wrote no more than its desk allows
  access : (s t : ℕ) (b : Keys) (fs : List Fact) → AtStage p s t stage.active → Accessed house s t (p.live s t).keys b fs
      → ((k : ℕ) → wrote_key (p.live s t).keys k ≡ true → wrote_key b k ≡ true)
      → ((k : ℕ) → wrote_key b k ≡ true → wrote_key (p.live s t).keys k ≡ false
      → ((u : ℕ) → (u ≡ t → ⊥) → (AtStage p s u stage.free → ⊥) → wrote_key (p.live s u).keys k ≡ false)
      × ((i : ℕ) → (p.live s t).snapshot.installs ≤ i → i < length (inst p s) → wrote_key (get_or (inst p s) i past_entry).keys k ≡ false))
      → b.wrote ≤ write_limit (p.live s t).desk
      → Move house p (set_keys (upd₂ p.keys s t b) (with_live p s t (with_keys (p.live s t) b)))
  -- the commit request: every other participant has answered its JOIN by 0
  request : (s t : ℕ) (es : List ℕ) → coordinator_of t ≡ s → AtStage p s t stage.active
      → all_heard s (course_at p s t).heard (course_at p s t).mask ≡ true → (course_at p s t).reason ≡ 0 → Covers p s t es
      → Move house p
      (posted_all
      (with_course_at
      (set_gathered (upd p.gathered t es)
      (set_asked (upd p.asked t true)
      (set_mask (upd p.mask t (course_at p s t).mask)
      (set_made (upd₂ p.made s t true) (set_list (upd₂ p.list s t es) p)))))
      s t (with_request (course_at p s t) (entry_count es)))
      s (course_at p s t).mask (m_prepare t (p.clock s) (course_at p s t).mask))
  -- an abort by the coordinator, before the decision
  abort : (s t : ℕ) → coordinator_of t ≡ s → (AtStage p s t stage.free → ⊥) → (AtStage p s t stage.decided → ⊥)
      → Move house p (posted_all (with_live (set_dead (upd p.dead t true) p) s t no_sub) s (course_at p s t).mask (m_abort t))
  -- all lists are gathered: the coordinator votes yes on their join
  cast : (s t : ℕ) (es : List ℕ) → coordinator_of t ≡ s → AtStage p s t stage.prepared
      → all_heard s (course_at p s t).heard (course_at p s t).mask ≡ true → Within (p.gathered t) es → Certified p s t es
      → Move house p
      (posted_all
      (with_course_at
      (set_certed (upd p.certed t true)
      (set_cert (upd p.cert t es)
      (set_yes (upd₂ p.yes s t true) (set_queue_mark (upd₂ p.queue_mark s t (p.clock s)) p))))
      s t (with_queue_mark (course_at p s t) (p.clock s)))
      s (course_at p s t).mask (m_cert t es))
  -- all have voted yes: the clock plus 1 is the commit number
  decide : (s t : ℕ) → coordinator_of t ≡ s → AtStage p s t stage.queued
      → all_heard s (course_at p s t).heard (course_at p s t).mask ≡ true
      → Move house p
      (posted_all
      (with_course_at
      (set_num (upd p.num t (p.clock s + 1)) (set_clock (upd p.clock s (p.clock s + 1)) p))
      s t (with_decision (course_at p s t) (p.clock s + 1)))
      s (course_at p s t).mask (m_commit t (p.clock s + 1)))
  -- install of the queue's least
  install : (s t : ℕ) → AtStage p s t stage.decided → LeastQueued p s t
      → Move house p (with_live (set_log (upd p.log s (p.log s ++ (r_part (entry_of (p.live s t)) ∷ []))) p) s t no_sub)
  -- report
  report : (s n : ℕ) → StateAt p s n → Move house p (set_log (upd p.log s (p.log s ++ (r_state n ∷ []))) p)
  -- A message from a taken at s.
  joins : (a s t d : ℕ) → Next p a s (m_join t d) → AtStage p s t stage.free
      → Move house p (posted (began_at (took p a s) s t d 0) s a (m_joined t 0))
  full : (a s t d r : ℕ) → Next p a s (m_join t d) → (r ≡ 0 → ⊥) → Move house p (posted (took p a s) s a (m_joined t r))
  joined : (a s t r : ℕ) → Next p a s (m_joined t r) → AtStage p s t stage.active → is_outstanding (course_at p s t) a ≡ true
      → Move house p (with_course_at (took p a s) s t (with_reply (course_at p s t) a r 0))
  prepared : (a s t n mask : ℕ) (es : List ℕ) → Next p a s (m_prepare t n mask) → AtStage p s t stage.active → Covers p s t es
      → Move house p
      (posted
      (with_course_at
      (set_made (upd₂ p.made s t true) (set_list (upd₂ p.list s t es) (raised (took p a s) s n)))
      s t (with_stage (course_at p s t) mask stage.prepared))
      s a (m_conc t es))
  lost : (a s t n mask r : ℕ) → Next p a s (m_prepare t n mask) → AtStage p s t stage.active → (r ≡ 0 → ⊥)
      → Move house p
      (posted (with_course_at (raised (took p a s) s n) s t (with_stage (course_at p s t) mask stage.rejected)) s a
      (m_vote t (max (p.clock s) n) r))
  unknown : (a s t n mask r : ℕ) → Next p a s (m_prepare t n mask) → AtStage p s t stage.free → (r ≡ 0 → ⊥)
      → Move house p (posted (raised (took p a s) s n) s a (m_vote t (max (p.clock s) n) r))
  gathers : (a s t : ℕ) (es : List ℕ) → Next p a s (m_conc t es) → AtStage p s t stage.prepared → is_outstanding (course_at p s t) a ≡ true
      → Move house p
      (with_course_at (set_gathered (upd p.gathered t (p.gathered t ++ es)) (took p a s)) s t
      (with_reply (course_at p s t) a 0 (entry_count es)))
  certified : (a s t : ℕ) (es : List ℕ) → Next p a s (m_cert t es) → AtStage p s t stage.prepared → Certified p s t es
      → Move house p
      (posted
      (with_course_at
      (set_yes (upd₂ p.yes s t true) (set_queue_mark (upd₂ p.queue_mark s t (p.clock s)) (took p a s)))
      s t (with_queue_mark (course_at p s t) (p.clock s)))
      s a (m_vote t (p.clock s) 0))
  rejects : (a s t r : ℕ) (es : List ℕ) → Next p a s (m_cert t es) → AtStage p s t stage.prepared → (r ≡ 0 → ⊥)
      → Move house p
      (posted (with_course_at (took p a s) s t (with_stage (course_at p s t) (course_at p s t).mask stage.rejected)) s a
      (m_vote t (p.clock s) r))
  votes : (a s t n : ℕ) → Next p a s (m_vote t n 0) → AtStage p s t stage.queued → is_outstanding (course_at p s t) a ≡ true
      → Move house p (with_course_at (raised (took p a s) s n) s t (with_reply (course_at p s t) a 0 0))
  commits : (a s t n : ℕ) → Next p a s (m_commit t n) → AtStage p s t stage.queued
      → Move house p (with_course_at (raised (took p a s) s n) s t (with_decision (course_at p s t) n))
  aborts : (a s t : ℕ) → Next p a s (m_abort t) → (AtStage p s t stage.decided → ⊥) → Move house p (with_live (took p a s) s t no_sub)
  -- any message, with nothing but the count and at most the clock: for a transaction not held, or before an abort that it brings
  passes : (a s n : ℕ) (m : Msg) → Next p a s m → Move house p (raised (took p a s) s n)

pub data Moves (house : House) : Protocol → Protocol → Type 0 where
  stop : {p : Protocol} → Moves house p p
  more : {p q r : Protocol} → Moves house p q → Move house q r → Moves house p r

unfoldable pub fresh_protocol : Protocol
fresh_protocol =
    record {
      clock = λ s. 0;
      serial = λ s. 0;
      live = λ s t. no_sub;
      gathered = λ t. [];
      post = λ a b. [];
      taken = λ a b. 0;
      log = λ s. [];
      has = λ s t. false;
      snap = λ s t. 0;
      keys = λ s t. no_keys;
      asked = λ t. false;
      mask = λ t. 0;
      made = λ s t. false;
      list = λ s t. [];
      certed = λ t. false;
      cert = λ t. [];
      yes = λ s t. false;
      queue_mark = λ s t. 0;
      num = λ t. 0;
      dead = λ t. false;
    }
