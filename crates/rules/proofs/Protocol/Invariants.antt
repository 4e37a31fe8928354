-- What holds after any moves, by groups. A group's step lemma takes all groups before the move, and gives that group after it.
use Prim.Native.Nat.{ℕ, ◌^◌, ◌≤◌, ◌<◌}
use mathlib.Core.Path.{◌≡◌}
use mathlib.Core.Bool.{true, false}
use mathlib.Core.Logic.{◌⊎◌}
use mathlib.Core.List.{List, [], ◌∷◌, ◌++◌}
use lib.ListN.{length, get_or}
use Rattle.laws.specs.Pair.{rank}
use Rattle.kinds.specs.Sizes as sizes
use Rattle.kinds.specs.declared.House.{House}
use Rattle.kinds.specs.Stage as stage
use Rattle.kinds.specs.declared.Entry.{Entry}
use Rattle.kinds.specs.State.{past_entry}
use Rattle.rules.specs.House.{coordinator_of, serial_of, in_mask}
use Rattle.rules.specs.Message.{entry_tx, entry_mask, entry_mark, entry_count}
use Rattle.rules.specs.Keys.{wrote_key, dependent}
use Rattle.rules.proofs.Lists.Tables.{All}
use Rattle.rules.proofs.Protocol.ProtocolTables.{Protocol, Msg, m_join, m_joined, m_prepare, m_conc, m_cert, m_vote, m_commit, m_abort, Rec}
use Rattle.rules.proofs.Protocol.ProtocolTables.{r_part, r_state}
use Rattle.rules.proofs.Protocol.ProtocolTables.{IsJoin, inst}
use Rattle.rules.proofs.Protocol.Protocol.{AtStage, course_at, Whole, Within, Listed}

-- t's part is held at s: neither installed nor aborted there
abbrev pub Held : Protocol → ℕ → ℕ → Type 0
Held p s t = AtStage p s t stage.free → ⊥

-- the i-th install at s, from 0
abbrev pub at : Protocol → ℕ → ℕ → Entry
at p s i = get_or (inst p s) i past_entry

-- u was installed at s, as the i-th; t saw it there where i is below t's snapshot
abbrev pub InstalledAs : Protocol → ℕ → ℕ → ℕ → Type 0
InstalledAs p s u i = (i < length (inst p s)) × ((at p s i).tx ≡ u)

abbrev pub Installed : Protocol → ℕ → ℕ → Type 0
Installed p s u = (i : ℕ) × InstalledAs p s u i

abbrev pub Seen : Protocol → ℕ → ℕ → ℕ → Type 0
Seen p s t u = (i : ℕ) × InstalledAs p s u i × (i < p.snap s t)

-- r is a participant (site 0 is none)
abbrev pub In : ℕ → ℕ → Type 0
In mask r = (1 ≤ r) × (in_mask mask r ≡ true)

-- Parts: a part begins once at a site, and is held or installed, never both.
pub record Parts (house : House) (p : Protocol) : Type 0 where
  pub tx : (s t : ℕ) → Held p s t → (p.live s t).tx ≡ t
  pub has : (s t : ℕ) → Held p s t → p.has s t ≡ true
  pub snap : (s t : ℕ) → Held p s t → (p.live s t).snapshot.installs ≡ p.snap s t
  pub keys : (s t : ℕ) → Held p s t → (p.live s t).keys ≡ p.keys s t
  pub low : (s t : ℕ) → p.has s t ≡ true → p.snap s t ≤ length (inst p s)
  pub entry_has : (s i : ℕ) → i < length (inst p s) → p.has s (at p s i).tx ≡ true
  pub entry_keys : (s i : ℕ) → i < length (inst p s) → (at p s i).keys ≡ p.keys s (at p s i).tx
  pub entry_gone : (s i : ℕ) → i < length (inst p s) → AtStage p s (at p s i).tx stage.free
  pub entry_once : (s i j : ℕ) → i < length (inst p s) → j < length (inst p s) → (at p s i).tx ≡ (at p s j).tx → i ≡ j
  pub site : (s t : ℕ) → p.has s t ≡ true → (1 ≤ s) × (s ≤ house.sites)
  pub coordinator : (s t : ℕ) → p.has s t ≡ true → p.has (coordinator_of t) t ≡ true
  pub serial : (s t : ℕ) → p.has s t ≡ true → (1 ≤ serial_of t) × (serial_of t ≤ p.serial (coordinator_of t))

-- Posts: where messages come from.
abbrev pub MsgOk : House → Protocol → ℕ → ℕ → Msg → Type 0
MsgOk house p a b (m_join t d) = (coordinator_of t ≡ a) × (p.has a t ≡ true) × (b ≡ a → ⊥) × ((1 ≤ b) × (b ≤ house.sites))
    × (Held p a t → in_mask (course_at p a t).mask b ≡ true) × (p.asked t ≡ true → in_mask (p.mask t) b ≡ true)
MsgOk house p a b (m_joined t r) = (coordinator_of t ≡ b) × (a ≡ b → ⊥) × (r ≡ 0 → p.has a t ≡ true)
MsgOk house p a b (m_prepare t n m) = (coordinator_of t ≡ a) × (p.asked t ≡ true) × (m ≡ p.mask t) × (in_mask (p.mask t) b ≡ true)
    × (b ≡ a → ⊥)
MsgOk house p a b (m_conc t es) = (coordinator_of t ≡ b) × (a ≡ b → ⊥) × (p.made a t ≡ true) × (p.list a t ≡ es)
MsgOk house p a b (m_cert t es) = (coordinator_of t ≡ a) × (p.certed t ≡ true) × (p.cert t ≡ es) × (in_mask (p.mask t) b ≡ true)
    × (b ≡ a → ⊥)
MsgOk house p a b (m_vote t n r) = (coordinator_of t ≡ b) × (a ≡ b → ⊥) × (r ≡ 0 → (p.yes a t ≡ true) × (p.queue_mark a t ≡ n))
MsgOk house p a b (m_commit t n) = (coordinator_of t ≡ a) × (p.num t ≡ n) × (0 < n)
MsgOk house p a b (m_abort t) = (coordinator_of t ≡ a) × (p.dead t ≡ true)

pub record Posts (house : House) (p : Protocol) : Type 0 where
  pub ok : (a b : ℕ) → All (MsgOk house p a b) (p.post a b)
  pub count : (a b : ℕ) → p.taken a b ≤ length (p.post a b)
  pub sender : (a b : ℕ) → 0 < length (p.post a b) → ((1 ≤ a) × (a ≤ house.sites)) × ((1 ≤ b) × (b ≤ house.sites))
  pub members : (t r : ℕ) → Held p (coordinator_of t) t → In (course_at p (coordinator_of t) t).mask r → r ≤ house.sites
  pub join_once : (a b t i j : ℕ) → i < length (p.post a b) → j < length (p.post a b)
      → IsJoin t (get_or (p.post a b) i (m_abort 0)) → IsJoin t (get_or (p.post a b) j (m_abort 0)) → i ≡ j
  pub join_taken : (s t : ℕ) → p.has s t ≡ true → (s ≡ coordinator_of t → ⊥)
      → (i : ℕ) × (i < p.taken (coordinator_of t) s) × IsJoin t (get_or (p.post (coordinator_of t) s) i (m_abort 0))

-- Rounds: what the coordinator has heard.
pub record Rounds (p : Protocol) : Type 0 where
  pub small : (t : ℕ) → Held p (coordinator_of t) t
      → ((course_at p (coordinator_of t) t).mask < 2 ^ sizes.sites) × ((course_at p (coordinator_of t) t).heard < 2 ^ sizes.sites)
  pub own : (t : ℕ) → Held p (coordinator_of t) t → in_mask (course_at p (coordinator_of t) t).mask (coordinator_of t) ≡ true
  pub heard : (t r : ℕ) → Held p (coordinator_of t) t → In (course_at p (coordinator_of t) t).heard r
      → (in_mask (course_at p (coordinator_of t) t).mask r ≡ true) × (r ≡ coordinator_of t → ⊥)
  pub parts : (t r : ℕ) → Held p (coordinator_of t) t → p.has r t ≡ true → in_mask (course_at p (coordinator_of t) t).mask r ≡ true
  pub joined : (t r : ℕ) → AtStage p (coordinator_of t) t stage.active → (course_at p (coordinator_of t) t).reason ≡ 0
      → In (course_at p (coordinator_of t) t).heard r → p.has r t ≡ true
  pub unasked : (t : ℕ) → AtStage p (coordinator_of t) t stage.active → p.asked t ≡ false
  pub asked : (t : ℕ) → Held p (coordinator_of t) t → (AtStage p (coordinator_of t) t stage.active → ⊥)
      → (p.asked t ≡ true) × (p.mask t ≡ (course_at p (coordinator_of t) t).mask)
  pub never_rejected : (t : ℕ) → AtStage p (coordinator_of t) t stage.rejected → ⊥
  pub lists : (t r : ℕ) → AtStage p (coordinator_of t) t stage.prepared
      → (r ≡ coordinator_of t) ⊎ In (course_at p (coordinator_of t) t).heard r
      → (p.made r t ≡ true) × Within (p.list r t) (p.gathered t)
  pub votes : (t r : ℕ) → AtStage p (coordinator_of t) t stage.queued
      → (r ≡ coordinator_of t) ⊎ In (course_at p (coordinator_of t) t).heard r
      → (p.yes r t ≡ true) × (p.queue_mark r t ≤ p.clock (coordinator_of t))
  pub whole : (t : ℕ) → AtStage p (coordinator_of t) t stage.prepared → Whole (p.gathered t)
  pub uncerted : (t : ℕ) → AtStage p (coordinator_of t) t stage.prepared → p.certed t ≡ false
  pub undecided : (t : ℕ) → Held p (coordinator_of t) t → (AtStage p (coordinator_of t) t stage.decided → ⊥) → p.num t ≡ 0

-- Courses: how far a part has come, against the account.
pub record Courses (p : Protocol) : Type 0 where
  pub active : (s t : ℕ) → AtStage p s t stage.active → (p.made s t ≡ false) × (p.yes s t ≡ false)
  pub rejected : (s t : ℕ) → AtStage p s t stage.rejected → p.yes s t ≡ false
  pub mask : (s t : ℕ) → Held p s t → (AtStage p s t stage.active → ⊥) → (p.asked t ≡ true) × ((course_at p s t).mask ≡ p.mask t)
  pub prepared : (s t : ℕ) → AtStage p s t stage.prepared → (p.made s t ≡ true) × (p.yes s t ≡ false)
  pub queued : (s t : ℕ) → AtStage p s t stage.queued → (p.yes s t ≡ true) × ((course_at p s t).number ≡ p.queue_mark s t)
  pub decided : (s t : ℕ) → AtStage p s t stage.decided → (p.yes s t ≡ true) × ((course_at p s t).number ≡ p.num t) × (0 < p.num t)
  pub stages : (s t : ℕ) → (course_at p s t).stage ≤ stage.rejected

-- Account: one transaction over all sites.
pub record Account (p : Protocol) : Type 0 where
  pub asked_has : (t r : ℕ) → p.asked t ≡ true → In (p.mask t) r → p.has r t ≡ true
  pub has_asked : (t r : ℕ) → p.asked t ≡ true → p.has r t ≡ true → in_mask (p.mask t) r ≡ true
  pub own : (t : ℕ) → p.asked t ≡ true → in_mask (p.mask t) (coordinator_of t) ≡ true
  pub kept : (s t : ℕ) → p.has s t ≡ true → p.dead t ≡ false → Held p s t ⊎ Installed p s t
  pub made : (s t : ℕ) → p.made s t ≡ true → (p.asked t ≡ true) × (in_mask (p.mask t) s ≡ true) × Whole (p.list s t)
  pub certed : (t r : ℕ) → p.certed t ≡ true → In (p.mask t) r → (p.made r t ≡ true) × Within (p.list r t) (p.cert t)
  pub certed_asked : (t : ℕ) → p.certed t ≡ true → p.asked t ≡ true
  pub yes : (s t : ℕ) → p.yes s t ≡ true → (p.certed t ≡ true) × (in_mask (p.mask t) s ≡ true)
  pub voted : (t r : ℕ) → 0 < p.num t → In (p.mask t) r → (p.yes r t ≡ true) × (p.queue_mark r t < p.num t)
  pub num_certed : (t : ℕ) → 0 < p.num t → p.certed t ≡ true
  pub dead : (t : ℕ) → p.dead t ≡ true → (p.num t ≡ 0) × AtStage p (coordinator_of t) t stage.free × (p.has (coordinator_of t) t ≡ true)
  pub snap : (s t : ℕ) → 0 < p.snap s t → p.has s t ≡ true
  pub entry : (s i : ℕ) → i < length (inst p s)
      → ((at p s i).number ≡ p.num (at p s i).tx) × (0 < p.num (at p s i).tx) × ((at p s i).mask ≡ p.mask (at p s i).tx)
      × (p.yes s (at p s i).tx ≡ true)

-- Clocks: numbers and the clock.
abbrev pub RecLow : ℕ → Rec → Type 0
RecLow n (r_part e) = e.number ≤ n
RecLow n (r_state k) = k ≤ n

pub record Clocks (p : Protocol) : Type 0 where
  pub log : (s : ℕ) → All (RecLow (p.clock s)) (p.log s)
  pub queued : (s t : ℕ) → AtStage p s t stage.queued → (course_at p s t).number ≤ p.clock s
  pub decided : (s t : ℕ) → AtStage p s t stage.decided → (course_at p s t).number ≤ p.clock s
  pub num : (t : ℕ) → p.num t ≤ p.clock (coordinator_of t)
  pub once : (t u : ℕ) → 0 < p.num t → p.num t ≡ p.num u → coordinator_of t ≡ coordinator_of u → t ≡ u
  pub mark : (s t i : ℕ) → p.yes s t ≡ true → i < p.snap s t → (at p s i).number ≤ p.queue_mark s t

-- Order: every log ascends. An open mark is at or above all that its site's log has, a decided pair above it. A committed transaction
-- is decided at its coordinator until it is installed there.
abbrev pub RecBelow : ℕ → ℕ → Rec → Type 0
RecBelow n c (r_part e) = rank e.number (coordinator_of e.tx) < rank n c
RecBelow n c (r_state k) = k < n

-- r may stand before: below a part, by pair or number, and before a state no state above it
abbrev pub StandsBefore : Rec → Rec → Type 0
StandsBefore (r_part e) r = RecBelow e.number (coordinator_of e.tx) r
StandsBefore (r_state n) (r_part e) = Unit {0}
StandsBefore (r_state n) (r_state k) = k ≤ n

abbrev pub Ascending : List Rec → List Rec → Type 0
Ascending before [] = Unit {0}
Ascending before (r ∷ l) = All (StandsBefore r) before × Ascending (before ++ (r ∷ [])) l

pub record Order (p : Protocol) : Type 0 where
  pub queued : (s t : ℕ) → AtStage p s t stage.queued → All (RecLow (course_at p s t).number) (p.log s)
  pub decided : (s t : ℕ) → AtStage p s t stage.decided → All (RecBelow (p.num t) (coordinator_of t)) (p.log s)
  pub ascends : (s : ℕ) → Ascending [] (p.log s)
  pub held : (t : ℕ) → 0 < p.num t → AtStage p (coordinator_of t) t stage.decided ⊎ Installed p (coordinator_of t) t

-- Writers: the first writer of a key wins.
pub record Writers (p : Protocol) : Type 0 where
  pub apart : (s t u k : ℕ) → (t ≡ u → ⊥) → Held p s t → Held p s u → wrote_key (p.keys s t) k ≡ true → wrote_key (p.keys s u) k ≡ false
  pub after : (s t i k : ℕ) → Held p s t → p.snap s t ≤ i → i < length (inst p s) → wrote_key (p.keys s t) k ≡ true
      → wrote_key (p.keys s (at p s i).tx) k ≡ false
  pub seen : (s i j k : ℕ) → i < j → j < length (inst p s) → wrote_key (p.keys s (at p s i).tx) k ≡ true
      → wrote_key (p.keys s (at p s j).tx) k ≡ true → i < p.snap s (at p s j).tx

-- Lists: what a site's list covers, and what a yes says.
pub record Lists (p : Protocol) : Type 0 where
  pub cover : (t u s r : ℕ) → (t ≡ u → ⊥) → p.made s t ≡ true → p.has s u ≡ true → Seen p r t u
      → Seen p s t u ⊎ Listed (p.list s t) u (p.mask u) (dependent (p.keys s t) (p.keys s u))
  pub yes : (s t j i : ℕ) → p.yes s t ≡ true → j < entry_count (p.cert t) → in_mask (entry_mask (p.cert t) j) s ≡ true
      → InstalledAs p s (entry_tx (p.cert t) j) i → i < p.snap s t
      → (entry_mark (p.cert t) j ≡ 1 → ⊥) × (dependent (p.keys s t) (p.keys s (entry_tx (p.cert t) j)) ≡ false)

pub record Invariant (house : House) (p : Protocol) : Type 0 where
  pub parts : Parts house p
  pub posts : Posts house p
  pub rounds : Rounds p
  pub courses : Courses p
  pub account : Account p
  pub clocks : Clocks p
  pub order : Order p
  pub writers : Writers p
  pub lists : Lists p
