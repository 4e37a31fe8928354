-- The tie between the rules and the protocol: when a house's states, messages and logs are those of the protocol's tables. Each small
-- record names only the tables that it reads.
use Prim.Native.Nat.{ℕ, ◌+◌, ◌-◌, ◌*◌, ◌≤◌, ◌<◌}
use mathlib.Core.Path.{◌≡◌, ap}
use mathlib.Core.Bool.{true, false}
use mathlib.Core.List.{List, [], map}
use lib.ListN.{length, get_or, take, drop}
use Rattle.kinds.specs.Sizes as sizes
use Rattle.kinds.specs.declared.House.{House}
use Rattle.kinds.specs.Stage as stage
use Rattle.kinds.specs.Kind as kind
use Rattle.kinds.specs.Word as word
use Rattle.kinds.specs.declared.Keys.{Keys}
use Rattle.kinds.specs.declared.Sub.{Sub}
use Rattle.kinds.specs.declared.Entry.{Entry}
use Rattle.kinds.specs.declared.Channels.{Channels}
use Rattle.kinds.specs.declared.Counters.{Counters}
use Rattle.kinds.specs.declared.Site.{Site}
use Rattle.kinds.specs.declared.RecordHead.{RecordHead}
use Rattle.kinds.specs.State.{past_entry}
use Rattle.rules.specs.House.{coordinator_of}
use Rattle.rules.specs.Message.{message_words, entry_count}
use Rattle.rules.specs.Record.{record_words, record_shape}
use Rattle.rules.proofs.EntryLaws.{Marks}
use Rattle.rules.specs.Keys.{sorted_count, sorted_words}
use Rattle.rules.specs.Live.{part_at, stage_at}
use Rattle.rules.specs.History.{recall, remembered, forgotten}
use Rattle.rules.specs.Course.{head_of}
use Rattle.rules.specs.Install.{state_words}
use Rattle.rules.specs.Valid.{site_ok}
use Rattle.rules.specs.World.{World}
use Rattle.rules.proofs.Lists.Tables.{All}
use Rattle.rules.proofs.Protocol.ProtocolTables.{Protocol, Msg, m_join, m_joined, m_prepare, m_conc, m_cert, m_vote, m_commit, m_abort, Rec}
use Rattle.rules.proofs.Protocol.ProtocolTables.{r_part, r_state}
use Rattle.rules.proofs.Protocol.ProtocolTables.{parts_of}

-- The words of a message of the protocol, from a to b with channel number n.
abbrev pub kind_of : Msg → ℕ
kind_of (m_join t d) = kind.join
kind_of (m_joined t r) = kind.joined
kind_of (m_prepare t n m) = kind.prepare
kind_of (m_conc t es) = kind.conc
kind_of (m_cert t es) = kind.cert
kind_of (m_vote t n r) = kind.vote
kind_of (m_commit t n) = kind.commit
kind_of (m_abort t) = kind.abort

abbrev pub tx_in : Msg → ℕ
tx_in (m_join t d) = t
tx_in (m_joined t r) = t
tx_in (m_prepare t n m) = t
tx_in (m_conc t es) = t
tx_in (m_cert t es) = t
tx_in (m_vote t n r) = t
tx_in (m_commit t n) = t
tx_in (m_abort t) = t

abbrev pub clock_in : Msg → ℕ
clock_in (m_join t d) = 0
clock_in (m_joined t r) = 0
clock_in (m_prepare t n m) = n
clock_in (m_conc t es) = 0
clock_in (m_cert t es) = 0
clock_in (m_vote t n r) = n
clock_in (m_commit t n) = n
clock_in (m_abort t) = 0

abbrev pub argument_in : Msg → ℕ
argument_in (m_join t d) = d
argument_in (m_joined t r) = r
argument_in (m_prepare t n m) = m
argument_in (m_conc t es) = 0
argument_in (m_cert t es) = 0
argument_in (m_vote t n r) = r
argument_in (m_commit t n) = 0
argument_in (m_abort t) = 0

abbrev pub entries_in : Msg → List ℕ
entries_in (m_join t d) = []
entries_in (m_joined t r) = []
entries_in (m_prepare t n m) = []
entries_in (m_conc t es) = es
entries_in (m_cert t es) = es
entries_in (m_vote t n r) = []
entries_in (m_commit t n) = []
entries_in (m_abort t) = []

unfoldable pub encode : ℕ → ℕ → ℕ → Msg → List ℕ
encode a b n m = message_words (head_of (kind_of m) a b n (tx_in m) (clock_in m) (argument_in m) (entry_count (entries_in m))) (entries_in m)

-- a message that stands among those posted, and the number that it carries there
pub record Posted (post : ℕ → ℕ → List Msg) (ws : List ℕ) : Type 0 where
  pub from : ℕ
  pub to : ℕ
  pub place : ℕ
  pub low : place < length (post from to)
  pub words : ws ≡ encode from to (place + 1) (get_or (post from to) place (m_abort 0))

-- The words of a record of a site's log.
unfoldable pub part_head_of : ℕ → Entry → RecordHead
part_head_of own e =
    record {
      kind = kind.part;
      site = own;
      number = e.number;
      coordinator = coordinator_of e.tx;
      tx = e.tx;
      mask = e.mask;
      count = sorted_count e.keys;
    }

unfoldable pub entry_words : ℕ → Entry → List ℕ
entry_words own e = record_words (part_head_of own e) (sorted_words e.keys (sorted_count e.keys))

abbrev pub rec_words : ℕ → Rec → List ℕ
rec_words own (r_part e) = entry_words own e
rec_words own (r_state n) = state_words own n

-- words of a record: no message
abbrev pub IsRecord : List ℕ → Type 0
IsRecord ws = (record_shape ws ≡ true) × (get_or ws word.kind 0 < kind.conc)

-- One site.
pub record CountersAre (c : Counters) (own clock serial installs : ℕ) : Type 0 where
  pub own_is : c.own ≡ own
  pub clock_is : c.clock ≡ clock
  pub serial_is : c.serial ≡ serial
  pub installs_are : c.installs ≡ installs

pub record ChannelsAre (house : House) (c : Channels) (post : ℕ → List Msg) (taken : ℕ → ℕ) : Type 0 where
  pub sent_size : length c.sent ≡ sizes.sites
  pub taken_size : length c.taken ≡ sizes.sites
  pub sent_is : (r : ℕ) → 1 ≤ r → r ≤ house.sites → get_or c.sent (r - 1) 0 ≡ length (post r)
  pub taken_is : (r : ℕ) → 1 ≤ r → r ≤ house.sites → get_or c.taken (r - 1) 0 ≡ taken r

abbrev pub IsFree : Sub → Type 0
IsFree b = b.course.stage ≡ stage.free

-- arrays of their length
pub record Sized (b : Keys) : Type 0 where
  pub reads_size : length b.reads ≡ sizes.reads
  pub writes_size : length b.writes ≡ sizes.writes
  pub values_size : length b.values ≡ sizes.writes

-- each part held stands at one place, under its transaction
pub record LiveIs (live : List Sub) (row : ℕ → Sub) : Type 0 where
  pub size : length live ≡ sizes.live
  pub holds : (i : ℕ) → i < sizes.live → (IsFree (part_at live i) → ⊥) → part_at live i ≡ row (part_at live i).tx
  pub apart : (i j : ℕ) → i < sizes.live → j < sizes.live → (IsFree (part_at live i) → ⊥) → (IsFree (part_at live j) → ⊥)
      → (part_at live i).tx ≡ (part_at live j).tx → i ≡ j
  pub found : (t : ℕ) → (IsFree (row t) → ⊥) → (i : ℕ) × (i < sizes.live) × (part_at live i ≡ row t) × ((part_at live i).tx ≡ t)
  pub sized : (t : ℕ) → (IsFree (row t) → ⊥) → Sized (row t).keys

-- the last 32 installs
pub record HistoryIs (history : List Entry) (installs : List Entry) : Type 0 where
  pub size : length history ≡ sizes.history
  pub recalls : (i : ℕ) → i < remembered (length installs)
      → recall history (length installs) i ≡ get_or installs (forgotten (length installs) + i) past_entry

-- the gathered entries of the prepared part b at place i
pub record ListIs (lists : List ℕ) (i : ℕ) (b : Sub) (es : List ℕ) : Type 0 where
  pub size : length es ≡ sizes.entry * b.course.listed
  pub words : take (sizes.entry * b.course.listed) (drop (sizes.gathered * i) lists) ≡ es
  pub marks : Marks es

-- of each prepared part that the site coordinates
pub record ListsAre (own : ℕ) (live : List Sub) (lists : List ℕ) (gathered : ℕ → List ℕ) : Type 0 where
  pub size : length lists ≡ sizes.lists
  pub each : (i : ℕ) → i < sizes.live → stage_at live i ≡ stage.prepared → coordinator_of (part_at live i).tx ≡ own
      → ListIs lists i (part_at live i) (gathered (part_at live i).tx)

-- what the protocol has of one site
pub record Slice : Type 0 where
  pub clock : ℕ
  pub serial : ℕ
  pub live : ℕ → Sub
  pub gathered : ℕ → List ℕ
  pub post : ℕ → List Msg
  pub taken : ℕ → ℕ
  pub log : List Rec

abbrev pub slice_of : Protocol → ℕ → Slice
slice_of p s =
    record {
      clock = p.clock s;
      serial = p.serial s;
      live = p.live s;
      gathered = p.gathered;
      post = p.post s;
      taken = λ r. p.taken r s;
      log = p.log s;
    }

pub record SiteIs (house : House) (own : ℕ) (s : Site) (base words : List ℕ) (v : Slice) : Type 0 where
  pub house_is : s.house ≡ house
  pub counters : CountersAre s.counters own v.clock v.serial (length (parts_of v.log))
  pub channels : ChannelsAre house s.channels v.post v.taken
  pub live : LiveIs s.live v.live
  pub history : HistoryIs s.history (parts_of v.log)
  pub lists : ListsAre own s.live words v.gathered
  pub base_size : length base ≡ sizes.base

pub count_is : {o h : House} → o ≡ h → o.sites ≡ h.sites
count_is e = ap (λ (o : House). o.sites) e

-- The house: its sites, what was sent, and the logs. A site that it lacks is not valid, so it refuses every call. Records merged
-- are records.
pub record Refines (house : House) (w : World) (p : Protocol) : Type 0 where
  pub few : house.sites ≤ sizes.sites
  pub site : (s : ℕ) → 1 ≤ s → s ≤ house.sites → SiteIs house s (w.site s) (w.base s) (w.lists s) (slice_of p s)
  pub outside : (s : ℕ) → ((1 ≤ s) × (s ≤ house.sites) → ⊥) → site_ok (w.site s) ≡ false
  pub sent : All (Posted p.post) w.sent
  pub log : (s : ℕ) → w.log s ≡ map (rec_words s) (p.log s)
  pub stream : All IsRecord w.stream
