-- A5, F20, H5 to H20, Q1.5, Q1.8, Q5.4 and Q8.1 to Q8.6: what each call says, the twenty-one of the store and the three for C, in any
-- state and for any arguments. After `ok`: begin, transaction; commit, number; install and replay, number and coordinator; emit also
-- transaction; value, start, length and pair; read, start and length; search, start, length and how many entries it looked at; report,
-- state; page, page and rest; offset, the offset. Replay and value on bytes say what they say on words.
use Rattle.std.specs.Prelude.{ℕ, ◌≡◌, List, [], ◌∷◌, length}
use Rattle.laws.specs.Choice.{pick}
use Rattle.laws.specs.Bytes.{words_of}
use Rattle.kinds.specs.Sizes as sizes
use Rattle.kinds.specs.Reason as reason
use Rattle.kinds.specs.State.{sub_at}
use Rattle.kinds.specs.declared.Value.{Value}
use Rattle.kinds.specs.declared.Site.{Site}
use Rattle.kinds.specs.declared.Snapshot.{Snapshot}
use Rattle.kinds.specs.declared.Merger.{Merger}
use Rattle.rules.specs.House.{coordinator_of}
use Rattle.rules.specs.Record.{record_head}
use Rattle.rules.specs.Keys.{wrote_key, wrote_value}
use Rattle.rules.specs.Live.{place_of}
use Rattle.rules.specs.History.{version_of, search_in}
use Rattle.rules.specs.Queue.{least_queued, state_number}
use Rattle.rules.specs.Valid.{site_ok}
use Rattle.rules.specs.Begin.{next_tx, begin_of}
use Rattle.rules.specs.Access.{read_of, write_of, search_of}
use Rattle.rules.specs.Enlist.{enlist_of}
use Rattle.rules.specs.Commit.{commit_of, abandon_of}
use Rattle.rules.specs.Deliver.{message_of}
use Rattle.rules.specs.Install.{install_of, report_causes, report_of, start_causes, start_of}
use Rattle.rules.specs.Merger.{merger_start_causes, merger_start_of, merge_of, due_head, emit_of}
use Rattle.rules.specs.Copy.{copy_number, copy_coordinator, copy_value, copy_start_causes, copy_start_of, replay_causes, replay_of, value_causes}
use Rattle.rules.specs.Copy.{value_of}
use Rattle.rules.specs.Refusals.{begin_has, read_has, write_has, search_has, enlist_has, commit_has, abandon_has, message_has, install_has}
use Rattle.rules.specs.Refusals.{merge_has, emit_has, page_numbers, offset_numbers, pages_numbers}
use Rattle.rules.specs.Page.{page_at, rest_at, offset_at, page_causes, page_of, offset_causes, offset_of, pages_causes, pages_of}
use Rattle.rules.specs.Reader.{reader_start_causes, reader_start_of, reader_replay_causes, reader_replay_of, reader_value_causes, reader_value_of}
use Rattle.rules.specs.Reader.{record_bytes_causes, record_bytes_of}
use Rattle.said.specs.Said.{Said, ok, abort, said_of, unless_first, unless_first_in}
use Rattle.said.specs.Decided.{commit_said, message_said}

-- read: the own write, else the newest version within the snapshot
unfoldable pub read_said : Site → List ℕ → ℕ → ℕ → Said
read_said s base tx k =
    let b = sub_at s (place_of s.live tx) in
    let v = pick (wrote_key b.keys k) (wrote_value b.keys k) (version_of s.history s.counters.installs base b.snapshot k) in
    ok (v.start ∷ v.length ∷ [])

unfoldable pub search_said : Site → List ℕ → Snapshot → ℕ → Said
search_said s base p k =
    let found = search_in s.history s.counters.installs base p k in
    ok (found.value.start ∷ found.value.length ∷ found.looked ∷ [])

-- install: the pair of the queue's least
unfoldable pub install_said : Site → Said
install_said s = let b = sub_at s (least_queued s.live sizes.live) in ok (b.course.number ∷ coordinator_of b.tx ∷ [])

unfoldable pub report_said : Site → Said
report_said s = ok (state_number s.live s.counters.clock sizes.live ∷ [])

unfoldable pub emit_said : Merger → List ℕ → Said
emit_said g queues = let r = due_head g queues in ok (r.number ∷ r.coordinator ∷ r.tx ∷ [])

unfoldable pub replay_said : List ℕ → Said
replay_said m = let r = record_head m in ok (r.number ∷ r.coordinator ∷ [])

unfoldable pub value_said : List ℕ → ℕ → Said
value_said copy k = let v = copy_value copy k in ok (v.start ∷ v.length ∷ copy_number copy ∷ copy_coordinator copy ∷ [])

-- the conversions
unfoldable pub page_said : ℕ → ℕ → Said
page_said size offset = ok (page_at size offset ∷ rest_at size offset ∷ [])

unfoldable pub offset_said : ℕ → ℕ → ℕ → Said
offset_said size page rest = ok (offset_at size page rest ∷ [])

-- Each call's answer, which its contract gives by the rule cited here, says its first cause of refusal, else just that.
pub record Says : Type 0 where
  pub site_starts : (sites : ℕ) (table : List ℕ) (own base lists : ℕ)
      → said_of (start_of sites table own base lists).answer ≡ unless_first (start_causes sites table own base lists) (ok [])
  pub begins : (s : Site) (d : ℕ) → said_of (begin_of s d).answer ≡ unless_first (begin_has s d) (ok (next_tx s.counters ∷ []))
  pub enlists : (s : Site) (room tx site : ℕ) → said_of (enlist_of s room tx site).answer ≡ unless_first (enlist_has s room tx site) (ok [])
  pub reads : (s : Site) (base : List ℕ) (tx k : ℕ)
      → said_of (read_of s base tx k).answer ≡ unless_first (read_has s base tx k) (read_said s base tx k)
  pub writes : (s : Site) (tx k : ℕ) (v : Value) → said_of (write_of s tx k v).answer ≡ unless_first (write_has s tx k v) (ok [])
  pub searches : (s : Site) (base : List ℕ) (p : Snapshot) (k : ℕ)
      → said_of (search_of s base p k) ≡ unless_first (search_has s base k) (search_said s base p k)
  pub commits : (s : Site) (room : ℕ) (lists : List ℕ) (tx : ℕ)
      → said_of (commit_of s room lists tx).answer ≡ unless_first (commit_has s room lists tx) (commit_said s tx)
  pub abandons : (s : Site) (room tx : ℕ)
      → said_of (abandon_of s room tx).answer ≡ unless_first (abandon_has s room tx) (abort reason.abandoned)
  pub takes : (s : Site) (room : ℕ) (lists m : List ℕ)
      → said_of (message_of s room lists m).answer ≡ unless_first (message_has s room lists m) (message_said s lists m)
  pub installs : (s : Site) (room : ℕ) (base : List ℕ)
      → said_of (install_of s room base).answer ≡ unless_first (install_has s room base) (install_said s)
  pub reports : (s : Site) (room : ℕ) → said_of (report_of s room).answer ≡ unless_first (report_causes (site_ok s) room) (report_said s)
  pub merger_starts : (sites : ℕ) (table queues : List ℕ)
      → said_of (merger_start_of sites table queues).answer ≡ unless_first (merger_start_causes sites table (length queues)) (ok [])
  pub merges : (g : Merger) (queues m : List ℕ) → said_of (merge_of g queues m).answer ≡ unless_first (merge_has g queues m) (ok [])
  pub emits : (g : Merger) (room : ℕ) (queues : List ℕ)
      → said_of (emit_of g room queues).answer ≡ unless_first (emit_has g room queues) (emit_said g queues)
  pub copy_starts : (copy : List ℕ) → said_of (copy_start_of copy).answer ≡ unless_first (copy_start_causes copy) (ok [])
  pub replays : (copy m : List ℕ) → said_of (replay_of copy m).answer ≡ unless_first (replay_causes copy m) (replay_said m)
  pub values : (copy : List ℕ) (k : ℕ) → said_of (value_of copy k) ≡ unless_first (value_causes copy k) (value_said copy k)
  pub paged : (size offset : ℕ) → said_of (page_of size offset) ≡ unless_first_in page_numbers (page_causes size) (page_said size offset)
  pub offsets : (size page rest : ℕ)
      → said_of (offset_of size page rest) ≡ unless_first_in offset_numbers (offset_causes size page rest) (offset_said size page rest)
  pub runs : (size : ℕ) (offsets out : List ℕ)
      → said_of (pages_of size offsets out).answer ≡ unless_first_in pages_numbers (pages_causes size (length offsets) (length out)) (ok [])
  pub reader_starts : (b : List ℕ) → said_of (reader_start_of b).answer ≡ unless_first (reader_start_causes b) (ok [])
  pub reader_replays : (b m : List ℕ) → said_of (reader_replay_of b m).answer ≡ unless_first (reader_replay_causes b m) (replay_said (words_of m))
  pub reader_values : (b : List ℕ) (k : ℕ) (out : List ℕ)
      → said_of (reader_value_of b k out).answer ≡ unless_first (reader_value_causes b k (length out)) (value_said (words_of b) k)
  pub record_bytes : (m out : List ℕ) → said_of (record_bytes_of m out).answer ≡ unless_first (record_bytes_causes m (length out)) (ok [])
