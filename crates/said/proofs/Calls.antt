-- Each call says what is defined for it: its first cause of refusal, and what it answers otherwise.
use Prim.Native.Nat.{ℕ, ◌-◌}
use mathlib.Core.Path.{refl}
use mathlib.Core.List.{List, [], ◌∷◌}
use lib.ListN.{length}
use lib.Dec.{eqb}
use Rattle.laws.specs.Choice.{by_test, set_not}
use Rattle.laws.specs.Bytes.{words_of}
use Rattle.kinds.specs.Sizes as sizes
use Rattle.kinds.specs.Kind as kind
use Rattle.kinds.specs.Reason as reason
use Rattle.kinds.specs.State.{sub_at}
use Rattle.kinds.specs.declared.Value.{Value}
use Rattle.kinds.specs.declared.Site.{Site}
use Rattle.kinds.specs.declared.Snapshot.{Snapshot}
use Rattle.kinds.specs.declared.Merger.{Merger}
use Rattle.rules.specs.Record.{record_head}
use Rattle.rules.specs.House.{is_site, in_mask}
use Rattle.rules.specs.Desk.{is_desk}
use Rattle.rules.specs.Send.{counts_low}
use Rattle.rules.specs.Keys.{wrote_key, read_key}
use Rattle.rules.specs.History.{is_forgotten}
use Rattle.rules.proofs.SearchLaws.{search_same}
use Rattle.rules.specs.Queue.{least_queued, is_installable}
use Rattle.rules.specs.Valid.{site_ok}
use Rattle.rules.specs.Live.{place_of, free_place, stage_at}
use Rattle.rules.specs.Course.{channel_spent, send_to, send_all, quietly, enlist_step, abort_step}
use Rattle.rules.specs.Begin.{begin_code, next_tx, begun, begin_of}
use Rattle.rules.specs.Access.{key_code, access_code, read_code, late_code, read_version, read_at, read_of, written, write_at, write_of, search_of}
use Rattle.rules.specs.Enlist.{is_mine, enlist_code, joiner_code, enlist_at, enlist_of}
use Rattle.rules.specs.Commit.{request_code, abandon_code, abandon_of}
use Rattle.rules.specs.Install.{install_code, report_code, installed_at, install_of, report_of, start_code, start_of}
use Rattle.rules.specs.Merger.{source_at, heads_of, least_site, merge_code, merge_part_code, merge_state_code, emit_code, due_code, merger_start_code}
use Rattle.rules.specs.Merger.{merger_start_of, merge_part, merge_state, merge_of, emit_due, emit_of}
use Rattle.rules.specs.Copy.{copy_start_of, replay_code, replay_of, value_code, value_of}
use Rattle.rules.specs.Page.{page_code, page_of, offset_code, offset_of, pages_code, pages_of}
use Rattle.rules.proofs.Refusals.FirstCause.{begin_by, read_by, write_by, enlist_by, commit_by, abandon_by, install_by, report_by}
use Rattle.rules.proofs.Refusals.FirstCause.{message_by, search_by}
use Rattle.rules.proofs.Refusals.FirstCause.{merge_by, emit_by, replay_by, value_by}
use Rattle.rules.proofs.Refusals.Beside.{start_by, merger_start_by, copy_start_by, page_by, offset_by, pages_by, reader_start_by}
use Rattle.rules.proofs.Refusals.Beside.{reader_replay_by, reader_value_by, record_bytes_by}
use Rattle.rules.specs.Reader.{InBytes, unless_refused, reader_start_code, reader_start_of, reader_replay_code, reader_replay_of, reader_value_code}
use Rattle.rules.specs.Reader.{reader_value_of, record_bytes_code, record_bytes_of}
use Rattle.said.specs.Said.{Said, ok, abort, said_of}
use Rattle.said.specs.Outcomes.{read_said, search_said, install_said, report_said, emit_said, replay_said, value_said, page_said, offset_said}
use Rattle.said.specs.Outcomes.{Says}
use Rattle.said.proofs.Taken.{Taken, says, says_in, Takes, past, MergerTakes, past_merger}
use Rattle.said.proofs.Decisions.{commit_taken, message_taken}

-- A site.
start_taken : (sites : ℕ) (table : List ℕ) (own base lists : ℕ) → Taken (start_of sites table own base lists).answer (ok [])
unfolding said_of start_of
start_taken sites table own base lists =
    by_test (eqb (start_code sites table own base lists) 0) (λ e. rw e (λ f. refl)) (λ e. rw e (λ f. absurd (set_not _ refl f)))

begin_taken : (s : Site) (d : ℕ) → Takes (begin_of s d) (ok (next_tx s.counters ∷ []))
unfolding said_of begin_of begun
begin_taken s d = past (begin_code (site_ok s) (is_desk d) s.counters (free_place s.live)) s [] _ _ (record { said = λ r. refl })

enlist_taken : (s : Site) (room tx site : ℕ) → Takes (enlist_of s room tx site) (ok [])
unfolding said_of enlist_of enlist_at enlist_step send_to
enlist_taken s room tx site =
    let place = place_of s.live tx in
    let c = (sub_at s place).course in
    past (enlist_code (site_ok s) room (is_site s.house site) place (is_mine s tx)) s [] _ _
    (past (joiner_code c.stage (eqb site s.counters.own) (in_mask c.mask site) (channel_spent s.channels site)) s [] _ _
    (record { said = λ r. refl }))

-- reads and writes have their first causes in common
abbrev access_no : Site → ℕ → ℕ → ℕ → ℕ
access_no s room tx k =
    let place = place_of s.live tx in
    access_code (site_ok s) room s.house s.counters.own k place (stage_at s.live place)

read_taken : (s : Site) (base : List ℕ) (tx k : ℕ) → Takes (read_of s base tx k) (read_said s base tx k)
unfolding said_of read_of read_at read_version read_said
read_taken s base tx k =
    let b = sub_at s (place_of s.live tx) in
    let late = read_code (is_forgotten s.counters.installs b.snapshot) (read_key b.keys k) b.keys.read in
    by_test (wrote_key b.keys k)
    (λ w. rw w (past (access_no s (length base) tx k) s [] _ _ (record { said = λ r. refl })))
    (λ w. rw (w, ← search_same s.history s.counters.installs base b.snapshot k)
    (past (access_no s (length base) tx k) s [] _ _ (past late s [] _ _ (record { said = λ r. refl }))))

search_taken : (s : Site) (base : List ℕ) (p : Snapshot) (k : ℕ) → Taken (search_of s base p k) (search_said s base p k)
unfolding said_of search_of search_said
search_taken s base p k =
    by_test (eqb (key_code (site_ok s) (length base) s.house s.counters.own k) 0)
    (λ e. rw e (λ f. refl))
    (λ e. rw e (λ f. absurd (set_not _ refl f)))

write_taken : (s : Site) (tx k : ℕ) (v : Value) → Takes (write_of s tx k v) (ok [])
unfolding said_of write_of write_at written quietly
write_taken s tx k v =
    past (access_no s sizes.base tx k) s [] _ _ (past (late_code s (place_of s.live tx) k v) s [] _ _ (record { said = λ r. refl }))

abandon_taken : (s : Site) (room tx : ℕ) → Takes (abandon_of s room tx) (abort reason.abandoned)
unfolding said_of abandon_of abort_step send_all
abandon_taken s room tx =
    let place = place_of s.live tx in
    let c = (sub_at s place).course in
    past (request_code (site_ok s) room place (is_mine s tx)) s [] _ _
    (past (abandon_code c.stage (counts_low s.channels.sent c.mask s.counters.own)) s [] _ _ (record { said = λ r. refl }))

install_taken : (s : Site) (room : ℕ) (base : List ℕ) → Takes (install_of s room base) (install_said s)
unfolding said_of install_of installed_at install_said
install_taken s room base =
    let place = least_queued s.live sizes.live in
    past (install_code (site_ok s) room (length base) (is_installable s.live place) s.counters.installs) s base _ _
    (record { said = λ r. refl })

report_taken : (s : Site) (room : ℕ) → Takes (report_of s room) (report_said s)
unfolding said_of report_of report_said
report_taken s room = past (report_code (site_ok s) room) s [] _ _ (record { said = λ r. refl })

-- The merger.
merger_start_taken : (sites : ℕ) (table queues : List ℕ) → Taken (merger_start_of sites table queues).answer (ok [])
unfolding said_of merger_start_of
merger_start_taken sites table queues =
    by_test (eqb (merger_start_code sites table (length queues)) 0) (λ e. rw e (λ f. refl)) (λ e. rw e (λ f. absurd (set_not _ refl f)))

merge_taken : (g : Merger) (queues m : List ℕ) → MergerTakes (merge_of g queues m) (ok [])
unfolding said_of merge_of merge_part merge_state
merge_taken g queues m =
    let r = record_head m in
    let c = source_at g (r.site - 1) in
    by_test (eqb r.kind kind.part)
    (λ p. rw p (past_merger (merge_code g queues m) g queues _ _
    (past_merger (merge_part_code c r) g queues _ _ (record { said = λ r. refl }))))
    (λ p. rw p (past_merger (merge_code g queues m) g queues _ _
    (past_merger (merge_state_code c r) g queues _ _ (record { said = λ r. refl }))))

emit_taken : (g : Merger) (room : ℕ) (queues : List ℕ) → MergerTakes (emit_of g room queues) (emit_said g queues)
unfolding said_of emit_of emit_due emit_said
emit_taken g room queues =
    past_merger (emit_code g queues room) g queues _ _
    (past_merger (due_code g (heads_of queues g.house.sites) (least_site g queues)) g queues _ _ (record { said = λ r. refl }))

-- A copy.
copy_start_taken : (copy : List ℕ) → Taken (copy_start_of copy).answer (ok [])
unfolding said_of copy_start_of
copy_start_taken copy = by_test (eqb (length copy) sizes.copy) (λ e. rw e (λ f. refl)) (λ e. rw e (λ f. absurd (set_not _ refl f)))

replay_taken : (copy m : List ℕ) → Taken (replay_of copy m).answer (replay_said m)
unfolding said_of replay_of replay_said
replay_taken copy m = by_test (eqb (replay_code copy m) 0) (λ e. rw e (λ f. refl)) (λ e. rw e (λ f. absurd (set_not _ refl f)))

value_taken : (copy : List ℕ) (k : ℕ) → Taken (value_of copy k) (value_said copy k)
unfolding said_of value_of value_said
value_taken copy k = by_test (eqb (value_code copy k) 0) (λ e. rw e (λ f. refl)) (λ e. rw e (λ f. absurd (set_not _ refl f)))

-- The conversions.
page_taken : (l offset : ℕ) → Taken (page_of l offset) (page_said l offset)
unfolding said_of page_of page_said
page_taken l offset = by_test (eqb (page_code l) 0) (λ e. rw e (λ f. refl)) (λ e. rw e (λ f. absurd (set_not _ refl f)))

offset_taken : (l page rest : ℕ) → Taken (offset_of l page rest) (offset_said l page rest)
unfolding said_of offset_of offset_said
offset_taken l page rest =
    by_test (eqb (offset_code l page rest) 0) (λ e. rw e (λ f. refl)) (λ e. rw e (λ f. absurd (set_not _ refl f)))

pages_taken : (l : ℕ) (offsets out : List ℕ) → Taken (pages_of l offsets out).answer (ok [])
unfolding said_of pages_of
pages_taken l offsets out =
    by_test (eqb (pages_code l (length offsets) (length out)) 0) (λ e. rw e (λ f. refl)) (λ e. rw e (λ f. absurd (set_not _ refl f)))

-- The calls on bytes.
bytes_taken : (code : ℕ) (b : List ℕ) (e : InBytes) (o : Said) → Taken e.answer o → Taken (unless_refused code b e).answer o
bytes_taken code b e o f = by_test (eqb code 0) (λ t. rw t f) (λ t. rw t (λ r. absurd (set_not _ refl r)))

reader_start_taken : (b : List ℕ) → Taken (reader_start_of b).answer (ok [])
unfolding reader_start_of
reader_start_taken b = bytes_taken (reader_start_code b) b _ _ (copy_start_taken (words_of b))

reader_replay_taken : (b m : List ℕ) → Taken (reader_replay_of b m).answer (replay_said (words_of m))
unfolding reader_replay_of
reader_replay_taken b m = bytes_taken (reader_replay_code b m) b _ _ (replay_taken (words_of b) (words_of m))

reader_value_taken : (b : List ℕ) (k : ℕ) (out : List ℕ) → Taken (reader_value_of b k out).answer (value_said (words_of b) k)
unfolding reader_value_of
reader_value_taken b k out = bytes_taken (reader_value_code b k (length out)) out _ _ (value_taken (words_of b) k)

record_bytes_taken : (m out : List ℕ) → Taken (record_bytes_of m out).answer (ok [])
unfolding said_of record_bytes_of
record_bytes_taken m out = bytes_taken (record_bytes_code m (length out)) out _ _ (λ r. refl)

pub calls_say : Says
calls_say =
    record {
      site_starts = λ n t o b l. says _ _ _ (start_by n t o b l) (start_taken n t o b l);
      begins = λ s d. says _ _ _ (begin_by s d) (begin_taken s d).said;
      enlists = λ s r t n. says _ _ _ (enlist_by s r t n) (enlist_taken s r t n).said;
      reads = λ s b t k. says _ _ _ (read_by s b t k) (read_taken s b t k).said;
      searches = λ s b p k. says _ _ _ (search_by s b p k) (search_taken s b p k);
      writes = λ s t k v. says _ _ _ (write_by s t k v) (write_taken s t k v).said;
      commits = λ s r l t. says _ _ _ (commit_by s r l t) (commit_taken s r l t).said;
      abandons = λ s r t. says _ _ _ (abandon_by s r t) (abandon_taken s r t).said;
      takes = λ s r l m. says _ _ _ (message_by s r l m) (message_taken s r l m).said;
      installs = λ s r b. says _ _ _ (install_by s r b) (install_taken s r b).said;
      reports = λ s r. says _ _ _ (report_by s r) (report_taken s r).said;
      merger_starts = λ n t q. says _ _ _ (merger_start_by n t q) (merger_start_taken n t q);
      merges = λ g q m. says _ _ _ (merge_by g q m) (merge_taken g q m).said;
      emits = λ g r q. says _ _ _ (emit_by g r q) (emit_taken g r q).said;
      copy_starts = λ c. says _ _ _ (copy_start_by c) (copy_start_taken c);
      replays = λ c m. says _ _ _ (replay_by c m) (replay_taken c m);
      values = λ c k. says _ _ _ (value_by c k) (value_taken c k);
      paged = λ l o. says_in _ _ _ _ (page_by l o) (page_taken l o);
      offsets = λ l p r. says_in _ _ _ _ (offset_by l p r) (offset_taken l p r);
      runs = λ l os out. says_in _ _ _ _ (pages_by l os out) (pages_taken l os out);
      reader_starts = λ b. says _ _ _ (reader_start_by b) (reader_start_taken b);
      reader_replays = λ b m. says _ _ _ (reader_replay_by b m) (reader_replay_taken b m);
      reader_values = λ b k out. says _ _ _ (reader_value_by b k out) (reader_value_taken b k out);
      record_bytes = λ m out. says _ _ _ (record_bytes_by m out) (record_bytes_taken m out);
    }
