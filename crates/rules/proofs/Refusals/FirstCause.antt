-- Why the first cause is returned: each call looks at its causes list by list, and one behind the other they stand in the table's order.
use Prim.Native.Nat.{ℕ, ◌-◌}
use mathlib.Core.Path.{◌≡◌, refl}
use mathlib.Core.Bool.{Bool, true, false}
use mathlib.Core.List.{List, [], ◌∷◌, ◌++◌}
use borrow.Author.Tests.{ne_eqb}
use lib.Dec.{eqb, ltb, leb}
use lib.ListN.{length, get_or}
use Rattle.laws.specs.Choice.{pick_self, every, by_test}
use Rattle.kinds.specs.Sizes as sizes
use Rattle.kinds.specs.Reason as reason
use Rattle.kinds.specs.Kind as kind
use Rattle.kinds.specs.declared.Answer.TheVariants.{Done, Searched, Emitted, Replayed, Standing}
use Rattle.kinds.specs.declared.MessageHead.{MessageHead}
use Rattle.kinds.specs.declared.Merger.{Merger}
use Rattle.kinds.specs.declared.Site.{Site}
use Rattle.kinds.specs.declared.Snapshot.{Snapshot}
use Rattle.kinds.specs.State.{sub_at}
use Rattle.kinds.specs.declared.Value.{Value}
use Rattle.rules.specs.House.{is_site, in_mask}
use Rattle.rules.specs.Desk.{write_limit}
use Rattle.rules.specs.Record.{record_head}
use Rattle.rules.specs.Message.{message_ok, message_head, message_entries}
use Rattle.rules.specs.Send.{counts_low}
use Rattle.rules.specs.Keys.{wrote_key, read_key}
use Rattle.rules.specs.History.{is_forgotten, is_newer, search_in}
use Rattle.rules.specs.Valid.{site_ok, handed_ok}
use Rattle.rules.specs.Live.{place_of, free_place, key_held, all_heard}
use Rattle.rules.specs.Certify.{concurrent}
use Rattle.rules.proofs.CertifyLaws.{concurrent_whole}
use Rattle.rules.specs.Effect.{Effect, Change, turn_at, changed, unless}
use Rattle.rules.specs.Course.{with_reply, send_to, quietly, raise, channel_spent, enlist_step, abort_step}
use Rattle.rules.specs.Begin.{begin_code, begin_of, begun}
use Rattle.rules.specs.Access.{read_causes, long_causes, write_causes, key_code, access_code, read_code, long_code, write_code, write_code_at}
use Rattle.rules.specs.Access.{late_code, read_at, read_version, read_of, write_at, written, write_of, search_of}
use Rattle.rules.specs.Enlist.{is_mine, enlist_causes, joiner_causes, enlist_code, joiner_code, enlist_at, enlist_of}
use Rattle.rules.specs.Commit.{request_causes, commit_causes, abandon_causes, commit_change, request_code, commit_code, abandon_code}
use Rattle.rules.specs.Commit.{commit_lists, commit_of, abandon_of}
use Rattle.rules.specs.Deliver.{arrival_causes, next_causes, reply_causes, spent_to, spent_to_all, conc_in_turn, gather_change, arrival_code}
use Rattle.rules.specs.Deliver.{next_code, reply_code, arrived, step_unless, keeping, passed, spoken, join_at, take_join, take_joined}
use Rattle.rules.specs.Deliver.{take_prepare, pass_prepare, take_conc, gather_lists, take_cert, take_vote, take_commit, take_abort, take_held}
use Rattle.rules.specs.Deliver.{take_other, take_kind, message_at, message_of}
use Rattle.rules.specs.Install.{report_causes, install_code, installed_at, install_of, report_code, report_of}
use Rattle.rules.specs.Merger.{source_at, heads_of, head_in, least_site, merge_causes, merge_part_causes, merge_state_causes, emit_causes}
use Rattle.rules.specs.Merger.{due_causes, merge_part_code, merge_part, merge_state_code, merge_state, merge_code}
use Rattle.rules.specs.Merger.{merge_of, due_code, emit_due, emit_code, emit_of}
use Rattle.rules.specs.Copy.{copy_value, copy_number, copy_coordinator, replay_code, replay_causes, replay_of, value_code, value_causes}
use Rattle.rules.specs.Copy.{value_of}
use Rattle.rules.specs.Answers.{is_refused}
use Rattle.rules.specs.World as world
use Rattle.rules.specs.World.{World, Call, step, site_step, log_step, merger_step, merge_step, copy_step, replay_step}
use Rattle.rules.specs.Refusals.{order, begin_has, access_has, read_has, write_has, search_has, enlist_has, commit_has, abandon_has}
use Rattle.rules.specs.Refusals.{held_in_turn, is_in_turn, held_spent, is_spent, message_has, install_has, merge_has, emit_has, causes_of}
use Rattle.rules.specs.Refusals.{ByFirst, FirstCause}
use Rattle.rules.proofs.Messages.Spoken.{Speaks, enlist_speaks, abort_speaks, quietly_speaks, prepared_speaks, certified_speaks}
use Rattle.rules.proofs.Messages.Spoken.{vote_speaks}
use Rattle.rules.proofs.Messages.Spoken.{vote_known}
use Rattle.rules.proofs.Messages.KnownWords.{commit_speaks}
use Rattle.rules.proofs.Messages.GoesOn.{gather_speaks}
use Rattle.rules.proofs.Refusals.By.{By, by_first, accepted, unless_by, merger_by, alone_by, only_by}
use Rattle.rules.proofs.Refusals.Beside.{start_by, merger_start_by, copy_start_by, page_by, offset_by, pages_by, reader_start_by}
use Rattle.rules.proofs.Refusals.Beside.{reader_replay_by, reader_value_by, record_bytes_by}

-- Begin, read, write, search, enlist.
pub begin_by : (s : Site) (d : ℕ) → ByFirst (begin_of s d).answer (begin_has s d)
unfolding begin_of begin_code begun begin_has order
begin_by s d = by_first _ (begin_has s d) refl (only_by (begin_has s d) s [] _ refl)

pub read_by : (s : Site) (base : List ℕ) (tx k : ℕ) → ByFirst (read_of s base tx k).answer (read_has s base tx k)
unfolding read_of access_code read_at read_version read_code read_has access_has order
read_by s base tx k =
    let place = place_of s.live tx in
    let b = sub_at s place in
    let more = read_causes (is_forgotten s.counters.installs b.snapshot) (read_key b.keys k) b.keys.read in
    by_test (wrote_key b.keys k)
    (λ t. rw t (by_first _ (access_has s (length base) tx k ++ []) refl
    (unless_by (access_has s (length base) tx k) [] s [] _ refl (accepted _ [] refl refl))))
    (λ t. rw t (by_first _ (access_has s (length base) tx k ++ more) refl
    (unless_by (access_has s (length base) tx k) more s [] _ refl (only_by more s [] (read_version s base place k) refl))))

pub write_by : (s : Site) (tx k : ℕ) (v : Value) → ByFirst (write_of s tx k v).answer (write_has s tx k v)
unfolding write_of access_code write_at written quietly late_code long_code write_code_at write_code write_has access_has order
write_by s tx k v =
    let place = place_of s.live tx in
    let b = sub_at s place in
    let n = s.counters.installs in
    let more = write_causes (is_forgotten n b.snapshot) (key_held s.live place k) (is_newer s.history n b.snapshot k)
    (write_limit b.desk) b.keys.wrote v in
    by_test (wrote_key b.keys k)
    (λ t. rw t (by_first _ (access_has s sizes.base tx k ++ long_causes v) refl
    (unless_by (access_has s sizes.base tx k) (long_causes v) s [] _ refl (only_by (long_causes v) s [] (written s place k v) refl))))
    (λ t. rw t (by_first _ (access_has s sizes.base tx k ++ more) refl
    (unless_by (access_has s sizes.base tx k) more s [] _ refl (only_by more s [] (written s place k v) refl))))

pub search_by : (s : Site) (base : List ℕ) (p : Snapshot) (k : ℕ) → ByFirst (search_of s base p k) (search_has s base k)
unfolding search_of key_code search_has order
search_by s base p k =
    let found = search_in s.history s.counters.installs base p k in
    by_first _ (search_has s base k) refl
    (alone_by (search_has s base k) (Searched found.value found.looked) _ refl (λ z. rw z) (λ n. rw (ne_eqb _ 0 n)))

pub enlist_by : (s : Site) (room tx site : ℕ) → ByFirst (enlist_of s room tx site).answer (enlist_has s room tx site)
unfolding enlist_of enlist_code enlist_at joiner_code enlist_has order
enlist_by s room tx site =
    let place = place_of s.live tx in
    let c = (sub_at s place).course in
    let first = enlist_causes (site_ok s) room (is_site s.house site) place (is_mine s tx) in
    let more = joiner_causes c.stage (eqb site s.counters.own) (in_mask c.mask site) (channel_spent s.channels site) in
    by_first _ (first ++ more) refl
    (unless_by first more s [] _ refl
    (only_by more s [] (changed s place (enlist_step (turn_at s place) site) []) (enlist_speaks (turn_at s place) site).accepts))

-- Commit and abandon.
pub commit_by : (s : Site) (room : ℕ) (lists : List ℕ) (tx : ℕ) → ByFirst (commit_of s room lists tx).answer (commit_has s room lists tx)
unfolding commit_of request_code commit_code commit_has order
commit_by s room lists tx =
    let place = place_of s.live tx in
    let c = (sub_at s place).course in
    let own = s.counters.own in
    let first = request_causes (handed_ok s lists) room place (is_mine s tx) in
    let more = commit_causes c.stage (all_heard own c.heard c.mask) (counts_low s.channels.sent c.mask own) in
    by_first _ (first ++ more) refl
    (unless_by first more s lists _ refl
    (only_by more s lists (changed s place (commit_change s place) (commit_lists s lists place)) (commit_speaks s place).accepts))

pub abandon_by : (s : Site) (room tx : ℕ) → ByFirst (abandon_of s room tx).answer (abandon_has s room tx)
unfolding abandon_of request_code abandon_code abandon_has order
abandon_by s room tx =
    let place = place_of s.live tx in
    let c = (sub_at s place).course in
    let first = request_causes (site_ok s) room place (is_mine s tx) in
    let more = abandon_causes c.stage (counts_low s.channels.sent c.mask s.counters.own) in
    by_first _ (first ++ more) refl
    (unless_by first more s [] _ refl
    (only_by more s [] (changed s place (abort_step (turn_at s place) reason.abandoned) [])
    (abort_speaks (turn_at s place) reason.abandoned).accepts))

-- Install and report.
pub install_by : (s : Site) (room : ℕ) (base : List ℕ) → ByFirst (install_of s room base).answer (install_has s room base)
unfolding install_of install_code installed_at install_has order
install_by s room base = by_first _ (install_has s room base) refl (only_by (install_has s room base) s base _ refl)

pub report_by : (s : Site) (room : ℕ) → ByFirst (report_of s room).answer (report_causes (site_ok s) room)
unfolding report_of report_code order
report_by s room = by_first _ (report_causes (site_ok s) room) refl (only_by (report_causes (site_ok s) room) s [] _ refl)

-- A message, by its kind: each handler looks at its turn and at its channels.
module _ (s : Site) (h : MessageHead) (lists : List ℕ) where
  reply_by : (turn spent : Bool) (lent : List ℕ) (e : Effect) → is_refused e.answer ≡ false
      → By (unless (reply_code turn spent) s lent e).answer (reply_causes turn spent)
  unfolding reply_code
  reply_by turn spent lent e f = only_by (reply_causes turn spent) s lent e f

  step_by : (turn spent : Bool) (place : ℕ) (c : Change) → Speaks c
      → By (keeping lists (step_unless (reply_code turn spent) s place c)).answer (reply_causes turn spent)
  step_by turn spent place c x = reply_by turn spent [] (changed s place c []) x.accepts

  conc_by : (place : ℕ) (es : List ℕ) → (let c = (sub_at s place).course in
      let all = all_heard s.counters.own (with_reply c h.from 0 h.count).heard c.mask in
      By (take_conc s h es lists place).answer (reply_causes (conc_in_turn c h.from) (every (all ∷ spent_to_all s c.mask ∷ []))))
  unfolding take_conc with_reply
  conc_by place es =
      let made = gather_lists s place es lists in
      reply_by _ _ lists (changed s place (gather_change s h place made) made) (gather_speaks s h place made).accepts

  held_by : (k place : ℕ) (es : List ℕ)
      → By (take_held k s h es lists place).answer (reply_causes (held_in_turn k s h place) (held_spent k s h place))
  unfolding take_held held_in_turn held_spent take_joined take_prepare take_cert take_vote take_commit take_abort arrived raise
  held_by k place es =
      by_test (eqb k kind.joined)
      (λ a. rw a (step_by _ _ place _ (quietly_speaks _)))
      (λ a. by_test (eqb k kind.prepare)
      (λ b. rw (a, b) (step_by _ _ place _ (prepared_speaks _ h.from h.argument _ (concurrent s place) (concurrent_whole s place))))
      (λ b. by_test (eqb k kind.conc)
      (λ c. rw (a, b, c) (conc_by place es))
      (λ c. by_test (eqb k kind.cert)
      (λ d. rw (a, b, c, d) (step_by _ _ place _ (certified_speaks _ h.from _ (vote_known s place es h.count))))
      (λ d. by_test (eqb k kind.vote)
      (λ e. rw (a, b, c, d, e) (step_by _ _ place _ (vote_speaks _ h.from h.argument)))
      (λ e. by_test (eqb k kind.commit)
      (λ f. rw (a, b, c, d, e, f) (step_by _ _ place _ (quietly_speaks _)))
      (λ f. rw (a, b, c, d, e, f) (step_by _ _ place _ (quietly_speaks _))))))))

  join_by : (place : ℕ) → By (keeping lists (take_join s h place)).answer (reply_causes (leb sizes.live place) (spent_to s h.from))
  unfolding take_join join_at spoken send_to
  join_by place =
      by_test (ltb (free_place s.live) sizes.live)
      (λ e. rw e (reply_by (leb sizes.live place) (spent_to s h.from) [] _ refl))
      (λ e. rw e (reply_by (leb sizes.live place) (spent_to s h.from) [] _ refl))

  other_by : (k : ℕ) → By (take_other k s h lists).answer (reply_causes true (every (eqb k kind.prepare ∷ spent_to s h.from ∷ [])))
  unfolding take_other pass_prepare passed spoken send_to
  other_by k =
      by_test (eqb k kind.prepare)
      (λ e. rw (e, pick_self (spent_to s h.from)) (reply_by true (spent_to s h.from) [] _ refl))
      (λ e. rw e (accepted _ (reply_causes true false) refl refl))

  kind_by : (k place : ℕ) (es : List ℕ)
      → By (take_kind k s h es lists place).answer (reply_causes (is_in_turn k s h place) (is_spent k s h place))
  unfolding take_kind is_in_turn is_spent
  kind_by k place es =
      by_test (eqb k kind.join)
      (λ a. rw a (join_by place))
      (λ a. by_test (ltb place sizes.live) (λ b. rw (a, b) (held_by k place es)) (λ b. rw (a, b) (other_by k)))

pub message_by : (s : Site) (room : ℕ) (lists m : List ℕ) → ByFirst (message_of s room lists m).answer (message_has s room lists m)
unfolding message_of arrival_code message_at next_code message_has order
message_by s room lists m =
    let h = message_head m in
    let place = place_of s.live h.tx in
    let first = arrival_causes (handed_ok s lists) room (message_ok s.house m) in
    let next = next_causes h.to s.counters.own h.channel (get_or s.channels.taken (h.from - 1) 0) in
    let last = reply_causes (is_in_turn h.kind s h place) (is_spent h.kind s h place) in
    by_first _ (first ++ (next ++ last)) refl
    (unless_by first (next ++ last) s lists _ refl
    (unless_by next last s lists _ refl (kind_by s h lists h.kind place (message_entries m))))

-- The merger and the copies.
pub merge_by : (g : Merger) (queues m : List ℕ) → ByFirst (merge_of g queues m).answer (merge_has g queues m)
unfolding merge_of merge_code merge_part merge_part_code merge_state merge_state_code merge_has order
merge_by g queues m =
    let r = record_head m in
    let c = source_at g (r.site - 1) in
    let first = merge_causes g queues m in
    by_test (eqb r.kind kind.part)
    (λ t. rw t (by_first _ (first ++ merge_part_causes c r) refl
    (merger_by first (merge_part_causes c r) g queues _ refl
    (alone_by (merge_part_causes c r) Done _ refl (λ z. rw z) (λ n. rw (ne_eqb _ 0 n))))))
    (λ t. rw t (by_first _ (first ++ merge_state_causes c r) refl
    (merger_by first (merge_state_causes c r) g queues _ refl
    (alone_by (merge_state_causes c r) Done _ refl (λ z. rw z) (λ n. rw (ne_eqb _ 0 n))))))

pub emit_by : (g : Merger) (room : ℕ) (queues : List ℕ) → ByFirst (emit_of g room queues).answer (emit_has g room queues)
unfolding emit_of emit_code emit_due due_code emit_has order
emit_by g room queues =
    let heads = heads_of queues g.house.sites in
    let r = head_in heads (least_site g queues) in
    let more = due_causes g heads (least_site g queues) in
    by_first _ (emit_causes g queues room ++ more) refl
    (merger_by (emit_causes g queues room) more g queues _ refl
    (alone_by more (Emitted r.number r.coordinator r.tx) _ refl (λ z. rw z) (λ n. rw (ne_eqb _ 0 n))))

pub replay_by : (copy m : List ℕ) → ByFirst (replay_of copy m).answer (replay_causes copy m)
unfolding replay_of replay_code order
replay_by copy m =
    let r = record_head m in
    by_first _ (replay_causes copy m) refl
    (alone_by (replay_causes copy m) (Replayed r.number r.coordinator) _ refl (λ z. rw z) (λ n. rw (ne_eqb _ 0 n)))

pub value_by : (copy : List ℕ) (k : ℕ) → ByFirst (value_of copy k) (value_causes copy k)
unfolding value_of value_code order
value_by copy k =
    by_first _ (value_causes copy k) refl
    (alone_by (value_causes copy k) (Standing (copy_value copy k) (copy_number copy) (copy_coordinator copy)) _ refl (λ z. rw z)
    (λ n. rw (ne_eqb _ 0 n)))

call_by : (w : World) (c : Call) → ByFirst (step w c).answer (causes_of w c)
unfolding step site_step log_step merger_step merge_step copy_step replay_step
call_by w (world.begin s d) = begin_by (w.site s) d
call_by w (world.enlist s out tx site) = enlist_by (w.site s) (length out) tx site
call_by w (world.read s tx key) = read_by (w.site s) (w.base s) tx key
call_by w (world.write s tx key v) = write_by (w.site s) tx key v
call_by w (world.search s p key) = search_by (w.site s) (w.base s) (record { installs = p }) key
call_by w (world.commit s out tx) = commit_by (w.site s) (length out) (w.lists s) tx
call_by w (world.abandon s out tx) = abandon_by (w.site s) (length out) tx
call_by w (world.message s out m) = message_by (w.site s) (length out) (w.lists s) m
call_by w (world.install s out) = install_by (w.site s) (length out) (w.base s)
call_by w (world.report s out) = report_by (w.site s) (length out)
call_by w (world.merge m) = merge_by w.merger w.queues m
call_by w (world.emit out) = emit_by w.merger (length out) w.queues
call_by w (world.replay c m) = replay_by (w.copy c) m
call_by w (world.value c key) = value_by (w.copy c) key

pub first_cause : FirstCause
first_cause =
    record {
      call = call_by;
      start = start_by;
      merger_start = merger_start_by;
      copy_start = copy_start_by;
      page = page_by;
      offset = offset_by;
      pages = pages_by;
      reader_start = reader_start_by;
      reader_replay = reader_replay_by;
      reader_value = reader_value_by;
      record_bytes = record_bytes_by;
    }
