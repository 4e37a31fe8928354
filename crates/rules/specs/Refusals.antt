-- N1 to N4 and Q7.5 to Q7.8: which number a call is refused with, and that a refused call leaves all as it was. All is said of any state,
-- and not only of those that a list leaves.
use Rattle.std.specs.Prelude.{ℕ, ◌-◌, ◌≡◌, ◌⊎◌, Bool, true, false, not, List, [], ◌∷◌, ◌++◌, eqb, leb, ltb, length, get_or}
use Rattle.laws.specs.Choice.{pick, every}
use Rattle.laws.specs.Cause.{Cause, first_in, lacks}
use Rattle.kinds.specs.Sizes as sizes
use Rattle.kinds.specs.Stage as stage
use Rattle.kinds.specs.Reason as reason
use Rattle.kinds.specs.Kind as kind
use Rattle.kinds.specs.declared.Answer.{Answer}
use Rattle.kinds.specs.declared.Answer.TheVariants.{Refused}
use Rattle.kinds.specs.declared.MessageHead.{MessageHead}
use Rattle.kinds.specs.declared.Merger.{Merger}
use Rattle.kinds.specs.declared.Site.{Site}
use Rattle.kinds.specs.State.{sub_at}
use Rattle.kinds.specs.declared.Value.{Value}
use Rattle.rules.specs.House.{is_site, in_mask}
use Rattle.rules.specs.Desk.{is_desk, write_limit}
use Rattle.rules.specs.Message.{message_ok, message_head}
use Rattle.rules.specs.Record.{record_head}
use Rattle.rules.specs.Send.{counts_low}
use Rattle.rules.specs.Keys.{wrote_key, read_key}
use Rattle.rules.specs.Live.{place_of, free_place, key_held, stage_at, all_heard}
use Rattle.rules.specs.History.{is_forgotten, is_newer}
use Rattle.rules.specs.Queue.{least_queued, is_installable}
use Rattle.rules.specs.Valid.{site_ok, handed_ok}
use Rattle.rules.specs.Course.{channel_spent, with_reply, vote_decides}
use Rattle.rules.specs.Begin.{begin_causes}
use Rattle.rules.specs.Access.{key_causes, access_causes, read_causes, long_causes, write_causes}
use Rattle.rules.specs.Enlist.{is_mine, enlist_causes, joiner_causes}
use Rattle.rules.specs.Commit.{request_causes, commit_causes, abandon_causes}
use Rattle.rules.specs.Deliver.{arrival_causes, next_causes, reply_causes, spent_to, spent_to_all, joined_in_turn, conc_in_turn, vote_in_turn}
use Rattle.rules.specs.Install.{install_causes, report_causes, start_causes, start_of}
use Rattle.rules.specs.Merger.{source_at, heads_of, least_site, merger_start_causes, merge_causes, merge_part_causes, merge_state_causes}
use Rattle.rules.specs.Merger.{emit_causes, due_causes, merger_start_of}
use Rattle.rules.specs.Copy.{replay_causes, value_causes, copy_start_causes, copy_start_of}
use Rattle.rules.specs.Page.{page_causes, page_of, offset_causes, offset_of, pages_causes, pages_of}
use Rattle.rules.specs.Reader.{reader_start_causes, reader_start_of, reader_replay_causes, reader_replay_of, reader_value_causes}
use Rattle.rules.specs.Reader.{reader_value_of, record_bytes_causes, record_bytes_of}
use Rattle.rules.specs.Answers.{is_refused}
use Rattle.rules.specs.World as world
use Rattle.rules.specs.World.{World, Call, step}

-- It leaves every site, table, merger and copy, what was sent and logged, and no words written.
unfoldable pub RefusedLeaves : Type 0
RefusedLeaves = (w : World) (c : Call) (n : ℕ) → (step w c).answer ≡ Refused n → ((step w c).words ≡ []) × ((step w c).world ≡ w)

-- The order of the table's causes. It keeps places for 21, 23 and 24, which no call is refused with (numbers_of).
unfoldable pub order : List ℕ
order =
    reason.short
    ∷ reason.malformed
    ∷ reason.bad_table
    ∷ reason.elsewhere
    ∷ reason.not_next
    ∷ reason.unknown
    ∷ reason.not_coordinator
    ∷ reason.stage
    ∷ reason.outstanding
    ∷ reason.forgotten
    ∷ reason.held
    ∷ reason.newer
    ∷ reason.too_many
    ∷ reason.too_long
    ∷ reason.full
    ∷ reason.spent
    ∷ reason.behind
    ∷ reason.queue_full
    ∷ reason.not_whole
    ∷ reason.nothing
    ∷ 21
    ∷ 23
    ∷ 24
    ∷ []

-- Every cause of each call. Causes 8 to 11 are none for a key that the transaction already wrote.
unfoldable pub begin_has : Site → ℕ → List Cause
begin_has s d = begin_causes (site_ok s) (is_desk d) s.counters (free_place s.live)

unfoldable pub access_has : Site → ℕ → ℕ → ℕ → List Cause
access_has s room tx k =
    let place = place_of s.live tx in
    access_causes (site_ok s) room s.house s.counters.own k place (stage_at s.live place)

unfoldable pub read_has : Site → List ℕ → ℕ → ℕ → List Cause
read_has s base tx k =
    let b = sub_at s (place_of s.live tx) in
    access_has s (length base) tx k
    ++ pick (wrote_key b.keys k) [] (read_causes (is_forgotten s.counters.installs b.snapshot) (read_key b.keys k) b.keys.read)

unfoldable pub write_has : Site → ℕ → ℕ → Value → List Cause
write_has s tx k v =
    let place = place_of s.live tx in
    let b = sub_at s place in
    let n = s.counters.installs in
    access_has s sizes.base tx k
    ++ pick (wrote_key b.keys k) (long_causes v)
    (write_causes (is_forgotten n b.snapshot) (key_held s.live place k) (is_newer s.history n b.snapshot k) (write_limit b.desk)
    b.keys.wrote v)

unfoldable pub search_has : Site → List ℕ → ℕ → List Cause
search_has s base k = key_causes (site_ok s) (length base) s.house s.counters.own k

unfoldable pub enlist_has : Site → ℕ → ℕ → ℕ → List Cause
enlist_has s room tx site =
    let place = place_of s.live tx in
    let c = (sub_at s place).course in
    enlist_causes (site_ok s) room (is_site s.house site) place (is_mine s tx)
    ++ joiner_causes c.stage (eqb site s.counters.own) (in_mask c.mask site) (channel_spent s.channels site)

unfoldable pub commit_has : Site → ℕ → List ℕ → ℕ → List Cause
commit_has s room lists tx =
    let place = place_of s.live tx in
    let c = (sub_at s place).course in
    let own = s.counters.own in
    request_causes (handed_ok s lists) room place (is_mine s tx)
    ++ commit_causes c.stage (all_heard own c.heard c.mask) (counts_low s.channels.sent c.mask own)

unfoldable pub abandon_has : Site → ℕ → ℕ → List Cause
abandon_has s room tx =
    let place = place_of s.live tx in
    let c = (sub_at s place).course in
    request_causes (site_ok s) room place (is_mine s tx)
    ++ abandon_causes c.stage (counts_low s.channels.sent c.mask s.counters.own)

-- M26 to M29: a message of kind k is in turn, for a part held at `place`
unfoldable pub held_in_turn : ℕ → Site → MessageHead → ℕ → Bool
held_in_turn k s h place =
    let c = (sub_at s place).course in
    pick (eqb k kind.joined) (joined_in_turn c h.from)
    (pick (eqb k kind.prepare) (eqb c.stage stage.active)
    (pick (eqb k kind.conc) (conc_in_turn c h.from)
    (pick (eqb k kind.cert) (eqb c.stage stage.prepared)
    (pick (eqb k kind.vote) (vote_in_turn c h.from h.argument)
    (pick (eqb k kind.commit) (eqb c.stage stage.queued) (not (eqb c.stage stage.decided)))))))

-- where the transaction is not held every kind is in turn, and JOIN only there
unfoldable pub is_in_turn : ℕ → Site → MessageHead → ℕ → Bool
is_in_turn k s h place = pick (eqb k kind.join) (leb sizes.live place) (pick (ltb place sizes.live) (held_in_turn k s h place) true)

-- its answer needs a channel that is at its end
unfoldable pub held_spent : ℕ → Site → MessageHead → ℕ → Bool
held_spent k s h place =
    let c = (sub_at s place).course in
    let own = s.counters.own in
    let all = all_heard own (with_reply c h.from 0 h.count).heard c.mask in
    pick (eqb k kind.joined) false
    (pick (eqb k kind.prepare) (spent_to s h.from)
    (pick (eqb k kind.conc) (every (all ∷ spent_to_all s c.mask ∷ []))
    (pick (eqb k kind.cert) (spent_to s h.from)
    (pick (eqb k kind.vote) (every (vote_decides own c h.from h.argument ∷ spent_to_all s c.mask ∷ [])) false))))

-- for one not held JOIN and PREPARE are answered
unfoldable pub is_spent : ℕ → Site → MessageHead → ℕ → Bool
is_spent k s h place =
    pick (eqb k kind.join) (spent_to s h.from)
    (pick (ltb place sizes.live) (held_spent k s h place) (every (eqb k kind.prepare ∷ spent_to s h.from ∷ [])))

unfoldable pub message_has : Site → ℕ → List ℕ → List ℕ → List Cause
message_has s room lists m =
    let h = message_head m in
    let place = place_of s.live h.tx in
    arrival_causes (handed_ok s lists) room (message_ok s.house m)
    ++ (next_causes h.to s.counters.own h.channel (get_or s.channels.taken (h.from - 1) 0)
    ++ reply_causes (is_in_turn h.kind s h place) (is_spent h.kind s h place))

unfoldable pub install_has : Site → ℕ → List ℕ → List Cause
install_has s room base =
    install_causes (site_ok s) room (length base) (is_installable s.live (least_queued s.live sizes.live)) s.counters.installs

unfoldable pub merge_has : Merger → List ℕ → List ℕ → List Cause
merge_has g queues m =
    let r = record_head m in
    let c = source_at g (r.site - 1) in
    merge_causes g queues m ++ pick (eqb r.kind kind.part) (merge_part_causes c r) (merge_state_causes c r)

unfoldable pub emit_has : Merger → ℕ → List ℕ → List Cause
emit_has g room queues = emit_causes g queues room ++ due_causes g (heads_of queues g.house.sites) (least_site g queues)

abbrev pub causes_of : World → Call → List Cause
causes_of w (world.begin s d) = begin_has (w.site s) d
causes_of w (world.enlist s out tx site) = enlist_has (w.site s) (length out) tx site
causes_of w (world.read s tx key) = read_has (w.site s) (w.base s) tx key
causes_of w (world.write s tx key v) = write_has (w.site s) tx key v
causes_of w (world.search s p key) = search_has (w.site s) (w.base s) key
causes_of w (world.commit s out tx) = commit_has (w.site s) (length out) (w.lists s) tx
causes_of w (world.abandon s out tx) = abandon_has (w.site s) (length out) tx
causes_of w (world.message s out m) = message_has (w.site s) (length out) (w.lists s) m
causes_of w (world.install s out) = install_has (w.site s) (length out) (w.base s)
causes_of w (world.report s out) = report_causes (site_ok (w.site s)) (length out)
causes_of w (world.merge m) = merge_has w.merger w.queues m
causes_of w (world.emit out) = emit_has w.merger (length out) w.queues
causes_of w (world.replay c m) = replay_causes (w.copy c) m
causes_of w (world.value c key) = value_causes (w.copy c) key

-- The first cause that holds, in an order, is the number returned; a call of which none holds is not refused.
pub record ByFirstIn (own : List ℕ) (a : Answer) (l : List Cause) : Type 0 where
  pub refused : (first_in own l ≡ 0 → ⊥) → a ≡ Refused (first_in own l)
  pub taken : first_in own l ≡ 0 → is_refused a ≡ false

-- the order of the table
abbrev pub ByFirst : Answer → List Cause → Type 0
ByFirst = ByFirstIn order

-- The conversions have orders of their own (Q8.6): 2 stands before 28 in a run and behind it on the way back. They are refused with these
-- numbers only.
abbrev pub page_numbers : List ℕ
page_numbers = reason.no_page ∷ []

abbrev pub offset_numbers : List ℕ
offset_numbers = reason.no_page ∷ reason.malformed ∷ []

abbrev pub pages_numbers : List ℕ
pages_numbers = reason.malformed ∷ reason.no_page ∷ []

-- the claim: in any state, of the fourteen calls, the three starts, the three conversions and the four calls on bytes
pub record FirstCause : Type 0 where
  pub call : (w : World) (c : Call) → ByFirst (step w c).answer (causes_of w c)
  pub start : (sites : ℕ) (table : List ℕ) (own base lists : ℕ)
      → ByFirst (start_of sites table own base lists).answer (start_causes sites table own base lists)
  pub merger_start : (sites : ℕ) (table queues : List ℕ)
      → ByFirst (merger_start_of sites table queues).answer (merger_start_causes sites table (length queues))
  pub copy_start : (copy : List ℕ) → ByFirst (copy_start_of copy).answer (copy_start_causes copy)
  pub page : (size offset : ℕ) → ByFirstIn page_numbers (page_of size offset) (page_causes size)
  pub offset : (size page rest : ℕ) → ByFirstIn offset_numbers (offset_of size page rest) (offset_causes size page rest)
  pub pages : (size : ℕ) (offsets out : List ℕ)
      → ByFirstIn pages_numbers (pages_of size offsets out).answer (pages_causes size (length offsets) (length out))
  pub reader_start : (b : List ℕ) → ByFirst (reader_start_of b).answer (reader_start_causes b)
  pub reader_replay : (b m : List ℕ) → ByFirst (reader_replay_of b m).answer (reader_replay_causes b m)
  pub reader_value : (b : List ℕ) (k : ℕ) (out : List ℕ) → ByFirst (reader_value_of b k out).answer (reader_value_causes b k (length out))
  pub record_bytes : (m out : List ℕ) → ByFirst (record_bytes_of m out).answer (record_bytes_causes m (length out))

-- The numbers that each call is ever refused with; a start of a site or of the merger is refused 2 or 22, one of a copy 2 only. Of the
-- calls on bytes replay is refused 2 or 14, the others 2 only (Q1.5).
abbrev pub numbers_of : Call → List ℕ
numbers_of (world.begin s d) = 2 ∷ 12 ∷ 13 ∷ []
numbers_of (world.enlist s out tx site) = 1 ∷ 2 ∷ 5 ∷ 26 ∷ 27 ∷ 13 ∷ []
numbers_of (world.read s tx key) = 2 ∷ 3 ∷ 5 ∷ 27 ∷ 8 ∷ 11 ∷ []
numbers_of (world.write s tx key v) = 2 ∷ 3 ∷ 5 ∷ 27 ∷ 8 ∷ 9 ∷ 10 ∷ 11 ∷ 29 ∷ []
numbers_of (world.search s p key) = 2 ∷ 3 ∷ []
numbers_of (world.commit s out tx) = 1 ∷ 2 ∷ 5 ∷ 26 ∷ 27 ∷ 7 ∷ 13 ∷ []
numbers_of (world.abandon s out tx) = 1 ∷ 2 ∷ 5 ∷ 26 ∷ 27 ∷ 13 ∷ []
numbers_of (world.message s out m) = 1 ∷ 2 ∷ 3 ∷ 4 ∷ 27 ∷ 13 ∷ []
numbers_of (world.install s out) = 1 ∷ 2 ∷ 13 ∷ 17 ∷ []
numbers_of (world.report s out) = 1 ∷ 2 ∷ []
numbers_of (world.merge m) = 2 ∷ 14 ∷ 15 ∷ []
numbers_of (world.emit out) = 1 ∷ 2 ∷ 16 ∷ 17 ∷ []
numbers_of (world.replay c m) = 2 ∷ 14 ∷ []
numbers_of (world.value c key) = 2 ∷ []

-- the claim, of the fourteen calls, the three starts, the three conversions and the four calls on bytes: a number that the list lacks is
-- never answered
pub record OwnNumbers : Type 0 where
  pub call : (w : World) (c : Call) (n : ℕ) → lacks n (numbers_of c) ≡ true → (step w c).answer ≡ Refused n → ⊥
  pub start : (sites : ℕ) (table : List ℕ) (own base lists n : ℕ) → (start_of sites table own base lists).answer ≡ Refused n
      → (n ≡ 2) ⊎ (n ≡ 22)
  pub merger_start : (sites : ℕ) (table queues : List ℕ) (n : ℕ) → (merger_start_of sites table queues).answer ≡ Refused n
      → (n ≡ 2) ⊎ (n ≡ 22)
  pub copy_start : (copy : List ℕ) (n : ℕ) → (copy_start_of copy).answer ≡ Refused n → n ≡ 2
  pub page : (size offset n : ℕ) → lacks n page_numbers ≡ true → page_of size offset ≡ Refused n → ⊥
  pub offset : (size page rest n : ℕ) → lacks n offset_numbers ≡ true → offset_of size page rest ≡ Refused n → ⊥
  pub pages : (size : ℕ) (offsets out : List ℕ) (n : ℕ) → lacks n pages_numbers ≡ true
      → (pages_of size offsets out).answer ≡ Refused n → ⊥
  pub reader_start : (b : List ℕ) (n : ℕ) → (reader_start_of b).answer ≡ Refused n → n ≡ 2
  pub reader_replay : (b m : List ℕ) (n : ℕ) → lacks n (2 ∷ 14 ∷ []) ≡ true → (reader_replay_of b m).answer ≡ Refused n → ⊥
  pub reader_value : (b : List ℕ) (k : ℕ) (out : List ℕ) (n : ℕ) → (reader_value_of b k out).answer ≡ Refused n → n ≡ 2
  pub record_bytes : (m out : List ℕ) (n : ℕ) → (record_bytes_of m out).answer ≡ Refused n → n ≡ 2
