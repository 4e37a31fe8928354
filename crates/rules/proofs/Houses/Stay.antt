-- No call changes a house: HousesStay. Every effect is the site as given, or that site with its other fields anew.
use Prim.Native.Nat.{ℕ, ◌-◌}
use mathlib.Core.Path.{◌≡◌, refl}
use mathlib.Core.Bool.{Bool, true}
use mathlib.Core.List.{List, [], ◌∷◌}
use lib.Dec.{eqb, ltb, leb}
use lib.ListN.{get_or, length}
use Rattle.laws.specs.Choice.{pick, every, by_test, by_same}
use Rattle.kinds.specs.Sizes as sizes
use Rattle.kinds.specs.Kind as kind
use Rattle.kinds.specs.declared.MessageHead.{MessageHead}
use Rattle.kinds.specs.declared.Merger.{Merger}
use Rattle.kinds.specs.declared.Site.{Site}
use Rattle.kinds.specs.State.{sub_at}
use Rattle.kinds.specs.declared.Value.{Value}
use Rattle.rules.specs.House.{is_site, in_mask}
use Rattle.rules.specs.Access.{access_code, read_code, read_at, read_version, read_of, late_code, write_at, written, write_of}
use Rattle.rules.specs.Begin.{begin_code, begin_of}
use Rattle.rules.specs.Commit.{request_code, commit_code, commit_of, abandon_code, abandon_of}
use Rattle.rules.specs.Course.{channel_spent, with_reply}
use Rattle.rules.specs.Deliver.{arrival_code, next_code, reply_code, spent_to, spent_to_all, step_unless, keeping, join_at, spoken, take_join}
use Rattle.rules.specs.Deliver.{take_joined, take_prepare, pass_prepare, conc_in_turn, take_conc, take_cert, take_vote, take_commit}
use Rattle.rules.specs.Deliver.{take_abort, take_held, take_other, take_kind, message_at, message_of, passed}
use Rattle.rules.specs.Desk.{is_desk}
use Rattle.rules.specs.Effect.{Change, Effect, changed, settle, unless}
use Rattle.rules.specs.Enlist.{is_mine, enlist_code, joiner_code, enlist_at, enlist_of}
use Rattle.rules.specs.History.{is_forgotten}
use Rattle.rules.specs.Install.{install_code, installed_at, install_of, report_code, report_of}
use Rattle.rules.specs.Keys.{read_key, wrote_key}
use Rattle.rules.specs.Live.{place_of, free_place, stage_at, all_heard}
use Rattle.rules.specs.Merger.{Merging, unless_merger, source_at, merge_code, merge_part_code, merge_part, merge_state_code}
use Rattle.rules.specs.Merger.{merge_state, merge_of, emit_code, heads_of, least_site, due_code, emit_due, emit_of}
use Rattle.rules.specs.Queue.{least_queued, is_installable}
use Rattle.rules.specs.Send.{counts_low}
use Rattle.rules.specs.Valid.{site_ok, handed_ok}
use Rattle.rules.specs.MergerKept.{pop_house}
use Rattle.rules.specs.Message.{message_head, message_entries, message_ok}
use Rattle.rules.specs.Record.{record_head}
use Rattle.rules.specs.World.{World, upd, step, site_step, log_step, merger_step, merge_step, copy_step, replay_step}
use Rattle.rules.specs.World as world
use borrow.Author.Tests.{eq-eqb, ne_eqb}
use Rattle.rules.specs.Tables.{HousesStay}

-- One site.
pub record Stays (s : Site) (e : Effect) : Type 0 where
  pub same : e.site.house ≡ s.house

kept : (s : Site) (e : Effect) → e.site.house ≡ s.house → Stays s e
kept s e x = record { same = x }

or_refused : (code : ℕ) (s : Site) (lent : List ℕ) (e : Effect) → Stays s e → Stays s (unless code s lent e)
or_refused code s lent e x = by_test (eqb code 0) (λ t. rw t x) (λ t. rw t (kept s _ refl))

either : (s : Site) (b : Bool) (e f : Effect) → Stays s e → Stays s f → Stays s (pick b e f)
either s b e f x y = by_test b (λ t. rw t x) (λ t. rw t y)

keeps : (s : Site) (lists : List ℕ) {e : Effect} → Stays s e → Stays s (keeping lists e)
keeps s lists x = record { same = x.same }

begin_stays : (s : Site) (d : ℕ) → Stays s (begin_of s d)
unfolding begin_of settle
begin_stays s d = or_refused (begin_code (site_ok s) (is_desk d) s.counters (free_place s.live)) s [] _ (kept s _ refl)

enlist_stays : (s : Site) (room tx site : ℕ) → Stays s (enlist_of s room tx site)
unfolding enlist_of enlist_at settle
enlist_stays s room tx site =
    let place = place_of s.live tx in
    let c = (sub_at s place).course in
    or_refused (enlist_code (site_ok s) room (is_site s.house site) place (is_mine s tx)) s [] _
    (or_refused (joiner_code c.stage (eqb site s.counters.own) (in_mask c.mask site) (channel_spent s.channels site)) s [] _
    (kept s _ refl))

read_stays : (s : Site) (base : List ℕ) (tx key : ℕ) → Stays s (read_of s base tx key)
unfolding read_of read_at read_version settle
read_stays s base tx key =
    let place = place_of s.live tx in
    let b = sub_at s place in
    or_refused (access_code (site_ok s) (length base) s.house s.counters.own key place (stage_at s.live place)) s [] _
    (by_test (wrote_key b.keys key)
    (λ t. rw t (kept s _ refl))
    (λ t. rw t (or_refused (read_code (is_forgotten s.counters.installs b.snapshot) (read_key b.keys key) b.keys.read) s [] _
    (kept s _ refl))))

write_stays : (s : Site) (tx key : ℕ) (v : Value) → Stays s (write_of s tx key v)
unfolding write_of write_at written settle
write_stays s tx key v =
    let place = place_of s.live tx in
    or_refused (access_code (site_ok s) sizes.base s.house s.counters.own key place (stage_at s.live place)) s [] _
    (or_refused (late_code s place key v) s [] _ (kept s _ refl))

commit_stays : (s : Site) (room : ℕ) (lists : List ℕ) (tx : ℕ) → Stays s (commit_of s room lists tx)
unfolding commit_of settle
commit_stays s room lists tx =
    let place = place_of s.live tx in
    let c = (sub_at s place).course in
    or_refused (request_code (handed_ok s lists) room place (is_mine s tx)) s lists _
    (or_refused (commit_code c.stage (all_heard s.counters.own c.heard c.mask)
    (counts_low s.channels.sent c.mask s.counters.own)) s lists _ (kept s _ refl))

abandon_stays : (s : Site) (room tx : ℕ) → Stays s (abandon_of s room tx)
unfolding abandon_of settle
abandon_stays s room tx =
    let place = place_of s.live tx in
    let c = (sub_at s place).course in
    or_refused (request_code (site_ok s) room place (is_mine s tx)) s [] _
    (or_refused (abandon_code c.stage (counts_low s.channels.sent c.mask s.counters.own)) s [] _ (kept s _ refl))

install_stays : (s : Site) (room : ℕ) (base : List ℕ) → Stays s (install_of s room base)
unfolding install_of installed_at
install_stays s room base =
    let place = least_queued s.live sizes.live in
    or_refused (install_code (site_ok s) room (length base) (is_installable s.live place) s.counters.installs) s base _ (kept s _ refl)

report_stays : (s : Site) (room : ℕ) → Stays s (report_of s room)
unfolding report_of
report_stays s room = or_refused (report_code (site_ok s) room) s [] _ (kept s _ refl)

-- A message, by its kind.
step_stays : (s : Site) (turn spent : Bool) (place : ℕ) (c : Change) (lists : List ℕ)
    → Stays s (keeping lists (step_unless (reply_code turn spent) s place c))
unfolding settle
step_stays s turn spent place c lists = keeps s lists (or_refused (reply_code turn spent) s [] (changed s place c []) (kept s _ refl))

conc_stays : (s : Site) (h : MessageHead) (es lists : List ℕ) (place : ℕ) → Stays s (take_conc s h es lists place)
unfolding take_conc settle
conc_stays s h es lists place =
    let b = (sub_at s place).course in
    let c = with_reply b h.from 0 h.count in
    or_refused (reply_code (conc_in_turn b h.from) (every (all_heard s.counters.own c.heard c.mask ∷ spent_to_all s b.mask ∷ [])))
    s lists _ (kept s _ refl)

held_stays : (k : ℕ) (s : Site) (h : MessageHead) (es lists : List ℕ) (place : ℕ) → Stays s (take_held k s h es lists place)
unfolding take_held take_joined take_prepare take_cert take_vote take_commit take_abort
held_stays k s h es lists place =
    either s (eqb k kind.joined) _ _ (step_stays s _ _ place _ lists)
    (either s (eqb k kind.prepare) _ _ (step_stays s _ _ place _ lists)
    (either s (eqb k kind.conc) _ _ (conc_stays s h es lists place)
    (either s (eqb k kind.cert) _ _ (step_stays s _ _ place _ lists)
    (either s (eqb k kind.vote) _ _ (step_stays s _ _ place _ lists)
    (either s (eqb k kind.commit) _ _ (step_stays s _ _ place _ lists) (step_stays s _ _ place _ lists))))))

other_stays : (k : ℕ) (s : Site) (h : MessageHead) (lists : List ℕ) → Stays s (take_other k s h lists)
unfolding take_other pass_prepare passed spoken
other_stays k s h lists =
    either s (eqb k kind.prepare) _ _ (keeps s lists (or_refused (reply_code true (spent_to s h.from)) s [] _ (kept s _ refl)))
    (kept s _ refl)

join_stays : (s : Site) (h : MessageHead) (place : ℕ) → Stays s (take_join s h place)
unfolding take_join join_at spoken settle
join_stays s h place =
    or_refused (reply_code (leb sizes.live place) (spent_to s h.from)) s [] _
    (either s (ltb (free_place s.live) sizes.live) _ _ (kept s _ refl) (kept s _ refl))

message_stays : (s : Site) (room : ℕ) (lists m : List ℕ) → Stays s (message_of s room lists m)
unfolding message_of message_at take_kind
message_stays s room lists m =
    let h = message_head m in
    let place = place_of s.live h.tx in
    or_refused (arrival_code (handed_ok s lists) room (message_ok s.house m)) s lists _
    (or_refused (next_code h.to s.counters.own h.channel (get_or s.channels.taken (h.from - 1) 0)) s lists _
    (either s (eqb h.kind kind.join) _ _ (keeps s lists (join_stays s h place))
    (either s (ltb place sizes.live) _ _ (held_stays h.kind s h (message_entries m) lists place) (other_stays h.kind s h lists))))

-- The merger.
pub record MergerStays (g : Merger) (e : Merging) : Type 0 where
  pub same : e.merger.house ≡ g.house

merger_refused : (code : ℕ) (g : Merger) (queues : List ℕ) (e : Merging) → MergerStays g e → MergerStays g (unless_merger code g queues e)
merger_refused code g queues e x = by_test (eqb code 0) (λ t. rw t x) (λ t. rw t (record { same = refl }))

merge_stays : (g : Merger) (queues m : List ℕ) → MergerStays g (merge_of g queues m)
unfolding merge_of merge_part merge_state
merge_stays g queues m =
    let c = source_at g ((record_head m).site - 1) in
    merger_refused (merge_code g queues m) g queues _
    (by_test (eqb (record_head m).kind kind.part)
    (λ t. rw t (merger_refused (merge_part_code c (record_head m)) g queues _ (record { same = refl })))
    (λ t. rw t (merger_refused (merge_state_code c (record_head m)) g queues _ (record { same = refl }))))

emit_stays : (g : Merger) (room : ℕ) (queues : List ℕ) → MergerStays g (emit_of g room queues)
unfolding emit_of emit_due
emit_stays g room queues =
    let n = g.house.sites in
    merger_refused (emit_code g queues room) g queues _
    (merger_refused (due_code g (heads_of queues n) (least_site g queues)) g queues _ (record { same = pop_house g _ n }))

-- A call: its site, and every other stays as it was.
here : (w : World) (s : ℕ) (e : Effect) → Stays (w.site s) e → (j : ℕ) → (upd w.site s e.site j).house ≡ (w.site j).house
unfolding upd
here w s e x j = by_same j s (λ z. rw (z, eq-eqb s s refl) x.same) (λ n. rw (ne_eqb j s n))

pub houses_stay : HousesStay
unfolding HousesStay step site_step log_step merger_step merge_step copy_step replay_step
houses_stay w (world.begin s d) = (here w s _ (begin_stays (w.site s) d), refl)
houses_stay w (world.enlist s out tx site) = (here w s _ (enlist_stays (w.site s) (length out) tx site), refl)
houses_stay w (world.read s tx key) = (here w s _ (read_stays (w.site s) (w.base s) tx key), refl)
houses_stay w (world.write s tx key v) = (here w s _ (write_stays (w.site s) tx key v), refl)
houses_stay w (world.search s p key) = (λ j. refl, refl)
houses_stay w (world.commit s out tx) = (here w s _ (commit_stays (w.site s) (length out) (w.lists s) tx), refl)
houses_stay w (world.abandon s out tx) = (here w s _ (abandon_stays (w.site s) (length out) tx), refl)
houses_stay w (world.message s out m) = (here w s _ (message_stays (w.site s) (length out) (w.lists s) m), refl)
houses_stay w (world.install s out) = (here w s _ (install_stays (w.site s) (length out) (w.base s)), refl)
houses_stay w (world.report s out) = (here w s _ (report_stays (w.site s) (length out)), refl)
houses_stay w (world.merge m) = (λ j. refl, (merge_stays w.merger w.queues m).same)
houses_stay w (world.emit out) = (λ j. refl, (emit_stays w.merger (length out) w.queues).same)
houses_stay w (world.replay c m) = (λ j. refl, refl)
houses_stay w (world.value c key) = (λ j. refl, refl)
