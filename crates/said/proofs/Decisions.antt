-- What a commit request and a message say where they are taken: their steps answer a decision or nothing.
use Prim.Native.Nat.{ℕ, ◌-◌}
use mathlib.Core.Path.{◌≡◌, refl}
use mathlib.Core.List.{List, [], ◌∷◌}
use mathlib.Core.Bool.{Bool, true, false}
use borrow.Author.Tests.{eqb-true}
use lib.Dec.{ltb, leb, eqb}
use lib.ListN.{get_or}
use Rattle.laws.specs.Choice.{every, pick_same, by_test}
use Rattle.kinds.specs.Sizes as sizes
use Rattle.kinds.specs.Kind as kind
use Rattle.kinds.specs.declared.MessageHead.{MessageHead}
use Rattle.kinds.specs.declared.Site.{Site}
use Rattle.kinds.specs.declared.Turn.{Turn}
use Rattle.kinds.specs.State.{sub_at}
use Rattle.rules.specs.Message.{message_ok, message_head, message_entries}
use Rattle.rules.specs.Send.{counts_low}
use Rattle.rules.specs.Valid.{handed_ok}
use Rattle.rules.specs.Enlist.{is_mine}
use Rattle.rules.specs.Live.{place_of, free_place, all_heard}
use Rattle.rules.specs.Certify.{concurrent}
use Rattle.rules.specs.Effect.{turn_at}
use Rattle.rules.specs.Course.{raise, send_to, send_all, quietly, abort_step, commit_step, decide_step, cast_step, with_queue_mark, with_request}
use Rattle.rules.specs.Course.{prepare_step}
use Rattle.rules.specs.Course.{with_reply, vote_step, prepared_step, certified_step}
use Rattle.rules.specs.Commit.{request_code, commit_code, is_full, is_lost, request_change, commit_change, commit_of}
use Rattle.rules.specs.Deliver.{arrival_code, next_code, reply_code, spent_to, spent_to_all, conc_in_turn, gather_lists, keeping, arrived, passed}
use Rattle.rules.specs.Deliver.{spoken, join_at, take_join, take_joined, take_prepare, pass_prepare, gather_change, take_conc}
use Rattle.rules.specs.Deliver.{take_cert, take_vote, take_commit, take_abort, take_held, take_other, take_kind, message_at, message_of}
use Rattle.said.specs.Said.{ok, said_of}
use Rattle.said.specs.Decided.{replied, alone, list_heard, vote_heard, decided_said, cast_said, request_said, commit_said, conc_said}
use Rattle.said.specs.Decided.{vote_said}
use Rattle.said.specs.Decided.{taken_said, message_said}
use Rattle.said.proofs.Taken.{Takes, past, step_takes}

-- Decisions.
decide_says : (t : Turn) → said_of (decide_step t).answer ≡ decided_said t
unfolding said_of decide_step abort_step commit_step send_all decided_said
decide_says t = by_test (leb sizes.last t.counters.clock) (λ e. rw e) (λ e. rw e)

cast_says : (t : Turn) (v : ℕ) (es : List ℕ) → said_of (cast_step t v es).answer ≡ cast_said t v
unfolding said_of cast_step cast_said with_queue_mark abort_step send_all decided_said
cast_says t v es = by_test (eqb v 0) (λ e. by_test (alone t) (λ a. rw (e, a, decide_says)) (λ a. rw (e, a))) (λ e. rw e)

-- Commit.
request_says : (s : Site) (place : ℕ) → said_of (request_change s place (concurrent s place)).answer ≡ request_said s place
unfolding said_of request_change request_said with_request turn_at prepare_step send_all cast_said decided_said
request_says s place = by_test (alone (turn_at s place)) (λ a. rw (a, cast_says, a)) (λ a. rw a)

change_says : (s : Site) (tx : ℕ) → said_of (commit_change s (place_of s.live tx)).answer ≡ commit_said s tx
unfolding said_of commit_change abort_step send_all commit_said
change_says s tx =
    let place = place_of s.live tx in
    by_test (is_full s place) (λ f. rw f) (λ f. by_test (is_lost s place) (λ l. rw (f, l)) (λ l. rw (f, l, request_says)))

pub commit_taken : (s : Site) (room : ℕ) (lists : List ℕ) (tx : ℕ) → Takes (commit_of s room lists tx) (commit_said s tx)
unfolding commit_of
commit_taken s room lists tx =
    let place = place_of s.live tx in
    let c = (sub_at s place).course in
    let own = s.counters.own in
    past (request_code (handed_ok s lists) room place (is_mine s tx)) s lists _ _
    (past (commit_code c.stage (all_heard own c.heard c.mask) (counts_low s.channels.sent c.mask own)) s lists _ _
    (record { said = λ r. change_says s tx }))

-- A message, by its kind.
module _ (s : Site) (h : MessageHead) (place : ℕ) where
  conc_says : (lists : List ℕ) → said_of (gather_change s h place lists).answer ≡ conc_said s h lists place
  unfolding said_of gather_change conc_said quietly arrived
  conc_says lists = by_test (replied (list_heard s h place)) (λ a. rw (a, cast_says)) (λ a. rw a)

  vote_says : said_of (vote_step (raise (arrived s place h.from) h.clock) h.from h.argument).answer ≡ vote_said s h place
  unfolding said_of vote_step vote_said raise arrived quietly abort_step send_all decided_said
  vote_says =
      by_test (eqb h.argument 0)
      (λ e. by_test (replied (vote_heard s h place)) (λ a. rw (e, a, decide_says)) (λ a. rw (e, a)))
      (λ e. rw e)

prepared_says : (t : Turn) (to mask : ℕ) (lost : Bool) (es : List ℕ) → said_of (prepared_step t to mask lost es).answer ≡ ok []
unfolding said_of prepared_step send_to
prepared_says t to mask lost es = by_test lost (λ e. rw e) (λ e. rw e)

certified_says : (t : Turn) (to v : ℕ) → said_of (certified_step t to v).answer ≡ ok []
unfolding said_of certified_step send_to
certified_says t to v = by_test (eqb v 0) (λ e. rw e) (λ e. rw e)

quiet_says : (t : Turn) → said_of (quietly t).answer ≡ ok []
unfolding said_of quietly
quiet_says t = refl

module _ (s : Site) (h : MessageHead) (es lists : List ℕ) (place : ℕ) where
  abbrev Kind : ℕ → Type 0
  Kind k = Takes (take_kind k s h es lists place) (taken_said k s h es lists place)

  join_taken : Takes (keeping lists (take_join s h place)) (ok [])
  unfolding said_of take_join join_at spoken send_to
  join_taken =
      let code = reply_code (leb sizes.live place) (spent_to s h.from) in
      by_test (ltb (free_place s.live) sizes.live)
      (λ f. rw f (record { said = (past code s [] _ (ok []) (record { said = λ r. refl })).said }))
      (λ f. rw f (record { said = (past code s [] _ (ok []) (record { said = λ r. refl })).said }))

  gathers : Takes (take_conc s h es lists place) (conc_said s h (gather_lists s place es lists) place)
  unfolding take_conc
  gathers =
      let c = (sub_at s place).course in
      let all = all_heard s.counters.own (with_reply c h.from 0 h.count).heard (with_reply c h.from 0 h.count).mask in
      past (reply_code (conc_in_turn c h.from) (every (all ∷ spent_to_all s c.mask ∷ []))) s lists _ _
      (record { said = λ r. conc_says s h place (gather_lists s place es lists) })

  held_taken : ltb place sizes.live ≡ true → (k : ℕ) → eqb k kind.join ≡ false → Kind k
  unfolding take_kind take_held taken_said take_joined take_prepare take_cert take_vote take_commit take_abort
  held_taken l k j =
      by_test (eqb k kind.conc)
      (λ c. rw (eqb-true k kind.conc c, l) gathers)
      (λ c. by_test (eqb k kind.vote)
      (λ e. rw (eqb-true k kind.vote e, l) (step_takes _ _ s place _ lists _ (vote_says s h place)))
      (λ e. by_test (eqb k kind.joined)
      (λ a. rw (j, l, c, e, a) (step_takes _ _ s place _ lists _ (quiet_says _)))
      (λ a. by_test (eqb k kind.prepare)
      (λ b. rw (j, l, c, e, a, b) (step_takes _ _ s place _ lists _ (prepared_says _ _ _ _ _)))
      (λ b. by_test (eqb k kind.cert)
      (λ d. rw (j, l, c, e, a, b, d) (step_takes _ _ s place _ lists _ (certified_says _ _ _)))
      (λ d. by_test (eqb k kind.commit)
      (λ f. rw (j, l, c, e, a, b, d, f) (step_takes _ _ s place _ lists _ (quiet_says _)))
      (λ f. rw (j, l, c, e, a, b, d, f) (step_takes _ _ s place _ lists _ (quiet_says _))))))))

  other_taken : ltb place sizes.live ≡ false → (k : ℕ) → eqb k kind.join ≡ false → Kind k
  unfolding said_of take_kind take_other pass_prepare passed spoken send_to taken_said
  other_taken l k j =
      let code = reply_code true (spent_to s h.from) in
      by_test (eqb k kind.prepare)
      (λ e. rw (eqb-true k kind.prepare e, l) (record { said = (past code s [] _ (ok []) (record { said = λ r. refl })).said }))
      (λ e. rw (j, l, e, pick_same, pick_same) (record { said = λ r. refl }))

  kind_taken : (k : ℕ) → Kind k
  unfolding take_kind taken_said
  kind_taken k =
      by_test (eqb k kind.join)
      (λ e. rw (eqb-true k kind.join e) join_taken)
      (λ e. by_test (ltb place sizes.live) (λ l. held_taken l k e) (λ l. other_taken l k e))

pub message_taken : (s : Site) (room : ℕ) (lists m : List ℕ) → Takes (message_of s room lists m) (message_said s lists m)
unfolding message_of message_at message_said
message_taken s room lists m =
    let h = message_head m in
    past (arrival_code (handed_ok s lists) room (message_ok s.house m)) s lists _ _
    (past (next_code h.to s.counters.own h.channel (get_or s.channels.taken (h.from - 1) 0)) s lists _ _
    (kind_taken s h (message_entries m) lists (place_of s.live h.tx) h.kind))
