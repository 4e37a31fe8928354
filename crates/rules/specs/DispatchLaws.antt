-- A message given to its kind's handler: what the rules say of each kind, and what a message that passed the checks is.
use Rattle.std.specs.Prelude.{ℕ, ◌+◌, ◌-◌, ◌*◌, ◌≤◌, ◌<◌, ◌≡◌, List, [], Bool, true, false, not, length, get_or, ltb, eqb}
use Rattle.std.proofs.Math.Path.{refl}
use Rattle.std.proofs.Common.{sym, ap, ◌∙◌, arith}
use borrow.Author.Tests.{lt-ltb, le-ltb, ne_eqb}
use Rattle.laws.specs.Choice.{pick, by_test, every_at}
use Rattle.kinds.specs.Sizes as sizes
use Rattle.kinds.specs.Kind as kind
use Rattle.kinds.specs.Stage as stage
use Rattle.kinds.specs.State.{no_sub}
use Rattle.kinds.specs.declared.MessageHead.{MessageHead}
use Rattle.kinds.specs.declared.Site.{Site}
use Rattle.kinds.specs.declared.Turn.{Turn}
use Rattle.rules.specs.Message.{message_ok, message_tests, message_head, message_entries, most_entries}
use Rattle.rules.specs.MessageLaws.{site_clear, head_clear, shape_clear, passed_good}
use Rattle.rules.specs.Live.{place_of}
use Rattle.rules.specs.Valid.{site_ok, handed_ok}
use Rattle.rules.specs.ValidLaws.{valid_site, handed_site}
use Rattle.rules.specs.Effect.{Effect, refused}
use Rattle.rules.specs.Course.{quietly, raise, with_course_of, with_sub_of, with_reply, with_decision}
use Rattle.rules.specs.CallLaws.{arrival_clear}
use Rattle.rules.specs.Deliver.{Arriving, arrival_code, next_code, message_at, message_of, arrived, passed, reply_code, joined_in_turn}
use Rattle.rules.specs.Deliver.{step_unless, take_join, take_joined, take_prepare, pass_prepare, take_conc, take_cert, take_vote, take_commit}
use Rattle.rules.specs.Deliver.{take_abort, keeping, take_held, take_other, take_kind}

-- taken where the transaction is held, else only counted
unfoldable pub or_passed : Site → MessageHead → ℕ → Effect → Effect
or_passed s h place e = pick (ltb place sizes.live) e (passed s h.from)

-- a vote of 5 where it is not
unfoldable pub prepared_or : Site → MessageHead → ℕ → Effect
prepared_or s h place = pick (ltb place sizes.live) (take_prepare s h place) (pass_prepare s h)

module _ (s : Site) (h : MessageHead) (es lists : List ℕ) (place : ℕ) where
  abbrev Given : ℕ → Effect
  Given k = take_kind k s h es lists place

  -- of the kind that its header names
  pub given_kind : {n : ℕ} → h.kind ≡ n → Given h.kind ≡ Given n
  given_kind e = ap Given e

  pub kind_join : Given kind.join ≡ keeping lists (take_join s h place)
  unfolding take_kind
  kind_join = refl

  pub kind_joined : Given kind.joined ≡ keeping lists (or_passed s h place (take_joined s h place))
  unfolding take_kind take_held take_other or_passed
  kind_joined = by_test (ltb place sizes.live) (λ e. rw e) (λ e. rw e)

  pub kind_prepare : Given kind.prepare ≡ keeping lists (prepared_or s h place)
  unfolding take_kind take_held take_other prepared_or
  kind_prepare = by_test (ltb place sizes.live) (λ e. rw e) (λ e. rw e)

  pub kind_cert : Given kind.cert ≡ keeping lists (or_passed s h place (take_cert s h es place))
  unfolding take_kind take_held take_other or_passed
  kind_cert = by_test (ltb place sizes.live) (λ e. rw e) (λ e. rw e)

  pub kind_vote : Given kind.vote ≡ keeping lists (or_passed s h place (take_vote s h place))
  unfolding take_kind take_held take_other or_passed
  kind_vote = by_test (ltb place sizes.live) (λ e. rw e) (λ e. rw e)

  pub kind_commit : Given kind.commit ≡ keeping lists (or_passed s h place (take_commit s h place))
  unfolding take_kind take_held take_other or_passed
  kind_commit = by_test (ltb place sizes.live) (λ e. rw e) (λ e. rw e)

  pub kind_abort : Given kind.abort ≡ keeping lists (or_passed s h place (take_abort s h place))
  unfolding take_kind take_held take_other or_passed
  kind_abort = by_test (ltb place sizes.live) (λ e. rw e) (λ e. rw e)

  pub kind_conc_held : place < sizes.live → Given kind.conc ≡ take_conc s h es lists place
  unfolding take_kind take_held
  kind_conc_held l = rw (lt-ltb place sizes.live l)

  pub kind_conc_other : sizes.live ≤ place → Given kind.conc ≡ keeping lists (passed s h.from)
  unfolding take_kind take_other
  kind_conc_other l = rw (le-ltb place sizes.live l)

-- A JOINED, COMMIT or ABORT is answered by no message.
quiet_step : (code : ℕ) (s : Site) (place : ℕ) (t : Turn) → (step_unless code s place (quietly t)).words ≡ []
unfolding quietly
quiet_step code s place t = by_test (eqb code 0) (λ e. rw e) (λ e. rw e)

quiet_or : (s : Site) (h : MessageHead) (place : ℕ) (e : Effect) → e.words ≡ [] → (or_passed s h place e).words ≡ []
unfolding or_passed passed
quiet_or s h place e q = by_test (ltb place sizes.live) (λ f. rw f q) (λ f. rw f)

module _ (s : Site) (h : MessageHead) (place : ℕ) where
  joined_quiet : (take_joined s h place).words ≡ []
  unfolding take_joined
  joined_quiet =
      let t = arrived s place h.from in
      quiet_step (reply_code (joined_in_turn t.sub.course h.from) false) s place
      (with_course_of t (with_reply t.sub.course h.from h.argument 0))

  pub quiet_joined : (or_passed s h place (take_joined s h place)).words ≡ []
  quiet_joined = quiet_or s h place (take_joined s h place) joined_quiet

  commit_quiet : (take_commit s h place).words ≡ []
  unfolding take_commit
  commit_quiet =
      let t = raise (arrived s place h.from) h.clock in
      quiet_step (reply_code (eqb t.sub.course.stage stage.queued) false) s place
      (with_course_of t (with_decision t.sub.course h.clock))

  pub quiet_commit : (or_passed s h place (take_commit s h place)).words ≡ []
  quiet_commit = quiet_or s h place (take_commit s h place) commit_quiet

  abort_quiet : (take_abort s h place).words ≡ []
  unfolding take_abort
  abort_quiet =
      let t = arrived s place h.from in
      quiet_step (reply_code (not (eqb t.sub.course.stage stage.decided)) false) s place (with_sub_of t no_sub)

  pub quiet_abort : (or_passed s h place (take_abort s h place)).words ≡ []
  quiet_abort = quiet_or s h place (take_abort s h place) abort_quiet

-- The layout is looked at in a valid site only.
pub arrival_valid : (ok : Bool) (room : ℕ) (a b : Bool) → (ok ≡ true → a ≡ b) → arrival_code ok room a ≡ arrival_code ok room b
unfolding arrival_code
arrival_valid true room a b f = rw (f refl)
arrival_valid false room a b f = refl

-- Past the first causes: the site is valid, the buffers are long enough, and the words are a message of the house.
pub record Checked (s : Site) (room : ℕ) (lists m : List ℕ) : Type 0 where
  pub handed : handed_ok s lists ≡ true
  pub long : sizes.outgoing ≤ room
  pub formed : message_ok s.house m ≡ true
  pub header : sizes.message_header ≤ length m
  pub from_low : 1 ≤ (message_head m).from
  pub from_high : (message_head m).from ≤ sizes.sites

pub checked : (s : Site) (room : ℕ) (lists m : List ℕ) (ok fine : Bool) → ok ≡ handed_ok s lists
    → (ok ≡ true → fine ≡ message_ok s.house m)
    → arrival_code ok room fine ≡ 0 → Checked s room lists m
unfolding message_ok
checked s room lists m ok fine v f e =
    let a = arrival_clear ok room fine e in
    let w = sym v ∙ a.valid in
    let g = sym (f a.valid) ∙ a.formed in
    let c = head_clear s.house (message_head m) (passed_good s.house m g).head in
    let b = site_clear s.house (message_head m).from c.ends.from in
    record {
      handed = w;
      long = a.long;
      formed = g;
      header = (shape_clear m (every_at (message_tests s.house m) 0 g)).long;
      from_low = b.low;
      from_high = omega (arith, b.high, (valid_site s (handed_site s lists w)).house.few_sites);
    }

-- its refusal by its channel, and its handler
unfoldable pub next_in : Site → List ℕ → ℕ
next_in s m =
    next_code (message_head m).to s.counters.own (message_head m).channel (get_or s.channels.taken ((message_head m).from - 1) 0)

module _ {s : Site} {room : ℕ} {lists m : List ℕ} (c : Checked s room lists m) where
  past_arrival : arrival_code (handed_ok s lists) room (message_ok s.house m) ≡ 0
  unfolding arrival_code
  past_arrival = rw (c.handed, c.formed, le-ltb room sizes.outgoing c.long)

  pub message_refused : (next_in s m ≡ 0 → ⊥) → message_of s room lists m ≡ refused (next_in s m) s lists
  unfolding message_of message_at next_in
  message_refused n = rw (past_arrival, ne_eqb _ 0 n)

  pub message_taken : next_in s m ≡ 0
      → message_of s room lists m
      ≡ take_kind (message_head m).kind s (message_head m) (message_entries m) lists (place_of s.live (message_head m).tx)
  unfolding message_of message_at next_in
  message_taken e = rw (past_arrival, e)

above : (k n : ℕ) → n ≤ k → (k ≡ n → ⊥) → n + 1 ≤ k
above k n l x = omega arith

past_all : (k : ℕ) → 9 ≤ k → k ≤ kind.abort → ⊥
past_all k l h = omega arith

-- a kind from 1 to 8 is one of them
pub some_kind : (k : ℕ) → kind.join ≤ k → k ≤ kind.abort → (k ≡ 1 → ⊥) → (k ≡ 2 → ⊥) → (k ≡ 3 → ⊥) → (k ≡ 4 → ⊥) → (k ≡ 5 → ⊥) → (k ≡ 6 → ⊥)
    → (k ≡ 7 → ⊥)
    → (k ≡ 8 → ⊥) → ⊥
some_kind k l h a b c d e f g i =
    past_all k (above k 8 (above k 7 (above k 6 (above k 5 (above k 4 (above k 3 (above k 2 (above k 1 l a) b) c) d) e) f) g) i) h

-- A message that passed the checks.
pub record Incoming (s : Site) (h : MessageHead) (es : List ℕ) : Type 0 where
  pub valid : site_ok s ≡ true
  pub arriving : Arriving s h.from
  pub apart : h.from ≡ s.counters.own → ⊥
  pub few : h.count ≤ most_entries h.kind
  pub size : length es ≡ sizes.entry * h.count
  pub low_kind_lem : kind.join ≤ h.kind
  pub high_kind_lem : h.kind ≤ kind.abort
