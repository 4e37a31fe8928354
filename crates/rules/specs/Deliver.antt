-- M18 to M30, C3 to C50 and Q10.3: a message taken, by its kind.
use Rattle.std.specs.Prelude.{ℕ, ◌+◌, ◌-◌, ◌*◌, ◌≤◌, ◌<◌, List, [], ◌∷◌, Bool, true, false, not, get_or, drop, ltb, leb, eqb}
use Rattle.laws.specs.Choice.{pick, every, some}
use Rattle.laws.specs.Cause.{Cause, cause, code_of}
use Rattle.laws.specs.Overlay.{put_at}
use Rattle.kinds.specs.Sizes as sizes
use Rattle.kinds.specs.Stage as stage
use Rattle.kinds.specs.Reason as reason
use Rattle.kinds.specs.Kind as kind
use Rattle.kinds.specs.Desk as desk
use Rattle.kinds.specs.declared.Course.{Course}
use Rattle.kinds.specs.declared.MessageHead.{MessageHead}
use Rattle.kinds.specs.declared.Site.{Site}
use Rattle.kinds.specs.declared.Turn.{Turn}
use Rattle.kinds.specs.declared.Answer.TheVariants.{Done}
use Rattle.kinds.specs.State.{no_sub, sub_at, with_channels}
use Rattle.rules.specs.Message.{message_ok, message_head, message_entries, entry_count}
use Rattle.rules.specs.Send.{counts_low}
use Rattle.rules.specs.Live.{place_of, free_place, all_heard}
use Rattle.rules.specs.History.{is_forgotten}
use Rattle.rules.specs.Join.{joined}
use Rattle.rules.specs.Certify.{concurrent, vote_of}
use Rattle.rules.specs.Valid.{handed_ok}
use Rattle.rules.specs.Effect.{Change, Effect, changed, unless}
use Rattle.rules.specs.Course.{new_sub, with_sub_of, with_course_of, raise, taken_from, channel_spent, send_to, quietly, is_outstanding}
use Rattle.rules.specs.Course.{with_reply, with_decision, cast_step, vote_decides, vote_step, prepared_step, certified_step}

-- causes before the message's kind is looked at
abbrev pub arrival_causes : Bool → ℕ → Bool → List Cause
arrival_causes ok room fine =
    cause (ltb room sizes.outgoing) reason.short
    ∷ cause (not ok) reason.malformed
    ∷ cause (not fine) reason.malformed
    ∷ []

unfoldable pub arrival_code : Bool → ℕ → Bool → ℕ
arrival_code ok room fine = code_of (arrival_causes ok room fine)

-- and its place on its channel
abbrev pub next_causes : ℕ → ℕ → ℕ → ℕ → List Cause
next_causes to own channel taken = cause (not (eqb to own)) reason.elsewhere ∷ cause (not (eqb channel (taken + 1))) reason.not_next ∷ []

unfoldable pub next_code : ℕ → ℕ → ℕ → ℕ → ℕ
next_code to own channel taken = code_of (next_causes to own channel taken)

-- the channel's next number can be counted
pub record Arriving (s : Site) (from : ℕ) : Type 0 where
  pub first : 1 ≤ from
  pub last : from ≤ sizes.sites
  pub low : get_or s.channels.taken (from - 1) 0 < sizes.last

-- the part with the channel's count stepped
unfoldable pub arrived : Site → ℕ → ℕ → Turn
arrived s place from = record { counters = s.counters; channels = taken_from s.channels from; sub = sub_at s place }

-- for a transaction not held it only steps the count
unfoldable pub passed : Site → ℕ → Effect
passed s from = record { answer = Done; words = []; site = with_channels s (taken_from s.channels from); lent = [] }

-- the part's turn, and no spent channel to reply on, or to the others
abbrev pub reply_causes : Bool → Bool → List Cause
reply_causes in_turn spent = cause (not in_turn) reason.stage ∷ cause spent reason.spent ∷ []

unfoldable pub reply_code : Bool → Bool → ℕ
reply_code in_turn spent = code_of (reply_causes in_turn spent)

abbrev pub spent_to : Site → ℕ → Bool
spent_to s to = channel_spent s.channels to

abbrev pub spent_to_all : Site → ℕ → Bool
spent_to_all s mask = not (counts_low s.channels.sent mask s.counters.own)

-- a step taken at a place, or its refusal
abbrev pub step_unless : ℕ → Site → ℕ → Change → Effect
step_unless code s place c = unless code s [] (changed s place c [])

-- JOIN: the part begins for the desk that JOIN says, or is answered 12 where 16 are live.
unfoldable pub join_turn : Site → MessageHead → ℕ → Turn
join_turn s h d =
    record { counters = s.counters; channels = taken_from s.channels h.from; sub = new_sub h.tx d 0 s.counters.installs }

-- without a part
unfoldable pub spoken : Site → Change → Effect
spoken s c =
    record {
      answer = c.answer;
      words = c.words;
      site = record { house = s.house; counters = c.turn.counters; channels = c.turn.channels; live = s.live; history = s.history };
      lent = [];
    }

unfoldable pub join_at : Site → MessageHead → ℕ → Effect
join_at s h free =
    pick (ltb free sizes.live)
    (changed s free (send_to (join_turn s h h.argument) kind.joined h.from 0 0 []) [])
    (spoken s (send_to (join_turn s h h.argument) kind.joined h.from 0 reason.full []))

unfoldable pub take_join : Site → MessageHead → ℕ → Effect
take_join s h place = unless (reply_code (leb sizes.live place) (spent_to s h.from)) s [] (join_at s h (free_place s.live))

-- JOINED
unfoldable pub joined_in_turn : Course → ℕ → Bool
joined_in_turn c from = every (eqb c.stage stage.active ∷ is_outstanding c from ∷ [])

unfoldable pub take_joined : Site → MessageHead → ℕ → Effect
take_joined s h place =
    let t = arrived s place h.from in
    step_unless (reply_code (joined_in_turn t.sub.course h.from) false) s place
    (quietly (with_course_of t (with_reply t.sub.course h.from h.argument 0)))

-- PREPARE; for a transaction not held it raises the clock and is voted 5
unfoldable pub take_prepare : Site → MessageHead → ℕ → Effect
take_prepare s h place =
    let t = raise (arrived s place h.from) h.clock in
    step_unless (reply_code (eqb t.sub.course.stage stage.active) (spent_to s h.from)) s place
    (prepared_step t h.from h.argument (is_forgotten s.counters.installs t.sub.snapshot) (concurrent s place))

unfoldable pub pass_prepare : Site → MessageHead → Effect
pass_prepare s h =
    let t = raise (join_turn s h desk.house) h.clock in
    unless (reply_code true (spent_to s h.from)) s [] (spoken s (send_to t kind.vote h.from t.counters.clock reason.unknown []))

-- CONC: appended to the gathered lists; the last one brings the vote on their join
unfoldable pub conc_in_turn : Course → ℕ → Bool
conc_in_turn c from = every (eqb c.stage stage.prepared ∷ is_outstanding c from ∷ [])

unfoldable pub gather_change : Site → MessageHead → ℕ → List ℕ → Change
gather_change s h place lists =
    let c = with_reply (sub_at s place).course h.from 0 h.count in
    let t = with_course_of (arrived s place h.from) c in
    let es = joined (drop (sizes.gathered * place) lists) c.listed in
    pick (all_heard s.counters.own c.heard c.mask) (cast_step t (vote_of s place es (entry_count es)) es) (quietly t)

unfoldable pub gather_lists : Site → ℕ → List ℕ → List ℕ → List ℕ
gather_lists s place es lists = put_at (sizes.gathered * place + sizes.entry * (sub_at s place).course.listed) lists es

unfoldable pub take_conc : Site → MessageHead → List ℕ → List ℕ → ℕ → Effect
take_conc s h es lists place =
    let b = (sub_at s place).course in
    let c = with_reply b h.from 0 h.count in
    unless (reply_code (conc_in_turn b h.from) (every (all_heard s.counters.own c.heard c.mask ∷ spent_to_all s b.mask ∷ []))) s
    lists
    (changed s place (gather_change s h place (gather_lists s place es lists)) (gather_lists s place es lists))

-- CERT
unfoldable pub take_cert : Site → MessageHead → List ℕ → ℕ → Effect
take_cert s h es place =
    let t = arrived s place h.from in
    step_unless (reply_code (eqb t.sub.course.stage stage.prepared) (spent_to s h.from)) s place
    (certified_step t h.from (vote_of s place es h.count))

-- VOTE: yes while votes are outstanding; no also from a site whose CONC is
unfoldable pub vote_in_turn : Course → ℕ → ℕ → Bool
vote_in_turn c from v =
    every (some (eqb c.stage stage.queued ∷ every (eqb c.stage stage.prepared ∷ not (eqb v 0) ∷ []) ∷ []) ∷ is_outstanding c from ∷ [])

unfoldable pub take_vote : Site → MessageHead → ℕ → Effect
take_vote s h place =
    let t = raise (arrived s place h.from) h.clock in
    let c = t.sub.course in
    step_unless (reply_code (vote_in_turn c h.from h.argument)
    (every (vote_decides s.counters.own c h.from h.argument ∷ spent_to_all s c.mask ∷ []))) s place
    (vote_step t h.from h.argument)

-- COMMIT, after a yes: its clock is the commit number
unfoldable pub take_commit : Site → MessageHead → ℕ → Effect
take_commit s h place =
    let t = raise (arrived s place h.from) h.clock in
    step_unless (reply_code (eqb t.sub.course.stage stage.queued) false) s place
    (quietly (with_course_of t (with_decision t.sub.course h.clock)))

-- ABORT, any time before COMMIT
unfoldable pub take_abort : Site → MessageHead → ℕ → Effect
take_abort s h place =
    let t = arrived s place h.from in
    step_unless (reply_code (not (eqb t.sub.course.stage stage.decided)) false) s place (quietly (with_sub_of t no_sub))

-- the lent lists stay
abbrev pub keeping : List ℕ → Effect → Effect
keeping lists e = record { answer = e.answer; words = e.words; site = e.site; lent = lists }

-- The handler of each kind: for a transaction held at `place`, or not held.
unfoldable pub take_held : ℕ → Site → MessageHead → List ℕ → List ℕ → ℕ → Effect
take_held k s h es lists place =
    pick (eqb k kind.joined) (keeping lists (take_joined s h place))
    (pick (eqb k kind.prepare) (keeping lists (take_prepare s h place))
    (pick (eqb k kind.conc) (take_conc s h es lists place)
    (pick (eqb k kind.cert) (keeping lists (take_cert s h es place))
    (pick (eqb k kind.vote) (keeping lists (take_vote s h place))
    (pick (eqb k kind.commit) (keeping lists (take_commit s h place))
    (keeping lists (take_abort s h place)))))))

unfoldable pub take_other : ℕ → Site → MessageHead → List ℕ → Effect
take_other k s h lists = pick (eqb k kind.prepare) (keeping lists (pass_prepare s h)) (keeping lists (passed s h.from))

unfoldable pub take_kind : ℕ → Site → MessageHead → List ℕ → List ℕ → ℕ → Effect
take_kind k s h es lists place =
    pick (eqb k kind.join) (keeping lists (take_join s h place))
    (pick (ltb place sizes.live) (take_held k s h es lists place) (take_other k s h lists))

unfoldable pub message_at : Site → List ℕ → List ℕ → Effect
message_at s lists m =
    let h = message_head m in
    unless (next_code h.to s.counters.own h.channel (get_or s.channels.taken (h.from - 1) 0)) s lists
    (take_kind h.kind s h (message_entries m) lists (place_of s.live h.tx))

unfoldable pub message_of : Site → ℕ → List ℕ → List ℕ → Effect
message_of s room lists m =
    unless (arrival_code (handed_ok s lists) room (message_ok s.house m)) s lists (message_at s lists m)
