-- The steps of a part's course keep it possible, and what they write passes the check.
use Prim.Native.Nat.{ℕ, ◌+◌, ◌≤◌}
use mathlib.Core.Path.{◌≡◌, refl, sym, ◌∙◌}
use mathlib.Core.Bool.{Bool, true}
use mathlib.Core.Logic.{◌⊎◌, inl, ⊎_elim}
use mathlib.Core.List.{List, []}
use native.Mathlib.Omega.{arith}
use lib.Dec.{eqb, leb}
use Rattle.laws.specs.Choice.{by_test}
use Rattle.laws.specs.Scan.{any_below}
use Rattle.kinds.specs.Sizes as sizes
use Rattle.kinds.specs.Stage as stage
use Rattle.kinds.specs.Kind as kind
use Rattle.kinds.specs.Desk as desk
use Rattle.kinds.specs.Reason as reason
use Rattle.kinds.specs.State.{no_sub, with_clock, with_course}
use Rattle.kinds.specs.declared.House.{House}
use Rattle.kinds.specs.declared.Course.{Course}
use Rattle.kinds.specs.declared.Counters.{Counters}
use Rattle.kinds.specs.declared.Sub.{Sub}
use Rattle.kinds.specs.declared.Site.{Site}
use Rattle.kinds.specs.declared.Turn.{Turn}
use Rattle.kinds.specs.declared.MessageHead.{MessageHead}
use Rattle.kinds.specs.declared.Answer.{Answer}
use Rattle.kinds.specs.declared.Answer.TheVariants.{Done, Committed, Aborted}
use Rattle.rules.specs.House.{is_site, is_tx, is_mask, in_mask, coordinator_of}
use Rattle.rules.specs.Message.{entry_count, to_coordinator, coordinator_end, carries_clock, argument_ok, most_entries}
use Rattle.rules.specs.Keys.{keys_ok}
use Rattle.rules.specs.Live.{all_heard}
use Rattle.rules.specs.Send.{head_to}
use Rattle.rules.specs.Certify.{conflicts_with, uncertain_of, vote_of}
use Rattle.rules.specs.Effect.{Change}
use Rattle.rules.specs.Course.{with_sub_of, with_course_of, raise, head_of, send_to, send_all, quietly, with_participant, enlist_step}
use Rattle.rules.specs.Course.{with_reply, abort_step, with_decision, commit_step, decide_step, with_queue_mark, cast_step, prepare_step}
use Rattle.rules.specs.Course.{vote_step}
use Rattle.rules.specs.Course.{with_stage, prepared_step, certified_step}
use Rattle.rules.specs.Valid.{course_ok, desk_ok, counters_ok}
use Rattle.rules.specs.ValidLaws.{ValidHouse, ValidSite, valid_course, counters_own}
use Rattle.rules.proofs.Refine.RefineMail.{Made, none}
use Rattle.rules.proofs.Possible.ValidMade.{no_keys_lem, house_desk, new_desk, desk_clear}
use Rattle.rules.proofs.Possible.EntriesMade.{AllPossible, Carried, carried_none}
use Rattle.rules.proofs.Possible.Passing.{Passes, Between, Says, to_passes, all_pass}
use Rattle.rules.proofs.Possible.CourseFits.{none_fits, participant_fits, decision_fits, stage_fits, mark_fits, reply_fits}

-- Counters and a part that fit site s; es are the words gathered at the part's place.
pub record Fits (s : Site) (es : List ℕ) (c : Counters) (b : Sub) : Type 0 where
  pub own : c.own ≡ s.counters.own
  pub installs : c.installs ≡ s.counters.installs
  pub counters : counters_ok s.house c ≡ true
  pub course : course_ok s.house s.counters.own b.course ≡ true
  pub keys : keys_ok s.house s.counters.own b.keys ≡ true
  pub desk : desk_ok b.desk b.keys ≡ true
  pub tx : (b.course.stage ≡ stage.free → ⊥) → is_tx s.house b.tx ≡ true
  pub entries : AllPossible s.house es b.course.listed

abbrev pub TurnFits : Site → List ℕ → Turn → Type 0
TurnFits s es t = Fits s es t.counters t.sub

-- a step that leaves such a turn, and writes messages that pass
pub record ChangeFits (s : Site) (es : List ℕ) (c : Change) : Type 0 where
  pub turn : TurnFits s es c.turn
  pub words : Made (Passes s.house) c.words

-- a turn of a possible transaction that this site coordinates
pub record Leads (s : Site) (t : Turn) : Type 0 where
  pub tx : is_tx s.house t.sub.tx ≡ true
  pub mine : coordinator_of t.sub.tx ≡ s.counters.own

-- a turn of a possible transaction that another site coordinates, to which it replies
pub record Replies (s : Site) (t : Turn) (to : ℕ) : Type 0 where
  pub tx : is_tx s.house t.sub.tx ≡ true
  pub theirs : coordinator_of t.sub.tx ≡ to
  pub site : is_site s.house to ≡ true
  pub apart : s.counters.own ≡ to → ⊥

-- v may be the argument of a VOTE
abbrev pub MayVote : House → ℕ → Type 0
MayVote o v = (h : MessageHead) → h.kind ≡ kind.vote → h.argument ≡ v → argument_ok o h ≡ true

pub may_yes : (o : House) → MayVote o 0
unfolding argument_ok
may_yes o h k a = rw (k, a)

pub may_unknown : (o : House) → MayVote o reason.unknown
unfolding argument_ok
may_unknown o h k a = rw (k, a)

pub may_conflict : (o : House) → MayVote o reason.conflict
unfolding argument_ok
may_conflict o h k a = rw (k, a)

pub may_uncertain : (o : House) → MayVote o reason.uncertain
unfolding argument_ok
may_uncertain o h k a = rw (k, a)

-- a site's vote on a list
pub votes_so : (o : House) (s : Site) (place : ℕ) (es : List ℕ) (n : ℕ) → MayVote o (vote_of s place es n)
unfolding vote_of
votes_so o s place es n =
    by_test (any_below (conflicts_with s place es) n)
    (λ e. rw e (may_conflict o))
    (λ e. by_test (any_below (uncertain_of s es) n) (λ f. rw (e, f) (may_uncertain o)) (λ f. rw (e, f) (may_yes o)))

-- any clock fits
pub clock_fits : (s : Site) (es : List ℕ) (c : Counters) (b : Sub) (n : ℕ) → Fits s es c b → Fits s es (with_clock c n) b
unfolding counters_ok
clock_fits s es c b n x =
    record {
      own = x.own;
      installs = x.installs;
      counters = x.counters;
      course = x.course;
      keys = x.keys;
      desk = x.desk;
      tx = x.tx;
      entries = x.entries;
    }

pub raise_fits : (s : Site) (es : List ℕ) (t : Turn) (n : ℕ) → TurnFits s es t → TurnFits s es (raise t n)
unfolding raise
raise_fits s es t n x = clock_fits s es t.counters t.sub _ x

pub quietly_fits : (s : Site) (es : List ℕ) (t : Turn) → TurnFits s es t → ChangeFits s es (quietly t)
unfolding quietly
quietly_fits s es t x = record { turn = x; words = none }

module _ {s : Site} (v : ValidSite s) where
  abbrev o : House
  o = s.house

  abbrev here : ℕ
  here = s.counters.own

  house : ValidHouse o here
  house = v.house

  module _ {es : List ℕ} (t : Turn) (x : TurnFits s es t) where
    own_site : is_site o t.counters.own ≡ true
    own_site = counters_own o t.counters x.counters

    mask_house : is_mask o t.sub.course.mask ≡ true
    mask_house = (valid_course o here t.sub.course house x.course).mask_house

    -- with another course, and with another list gathered
    pub list_turn : (fs : List ℕ) (c : Course) → is_tx o t.sub.tx ≡ true → course_ok o here c ≡ true → AllPossible o fs c.listed
        → TurnFits s fs (with_course_of t c)
    list_turn fs c tx e all =
        record {
          own = x.own;
          installs = x.installs;
          counters = x.counters;
          course = e;
          keys = x.keys;
          desk = x.desk;
          tx = λ n. tx;
          entries = all;
        }

    pub course_turn : (c : Course) → is_tx o t.sub.tx ≡ true → course_ok o here c ≡ true → AllPossible o es c.listed
        → TurnFits s es (with_course_of t c)
    course_turn c tx e all = list_turn es c tx e all

    -- without its part
    pub gone_turn : TurnFits s es (with_sub_of t no_sub)
    unfolding no_sub
    gone_turn =
        record {
          own = x.own;
          installs = x.installs;
          counters = x.counters;
          course = none_fits o here house;
          keys = no_keys_lem o here;
          desk = new_desk desk.house house_desk;
          tx = λ n. absurd (n refl);
          entries = λ i h. absurd (omega arith);
        }

  -- The coordinator's messages.
  module _ {es : List ℕ} {t : Turn} (x : TurnFits s es t) (l : Leads s t) where
    leads_own : coordinator_of t.sub.tx ≡ t.counters.own
    leads_own = l.mine ∙ sym x.own

    -- with another course it leads still
    leads_on : (c : Course) → Leads s (with_course_of t c)
    leads_on c = record { tx = l.tx; mine = l.mine }

    -- one to each other participant
    to_all : (a : Answer) (k clock v : ℕ) (fs : List ℕ) → Carried o (most_entries k) fs
        → ((i : ℕ) → in_mask t.sub.course.mask (i + 1) ≡ true
        → Says o (head_to (head_of k t.counters.own 0 0 t.sub.tx clock v (entry_count fs)) t.channels.sent i))
        → Made (Passes o) (send_all t a k clock v fs).words
    to_all a k clock v fs c says = all_pass o t a k clock v fs (own_site t x) (mask_house t x) l.tx c says

    pub abort_fits : (r : ℕ) → ChangeFits s es (abort_step t r)
    unfolding abort_step send_all head_to head_of coordinator_end to_coordinator carries_clock argument_ok
    abort_fits r =
        record {
          turn = gone_turn t x;
          words = to_all (Aborted r) kind.abort 0 0 [] (carried_none o _)
              (λ i h. record { low = omega arith; high = omega arith; coordinator = leads_own; clock = refl; argument = refl });
        }

    pub prepare_fits : in_mask t.sub.course.mask here ≡ true → ChangeFits s es (prepare_step t)
    unfolding prepare_step send_all head_to head_of coordinator_end to_coordinator carries_clock argument_ok
    prepare_fits own =
        record {
          turn = x;
          words = to_all Done kind.prepare t.counters.clock t.sub.course.mask [] (carried_none o _)
              (λ i h. record {
                low = omega arith;
                high = omega arith;
                coordinator = leads_own;
                clock = refl;
                argument = rw (x.own, mask_house t x, own, h);
              });
        }

    cert_fits : (fs : List ℕ) → Carried o sizes.cert_entries fs → ChangeFits s es (send_all t Done kind.cert 0 0 fs)
    unfolding send_all head_to head_of coordinator_end to_coordinator carries_clock argument_ok most_entries
    cert_fits fs c =
        record {
          turn = x;
          words = to_all Done kind.cert 0 0 fs c
              (λ i h. record { low = omega arith; high = omega arith; coordinator = leads_own; clock = refl; argument = refl });
        }

    commit_fits : (n : ℕ) → ChangeFits s es (send_all t (Committed n) kind.commit n 0 [])
    unfolding send_all head_to head_of coordinator_end to_coordinator carries_clock argument_ok
    commit_fits n =
        record {
          turn = x;
          words = to_all (Committed n) kind.commit n 0 [] (carried_none o _)
              (λ i h. record { low = omega arith; high = omega arith; coordinator = leads_own; clock = refl; argument = refl });
        }

    join_fits : (a : ℕ) → is_site o a ≡ true → (here ≡ a → ⊥) → ChangeFits s es (send_to t kind.join a 0 t.sub.desk [])
    unfolding send_to head_of coordinator_end to_coordinator carries_clock argument_ok
    join_fits a h n =
        record {
          turn = x;
          words = to_passes o t kind.join a 0 t.sub.desk []
              (record { sender = own_site t x; receiver = h; apart = λ z. n (sym x.own ∙ z); tx = l.tx })
              (record {
                low = omega arith;
                high = omega arith;
                coordinator = leads_own;
                clock = refl;
                argument = desk_clear t.sub.desk t.sub.keys x.desk;
              })
              (carried_none o _);
        }

  -- A participant's messages.
  module _ {es : List ℕ} {t : Turn} {to : ℕ} (x : TurnFits s es t) (r : Replies s t to) where
    between : Between o t.counters.own to t.sub.tx
    between = record { sender = own_site t x; receiver = r.site; apart = λ z. r.apart (sym x.own ∙ z); tx = r.tx }

    replies_on : (c : Course) → Replies s (with_course_of t c) to
    replies_on c = record { tx = r.tx; theirs = r.theirs; site = r.site; apart = r.apart }

    pub joined_fits : (v : ℕ) → (v ≡ 0) ⊎ (v ≡ reason.full) → ChangeFits s es (send_to t kind.joined to 0 v [])
    unfolding send_to head_of coordinator_end to_coordinator carries_clock argument_ok
    joined_fits v e =
        record {
          turn = x;
          words = to_passes o t kind.joined to 0 v [] between
              (record {
                low = omega arith;
                high = omega arith;
                coordinator = r.theirs;
                clock = refl;
                argument = ⊎_elim (λ (z : v ≡ 0). rw z) (λ (z : v ≡ reason.full). rw z) e;
              })
              (carried_none o _);
        }

    conc_fits : (fs : List ℕ) → Carried o sizes.conc_entries fs → ChangeFits s es (send_to t kind.conc to 0 0 fs)
    unfolding send_to head_of coordinator_end to_coordinator carries_clock argument_ok most_entries
    conc_fits fs c =
        record {
          turn = x;
          words = to_passes o t kind.conc to 0 0 fs between
              (record { low = omega arith; high = omega arith; coordinator = r.theirs; clock = refl; argument = refl }) c;
        }

    pub vote_fits : (clock v : ℕ) → MayVote o v → ChangeFits s es (send_to t kind.vote to clock v [])
    unfolding send_to head_of coordinator_end to_coordinator carries_clock
    vote_fits clock v e =
        record {
          turn = x;
          words = to_passes o t kind.vote to clock v [] between
              (record { low = omega arith; high = omega arith; coordinator = r.theirs; clock = refl; argument = e _ refl refl })
              (carried_none o _);
        }

  -- The coordinator's steps.
  module _ {es : List ℕ} {t : Turn} (x : TurnFits s es t) (l : Leads s t) where
    abbrev course : Course
    course = t.sub.course

    pub enlist_fits : (a : ℕ) → is_site o a ≡ true → (here ≡ a → ⊥) → ChangeFits s es (enlist_step t a)
    unfolding enlist_step with_participant
    enlist_fits a h n =
        let c = with_participant course a in
        join_fits (course_turn t x c l.tx (participant_fits o here house course x.course a h) x.entries) (leads_on x l c) a h n

    pub decide_fits : ChangeFits s es (decide_step t)
    unfolding decide_step commit_step with_decision
    decide_fits =
        let n = t.counters.clock + 1 in
        let c = with_decision course n in
        let u : Turn = record { counters = with_clock t.counters n; channels = t.channels; sub = with_course t.sub c } in
        let decided = course_turn t x c l.tx (decision_fits o here house course x.course n) x.entries in
        let leads : Leads s u = record { tx = l.tx; mine = l.mine } in
        by_test (leb sizes.last t.counters.clock)
        (λ e. rw e (abort_fits x l reason.spent))
        (λ e. rw e (commit_fits (clock_fits s es t.counters u.sub n decided) leads n))

  module _ {es : List ℕ} {t : Turn} (x : TurnFits s es t) (l : Leads s t) where
    pub cast_fits : (v : ℕ) (fs : List ℕ) → Carried o sizes.cert_entries fs → ChangeFits s es (cast_step t v fs)
    unfolding cast_step with_queue_mark
    cast_fits v fs carried =
        let c = with_queue_mark t.sub.course t.counters.clock in
        let marked = mark_fits o here house t.sub.course x.course t.counters.clock in
        let y = course_turn t x c l.tx marked (λ i h. absurd (omega arith)) in
        by_test (eqb v 0)
        (λ e. by_test (all_heard t.counters.own 0 t.sub.course.mask)
        (λ f. rw (e, f) (decide_fits y (leads_on x l c)))
        (λ f. rw (e, f) (cert_fits y (leads_on x l c) fs carried)))
        (λ e. rw e (abort_fits x l v))

    -- a reply that brings no list
    pub reply_turn : (a r : ℕ) → is_site o a ≡ true → (a ≡ here → ⊥) → TurnFits s es (with_course_of t (with_reply t.sub.course a r 0))
    unfolding with_reply
    reply_turn a r h n =
        course_turn t x (with_reply t.sub.course a r 0) l.tx
        (reply_fits o here house t.sub.course x.course a r 0 h n (inl refl))
        (λ i k. x.entries i (omega arith))

    pub ballot_fits : (a v : ℕ) → is_site o a ≡ true → (a ≡ here → ⊥) → ChangeFits s es (vote_step t a v)
    unfolding vote_step
    ballot_fits a v h n =
        let c = with_reply t.sub.course a 0 0 in
        let y = reply_turn a 0 h n in
        by_test (eqb v 0)
        (λ e. by_test (all_heard t.counters.own c.heard c.mask)
        (λ f. rw (e, f) (decide_fits y (leads_on x l c)))
        (λ f. rw (e, f) (quietly_fits s es (with_course_of t c) y)))
        (λ e. rw e (abort_fits x l v))

  -- A participant's steps.
  module _ {es : List ℕ} {t : Turn} {to : ℕ} (x : TurnFits s es t) (r : Replies s t to) where
    stage_turn : (mask st : ℕ) → is_mask o mask ≡ true → st ≤ stage.rejected
        → TurnFits s es (with_course_of t (with_stage t.sub.course mask st))
    unfolding with_stage
    stage_turn mask st m h =
        let c = with_stage t.sub.course mask st in
        course_turn t x c r.tx (stage_fits o here house t.sub.course x.course mask st m h) x.entries

    pub prepared_fits : (mask : ℕ) (lost : Bool) (fs : List ℕ) → is_mask o mask ≡ true → Carried o sizes.conc_entries fs
        → ChangeFits s es (prepared_step t to mask lost fs)
    unfolding prepared_step
    prepared_fits mask lost fs m carried =
        let on = replies_on x r in
        by_test lost
        (λ e. rw e
        (vote_fits (stage_turn mask stage.rejected m (omega arith))
        (on (with_stage t.sub.course mask stage.rejected)) _ reason.uncertain (may_uncertain o)))
        (λ e. rw e (conc_fits (stage_turn mask stage.prepared m (omega arith))
        (on (with_stage t.sub.course mask stage.prepared)) fs carried))

    pub certified_fits : (v : ℕ) → MayVote o v → ChangeFits s es (certified_step t to v)
    unfolding certified_step with_queue_mark
    certified_fits v may =
        let clock = t.counters.clock in
        let mask = t.sub.course.mask in
        let c = with_queue_mark t.sub.course clock in
        let marked = mark_fits o here house t.sub.course x.course clock in
        let on = replies_on x r in
        by_test (eqb v 0)
        (λ e. rw e (vote_fits (course_turn t x c r.tx marked (λ i h. absurd (omega arith))) (on c) clock 0 (may_yes o)))
        (λ e. rw e
        (vote_fits (stage_turn mask stage.rejected (mask_house t x) (omega arith))
        (on (with_stage t.sub.course mask stage.rejected)) clock v may))
