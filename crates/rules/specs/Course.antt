-- C3 to C50: the steps of a part's course, on the part and its site's counters and channels.
use Rattle.std.specs.Prelude.{ℕ, ◌+◌, ◌-◌, ◌*◌, ◌≤◌, ◌<◌, max, ◌≡◌, List, [], ◌∷◌, Bool, not, length, get_or, leb, eqb}
use Rattle.std.specs.Int.Bits.{bit_or}
use Rattle.laws.specs.Choice.{pick, every, some}
use Rattle.kinds.specs.Sizes as sizes
use Rattle.kinds.specs.Stage as stage
use Rattle.kinds.specs.Reason as reason
use Rattle.kinds.specs.Kind as kind
use Rattle.kinds.specs.declared.Course.{Course}
use Rattle.kinds.specs.declared.Sub.{Sub}
use Rattle.kinds.specs.declared.Channels.{Channels}
use Rattle.kinds.specs.declared.MessageHead.{MessageHead}
use Rattle.kinds.specs.declared.Turn.{Turn}
use Rattle.kinds.specs.declared.Answer.{Answer}
use Rattle.kinds.specs.declared.Answer.TheVariants.{Done, Committed, Aborted}
use Rattle.kinds.specs.State.{no_sub, no_keys, with_course, with_clock}
use Rattle.rules.specs.House.{in_mask, mask_of}
use Rattle.rules.specs.Message.{message_words, entry_count}
use Rattle.rules.specs.Send.{messages_to, step_count, step_recipients, CountsLow}
use Rattle.rules.specs.Live.{all_heard}
use Rattle.rules.specs.Effect.{Change}

-- a part that begins now, for a desk: it sees the installs so far
unfoldable pub new_sub : ℕ → ℕ → ℕ → ℕ → Sub
new_sub tx d mask installs =
    record {
      tx = tx;
      desk = d;
      snapshot = record { installs = installs };
      course = record { stage = stage.active; mask = mask; number = 0; heard = 0; reason = 0; listed = 0 };
      keys = no_keys;
    }

-- One part of a turn changed.
abbrev pub with_sub_of : Turn → Sub → Turn
with_sub_of t b = record { counters = t.counters; channels = t.channels; sub = b }

abbrev pub with_course_of : Turn → Course → Turn
with_course_of t c = with_sub_of t (with_course t.sub c)

-- the clock raised to the larger
unfoldable pub raise : Turn → ℕ → Turn
raise t n = record { counters = with_clock t.counters (max t.counters.clock n); channels = t.channels; sub = t.sub }

-- Messages, and the counts after them.
unfoldable pub head_of : ℕ → ℕ → ℕ → ℕ → ℕ → ℕ → ℕ → ℕ → MessageHead
head_of k from to channel tx clock argument count =
    record { kind = k; from = from; to = to; channel = channel; tx = tx; clock = clock; argument = argument; count = count }

abbrev pub taken_from : Channels → ℕ → Channels
taken_from c site = record { sent = c.sent; taken = step_count c.taken (site - 1) }

abbrev pub sent_to : Channels → ℕ → Channels
sent_to c site = record { sent = step_count c.sent (site - 1); taken = c.taken }

-- no further message to that site can be counted
unfoldable pub channel_spent : Channels → ℕ → Bool
channel_spent c site = leb sizes.last (get_or c.sent (site - 1) 0)

-- one message to site `to`
unfoldable pub send_to : Turn → ℕ → ℕ → ℕ → ℕ → List ℕ → Change
send_to t k to clock argument es =
    record {
      answer = Done;
      words = message_words
          (head_of k t.counters.own to (get_or t.channels.sent (to - 1) 0 + 1) t.sub.tx clock argument (entry_count es)) es;
      turn = record { counters = t.counters; channels = sent_to t.channels to; sub = t.sub };
    }

-- one message to each other participant
unfoldable pub send_all : Turn → Answer → ℕ → ℕ → ℕ → List ℕ → Change
send_all t a k clock argument es =
    record {
      answer = a;
      words =
          messages_to (head_of k t.counters.own 0 0 t.sub.tx clock argument (entry_count es)) t.channels.sent
          t.sub.course.mask es
          sizes.sites;
      turn =
          record {
            counters = t.counters;
            channels = record {
              sent = step_recipients t.channels.sent t.sub.course.mask t.counters.own sizes.sites;
              taken = t.channels.taken;
            };
            sub = t.sub;
          };
    }

-- nothing to send
unfoldable pub quietly : Turn → Change
quietly t = record { answer = Done; words = []; turn = t }

-- the same with another part left
abbrev pub leaving : Sub → Change → Change
leaving b c = record { answer = c.answer; words = c.words; turn = with_sub_of c.turn b }

-- The coordinator's steps.

-- enlist: a participant more, and JOIN to it, which says the part's desk (Q10.3)
unfoldable pub with_participant : Course → ℕ → Course
with_participant c site =
    record {
      stage = c.stage;
      mask = bit_or c.mask (mask_of site);
      number = c.number;
      heard = c.heard;
      reason = c.reason;
      listed = c.listed;
    }

unfoldable pub enlist_step : Turn → ℕ → Change
enlist_step t site = send_to (with_course_of t (with_participant t.sub.course site)) kind.join site 0 t.sub.desk []

-- a reply of this round is still to come from that site
unfoldable pub is_outstanding : Course → ℕ → Bool
is_outstanding c site = every (in_mask c.mask site ∷ not (in_mask c.heard site) ∷ [])

-- a reply heard, with a reason or none, and so many entries more
unfoldable pub with_reply : Course → ℕ → ℕ → ℕ → Course
with_reply c site r entries =
    record {
      stage = c.stage;
      mask = c.mask;
      number = c.number;
      heard = bit_or c.heard (mask_of site);
      reason = max c.reason r;
      listed = c.listed + entries;
    }

-- abort: ABORT goes to the others, and the part is gone
unfoldable pub abort_step : Turn → ℕ → Change
abort_step t r = leaving no_sub (send_all t (Aborted r) kind.abort 0 0 [])

-- commit: the clock plus 1 is the commit number
unfoldable pub with_decision : Course → ℕ → Course
with_decision c n = record { stage = stage.decided; mask = c.mask; number = n; heard = c.heard; reason = c.reason; listed = c.listed }

unfoldable pub commit_step : Turn → ℕ → Change
commit_step t n =
    send_all
    (record { counters = with_clock t.counters n; channels = t.channels; sub = with_course t.sub (with_decision t.sub.course n) })
    (Committed n) kind.commit n 0 []

-- all have voted yes: at the last clock, abort 13
unfoldable pub decide_step : Turn → Change
decide_step t = pick (leb sizes.last t.counters.clock) (abort_step t reason.spent) (commit_step t (t.counters.clock + 1))

-- yes enters the queue with the clock as mark; a new round starts, and the lists are done with
unfoldable pub with_queue_mark : Course → ℕ → Course
with_queue_mark c clock = record { stage = stage.queued; mask = c.mask; number = clock; heard = 0; reason = c.reason; listed = 0 }

-- all lists are here: the coordinator votes v on their join, then CERT carries it; a lone participant has all votes
unfoldable pub cast_step : Turn → ℕ → List ℕ → Change
cast_step t v es =
    let q = with_course_of t (with_queue_mark t.sub.course t.counters.clock) in
    pick (eqb v 0) (pick (all_heard t.counters.own 0 t.sub.course.mask) (decide_step q) (send_all q Done kind.cert 0 0 es))
    (abort_step t v)

-- the commit request, once its list of n entries is made
unfoldable pub with_request : Course → ℕ → Course
with_request c n = record { stage = stage.prepared; mask = c.mask; number = c.number; heard = 0; reason = c.reason; listed = n }

unfoldable pub prepare_step : Turn → Change
prepare_step t = send_all t Done kind.prepare t.counters.clock t.sub.course.mask []

-- a VOTE decides: a no, or the last yes
unfoldable pub vote_decides : ℕ → Course → ℕ → ℕ → Bool
vote_decides own c from v = some (not (eqb v 0) ∷ all_heard own (with_reply c from 0 0).heard c.mask ∷ [])

-- a VOTE with its reason, 0 for yes: the first no aborts, the last yes decides
unfoldable pub vote_step : Turn → ℕ → ℕ → Change
vote_step t site v =
    let c = with_reply t.sub.course site 0 0 in
    pick (eqb v 0) (pick (all_heard t.counters.own c.heard c.mask) (decide_step (with_course_of t c)) (quietly (with_course_of t c)))
    (abort_step t v)

-- A participant's steps.

-- PREPARE taken: its mask is the transaction's
unfoldable pub with_stage : Course → ℕ → ℕ → Course
with_stage c mask st = record { stage = st; mask = mask; number = c.number; heard = c.heard; reason = c.reason; listed = c.listed }

-- where an install after the snapshot is forgotten it votes 19, else replies with its list
unfoldable pub prepared_step : Turn → ℕ → ℕ → Bool → List ℕ → Change
prepared_step t to mask lost es =
    pick lost
    (send_to (with_course_of t (with_stage t.sub.course mask stage.rejected)) kind.vote to t.counters.clock reason.uncertain [])
    (send_to (with_course_of t (with_stage t.sub.course mask stage.prepared)) kind.conc to 0 0 es)

-- CERT taken: it votes v
unfoldable pub certified_step : Turn → ℕ → ℕ → Change
certified_step t to v =
    pick (eqb v 0)
    (send_to (with_course_of t (with_queue_mark t.sub.course t.counters.clock)) kind.vote to t.counters.clock 0 [])
    (send_to (with_course_of t (with_stage t.sub.course t.sub.course.mask stage.rejected)) kind.vote to t.counters.clock v [])

-- What a step that sends asks of its caller, who has refused the rest: whole entries, room, and counts that are not spent.
abbrev pub Entries : List ℕ → Type 0
Entries es = (length es ≡ sizes.entry * entry_count es) × (entry_count es ≤ sizes.cert_entries)

pub record CanSendTo (t : Turn) (to room : ℕ) : Type 0 where
  pub long : sizes.outgoing ≤ room
  pub first : 1 ≤ to
  pub last : to ≤ sizes.sites
  pub low : get_or t.channels.sent (to - 1) 0 < sizes.last

pub record CanSendAll (t : Turn) (room : ℕ) : Type 0 where
  pub long : sizes.outgoing ≤ room
  pub first : 1 ≤ t.counters.own
  pub last : t.counters.own ≤ sizes.sites
  pub low : CountsLow t.channels.sent t.sub.course.mask t.counters.own
