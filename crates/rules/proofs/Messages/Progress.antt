-- Messages go on, proved: after any lawful list none is refused 26 or 27 and no VOTE of 5 was written. Every
-- transaction and participant stand in a phase in which what is under way is in its turn.
use Prim.Native.Nat.{ℕ, ◌-◌, ◌≤◌}
use mathlib.Core.Path.{◌≡◌, refl}
use mathlib.Core.List.{List}
use lib.ListN.{length, get_or}
use Rattle.kinds.specs.declared.House.{House}
use Rattle.kinds.specs.Reason as reason
use Rattle.kinds.specs.declared.MessageHead.{MessageHead}
use Rattle.kinds.specs.declared.Site.{Site}
use Rattle.rules.specs.Message.{message_head, message_entries, message_ok}
use Rattle.rules.specs.MessageLaws.{head_clear, passed_good}
use Rattle.rules.specs.Live.{place_of}
use Rattle.rules.specs.Valid.{handed_ok}
use Rattle.rules.specs.ValidLaws.{handed_site}
use Rattle.rules.specs.Effect.{Effect}
use Rattle.rules.specs.Course.{head_of}
use Rattle.rules.specs.CallLaws.{arrival_clear, next_clear}
use Rattle.rules.specs.Deliver.{arrival_code, next_code, take_kind, message_at, message_of}
use Rattle.rules.specs.World.{World, Call, Handed, step, site_step, log_step, merger_step, merge_step, copy_step, replay_step, fresh_world}
use Rattle.rules.specs.World as world
use Rattle.rules.specs.Book.{Fact}
use Rattle.rules.specs.Progress.{NoneOutOfTurn, MessagesProgress}
use Rattle.rules.proofs.Lists.Tables.{All, a_nil, all_append, all_is}
use Rattle.rules.proofs.Protocol.ProtocolTables.{Protocol, Msg}
use Rattle.rules.proofs.Protocol.Invariants.{Invariant}
use Rattle.rules.proofs.Refine.Refines.{Refines}
use Rattle.rules.proofs.Refine.RefineStep.{by_code, inside}
use Rattle.rules.proofs.Refine.RefineMail.{Made, made_in}
use Rattle.rules.proofs.Refine.RefineMessage.{head_in}
use Rattle.rules.proofs.Refine.RefineHanded.{posted, arrives}
use Rattle.rules.proofs.Stream.Stream.{Stream, fresh_stream}
use Rattle.rules.proofs.Demand.Stands.{Stands, Keeps, list_stands}
use Rattle.rules.proofs.Messages.Phases.{Phases}
use Rattle.rules.proofs.Messages.StepPhases.{phases_fresh, phases_steps}
use Rattle.rules.proofs.Messages.Spoken.{Known}
use Rattle.rules.proofs.Messages.GoesOn.{GoesOn, refused_goes, arrival_other, next_other, takes_on}
use Rattle.rules.proofs.Refusals.OwnNumbers.{own_numbers}
use Rattle.rules.proofs.Messages.KnownWords.{begin_writes, read_writes, write_writes, enlist_writes, commit_writes, abandon_writes}

-- A message call.
ends_apart : (h : MessageHead) (a s n : ℕ) (m : Msg) → h ≡ head_in a s n m → (h.from ≡ h.to → ⊥) → s ≡ a → ⊥
unfolding head_of
ends_apart h a s n m e f z = f (rw (e, z))

module _ {house : House} {w : World} {p : Protocol} (r : Refines house w p) (i : Invariant house p) (f : Phases p) (s : ℕ)
    (out m : List ℕ) where
  abbrev site : Site
  site = w.site s

  abbrev lists : List ℕ
  lists = w.lists s

  abbrev head : MessageHead
  head = message_head m

  -- the next of its channel
  next_goes : Handed w (world.message s out m) → arrival_code (handed_ok site lists) (length out) (message_ok site.house m) ≡ 0
      → next_code head.to site.counters.own head.channel (get_or site.channels.taken (head.from - 1) 0) ≡ 0
      → GoesOn (take_kind head.kind site head (message_entries m) lists (place_of site.live head.tx))
  unfolding head_of
  next_goes handed e k =
      let c = arrival_clear (handed_ok site lists) (length out) (message_ok site.house m) e in
      let d = next_clear head.to site.counters.own head.channel (get_or site.channels.taken (head.from - 1) 0) k in
      let (l, h) = inside r s (handed_site site lists c.valid) in
      let a = arrives i s (r.site s l h) m (posted r i s out m handed c.formed) d.here d.in_order_lem in
      let apart = ends_apart head a.from s a.number a.message a.head
      (head_clear site.house head (passed_good site.house m c.formed).head).ends.apart in
      rw (a.head, a.entries) (takes_on i f s a.from a.number (r.site s l h) a.message a.next apart)

  message_goes : Handed w (world.message s out m) → GoesOn (message_of site (length out) lists m)
  unfolding message_of message_at
  message_goes handed =
      let code = arrival_code (handed_ok site lists) (length out) (message_ok site.house m) in
      let late = next_code head.to site.counters.own head.channel (get_or site.channels.taken (head.from - 1) 0) in
      by_code GoesOn code site lists (message_at site lists m)
      (λ e. by_code GoesOn late site lists (take_kind head.kind site head (message_entries m) lists (place_of site.live head.tx))
      (next_goes handed e)
      (refused_goes late site lists (next_other _ _ _ _)))
      (refused_goes code site lists (arrival_other _ _ _))

-- What was sent, after a call.
known_sent : (w : World) (s : ℕ) (e : Effect) (base : List ℕ) (lent : List ℕ) → All Known w.sent → Made Known e.words
    → All Known (site_step w s e base lent).world.sent
unfolding site_step
known_sent w s e base lent k n = all_append k (made_in n)

call_known : {house : House} {w : World} {p : Protocol} → Refines house w p → Invariant house p → Phases p → (c : Call) → Handed w c
    → All Known w.sent → All Known (step w c).world.sent
unfolding step log_step merge_step merger_step replay_step copy_step
call_known {w = w} r i f (world.begin s d) h k = known_sent w s _ _ _ k (begin_writes (w.site s) d).known
call_known {w = w} r i f (world.enlist s out t n) h k = known_sent w s _ _ _ k (enlist_writes (w.site s) (length out) t n).known
call_known {w = w} r i f (world.read s t key) h k = known_sent w s _ _ _ k (read_writes (w.site s) (w.base s) t key).known
call_known {w = w} r i f (world.write s t key v) h k = known_sent w s _ _ _ k (write_writes (w.site s) t key v).known
call_known {w = w} r i f (world.commit s out t) h k = known_sent w s _ _ _ k (commit_writes (w.site s) (length out) (w.lists s) t).known
call_known {w = w} r i f (world.abandon s out t) h k = known_sent w s _ _ _ k (abandon_writes (w.site s) (length out) t).known
call_known {w = w} r i f (world.message s out m) h k = known_sent w s _ _ _ k (message_goes r i f s out m h).known
call_known r i f (world.search s q key) h k = k
call_known r i f (world.install s out) h k = k
call_known r i f (world.report s out) h k = k
call_known r i f (world.merge m) h k = k
call_known r i f (world.emit out) h k = k
call_known r i f (world.replay c m) h k = k
call_known r i f (world.value c key) h k = k

-- A house in which messages go on.
record Goes (w : World) (v : Stream) : Type 0 where
  phases : Phases v.protocol
  known : All Known w.sent

call_goes : {house : House} → house.sites ≤ 8 → Keeps Goes house
call_goes few w v u c h i z ss e j m =
    record {
      phases = phases_steps few ss z m.phases;
      known = call_known i.refines z.invariant m.phases c h m.known;
    }

fresh_goes : (house : House) → Goes (fresh_world house) fresh_stream
unfolding fresh_stream fresh_world
fresh_goes house = record { phases = phases_fresh; known = a_nil }

none_out_of_turn : {house : House} {w : World} {b : List Fact} → Stands Goes house w b → NoneOutOfTurn w
unfolding step site_step
none_out_of_turn {w = w} x s out m h = (
  own_numbers.call w (world.message s out m) reason.not_coordinator refl,
  (message_goes x.is.refines x.standing.invariant x.more.phases s out m h).in_turn,
)

pub messages_progress : MessagesProgress
unfolding MessagesProgress
messages_progress house calls good lawful =
    let few = good.few in
    let x = list_stands Goes few (call_goes few) good (fresh_goes house) calls lawful in
    (none_out_of_turn x, λ m h. all_is x.more.known h)
