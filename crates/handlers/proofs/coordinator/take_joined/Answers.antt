-- Refused out of turn; else the reply is heard, with its reason.
use mathlib.Core.Path.{◌≡◌, refl, ap, ◌∙◌}
use mathlib.Core.Bool.{false}
use mathlib.Core.List.{[]}
use Rattle.kinds.specs.declared.Course.{Course}
use Rattle.kinds.specs.declared.MessageHead.{MessageHead}
use Rattle.kinds.specs.declared.Turn.{Turn}
use Rattle.kinds.specs.Refusal.{refusal_in}
use Rattle.shell.proofs.Refusals.{stopped}
use Rattle.shell.proofs.Checks.{found_none}
use Rattle.rules.specs.Course.{quietly, with_course_of, with_reply}
use Rattle.rules.specs.Deliver.{arrived, joined_in_turn, reply_code, take_joined}
use Rattle.rules.specs.Effect.{Change, taken_of}
use Rattle.lent.specs.Lent.{site_of}
use Rattle.handlers.specs.Held.{arrives, settles}
use Rattle.handlers.proofs.coordinator.take_joined.Goals as goal

-- the step, of what the callees hand back
abbrev step : Turn → MessageHead → Change
step t h = quietly (with_course_of t (with_reply t.sub.course h.from h.argument 0))

same : (h : MessageHead) (s t u : Turn) (d : Course) → t ≡ s → d ≡ with_reply t.sub.course h.from h.argument 0
    → u ≡ with_course_of t d → quietly u ≡ step s h
same h s t u d e f g = rw (g, f, e)

pub arrived-t-requires : goal.arrived-t-requires
arrived-t-requires c = arrives c.requires

pub joined_in_turn-turn-requires : goal.joined_in_turn-turn-requires
joined_in_turn-turn-requires c =
    let a = c.requires.arriving in
    (a.first, a.last)

pub returns-in-Err : goal.returns-in-Err
unfolding take_joined
returns-in-Err c =
    let part : Turn = let a = c.args in arrived (site_of a.p a.live.now a.history.now) a.place a.h.from in
    let first : refusal_in c.check_reply.result ≡ reply_code (joined_in_turn part.sub.course c.args.h.from) false = rw (← c.arrived-t.ensures c.args.history.now, ← c.joined_in_turn-turn.ensures) c.check_reply.ensures in
    let told = rw c.in-Err.is at first in
    rw (← told, stopped c.in-Err.cause _ refl) (c.refused_by.ensures _ _ [])

pub with_heard-d-requires : goal.with_heard-d-requires
with_heard-d-requires c =
    let a = c.requires.arriving in
    (a.first, a.last)

pub settled-requires : goal.settled-requires
settled-requires c = settles c.requires

pub returns : goal.returns
unfolding take_joined
returns c =
    let part : Turn = let a = c.args in arrived (site_of a.p a.live.now a.history.now) a.place a.h.from in
    let first : refusal_in c.check_reply.result ≡ reply_code (joined_in_turn part.sub.course c.args.h.from) false = rw (← c.arrived-t.ensures c.args.history.now, ← c.joined_in_turn-turn.ensures) c.check_reply.ensures in
    let q = same c.args.h part _ _ _ (c.arrived-t.ensures c.args.history.now) c.with_heard-d.ensures c.with_course-u.ensures in
    let none = found_none _ _ c.in_default.not-Err first in
    rw (← none) (c.settled.ensures (step part c.args.h) (c.quietly-a.ensures ∙ ap taken_of q) c.args.history.now [])
