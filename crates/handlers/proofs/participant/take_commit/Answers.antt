-- Refused before a yes; else the clock is raised, and the message's clock is the commit number.
use Prim.Native.Nat.{ℕ}
use mathlib.Core.Path.{◌≡◌, refl, ap, ◌∙◌}
use mathlib.Core.Bool.{false}
use mathlib.Core.List.{[]}
use lib.Dec.{eqb}
use Rattle.kinds.specs.Stage as stage
use Rattle.kinds.specs.declared.Course.{Course}
use Rattle.kinds.specs.declared.Turn.{Turn}
use Rattle.kinds.specs.Refusal.{refusal_in}
use Rattle.shell.proofs.Refusals.{stopped}
use Rattle.shell.proofs.Checks.{found_none}
use Rattle.rules.specs.Course.{quietly, raise, with_course_of, with_decision}
use Rattle.rules.specs.Deliver.{arrived, reply_code, take_commit}
use Rattle.rules.specs.Effect.{Change, taken_of}
use Rattle.lent.specs.Lent.{site_of}
use Rattle.handlers.specs.Held.{arrives, settles}
use Rattle.handlers.proofs.participant.take_commit.Goals as goal

-- the step, of what the callees hand back
abbrev step : Turn → ℕ → Change
step t clock = quietly (with_course_of t (with_decision t.sub.course clock))

same : (clock : ℕ) (s t u : Turn) (d : Course) → t ≡ s → d ≡ with_decision t.sub.course clock → u ≡ with_course_of t d
    → quietly u ≡ step s clock
same clock s t u d e f g = rw (g, f, e)

pub arrived-first-requires : goal.arrived-first-requires
arrived-first-requires c = arrives c.requires

pub returns-in-Err : goal.returns-in-Err
unfolding take_commit
returns-in-Err c =
    let part : Turn = let a = c.args in raise (arrived (site_of a.p a.live.now a.history.now) a.place a.h.from) a.h.clock in
    let turned : c.raise-t.result ≡ part = let s = c.args in c.raise-t.ensures ∙ ap (λ (x : Turn). raise x s.h.clock) (c.arrived-first.ensures s.history.now) in
    let first : refusal_in c.check_reply.result ≡ reply_code (eqb part.sub.course.stage stage.queued) false = rw (← turned) c.check_reply.ensures in
    let told = rw c.in-Err.is at first in
    rw (← told, stopped c.in-Err.cause _ refl) (c.refused_by.ensures _ _ [])

pub settled-requires : goal.settled-requires
settled-requires c = settles c.requires

pub returns : goal.returns
unfolding take_commit
returns c =
    let part : Turn = let a = c.args in raise (arrived (site_of a.p a.live.now a.history.now) a.place a.h.from) a.h.clock in
    let turned : c.raise-t.result ≡ part = let s = c.args in c.raise-t.ensures ∙ ap (λ (x : Turn). raise x s.h.clock) (c.arrived-first.ensures s.history.now) in
    let first : refusal_in c.check_reply.result ≡ reply_code (eqb part.sub.course.stage stage.queued) false = rw (← turned) c.check_reply.ensures in
    let q = same c.args.h.clock part _ _ _ turned c.with_decision-d.ensures c.with_course-u.ensures in
    let none = found_none _ _ c.in_default.not-Err first in
    rw (← none) (c.settled.ensures (step part c.args.h.clock) (c.quietly-a.ensures ∙ ap taken_of q) c.args.history.now [])
