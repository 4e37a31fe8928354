-- Refused after the decision; else the part is gone, and its place is free.
use mathlib.Core.Path.{◌≡◌, refl, ap, ◌∙◌}
use mathlib.Core.Bool.{false, not}
use mathlib.Core.List.{[]}
use lib.Dec.{eqb}
use Rattle.kinds.specs.Stage as stage
use Rattle.kinds.specs.State.{no_sub}
use Rattle.kinds.specs.declared.Site.{Site}
use Rattle.kinds.specs.declared.Sub.{Sub}
use Rattle.kinds.specs.declared.Turn.{Turn}
use Rattle.kinds.specs.Refusal.{refusal_in}
use Rattle.shell.proofs.Refusals.{stopped}
use Rattle.shell.proofs.Checks.{found_none}
use Rattle.rules.specs.Course.{quietly, with_sub_of}
use Rattle.rules.specs.Deliver.{arrived, reply_code, take_abort}
use Rattle.rules.specs.Effect.{Change, taken_of}
use Rattle.lent.specs.Lent.{site_of}
use Rattle.handlers.specs.Held.{arrives, settles}
use Rattle.handlers.proofs.participant.take_abort.Goals as goal

-- the step, of what the callees hand back
abbrev step : Turn → Change
step t = quietly (with_sub_of t no_sub)

same : (s t u : Turn) (b : Sub) → t ≡ s → b ≡ no_sub → u ≡ with_sub_of t b → quietly u ≡ step s
same s t u b e f g = rw (g, e, f)

pub arrived-t-requires : goal.arrived-t-requires
arrived-t-requires c = arrives c.requires

pub returns-in-Err : goal.returns-in-Err
unfolding take_abort
returns-in-Err c =
    let handed : Site = let a = c.args in site_of a.p a.live.now a.history.now in
    let part : Turn = arrived handed c.args.place c.args.h.from in
    let first : refusal_in c.check_reply.result ≡ reply_code (not (eqb part.sub.course.stage stage.decided)) false = rw (← c.arrived-t.ensures c.args.history.now) c.check_reply.ensures in
    let told = rw c.in-Err.is at first in
    rw (← told, stopped c.in-Err.cause _ refl) (c.refused_by.ensures _ _ [])

pub settled-requires : goal.settled-requires
settled-requires c = settles c.requires

pub returns : goal.returns
unfolding take_abort
returns c =
    let handed : Site = let a = c.args in site_of a.p a.live.now a.history.now in
    let part : Turn = arrived handed c.args.place c.args.h.from in
    let first : refusal_in c.check_reply.result ≡ reply_code (not (eqb part.sub.course.stage stage.decided)) false = rw (← c.arrived-t.ensures c.args.history.now) c.check_reply.ensures in
    let turn = c.arrived-t.ensures c.args.history.now in
    let q = same part _ _ _ turn c.no_sub-free.ensures c.with_sub-u.ensures in
    let none = found_none _ _ c.in_default.not-Err first in
    rw (← none) (c.settled.ensures (step part) (c.quietly-a.ensures ∙ ap taken_of q) c.args.history.now [])
