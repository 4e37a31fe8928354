-- Refused out of its stage; else the clock is raised, and its list or its vote is sent.
use Prim.Native.Nat.{ℕ}
use mathlib.Core.Path.{◌≡◌, refl, sym, ap, ◌∙◌}
use mathlib.Core.List.{[]}
use lib.Dec.{eqb}
use Rattle.laws.specs.Overlay.{overlay, overlay_none}
use Rattle.kinds.specs.Stage as stage
use Rattle.kinds.specs.declared.MessageHead.{MessageHead}
use Rattle.kinds.specs.declared.Site.{Site}
use Rattle.kinds.specs.declared.Turn.{Turn}
use Rattle.kinds.specs.Refusal.{refusal_in}
use Rattle.shell.proofs.Refusals.{stopped}
use Rattle.shell.proofs.Checks.{found_none}
use Rattle.rules.specs.CallLaws.{reply_clear}
use Rattle.rules.specs.Certify.{concurrent}
use Rattle.rules.specs.Course.{channel_spent, prepared_step, raise}
use Rattle.rules.specs.Deliver.{arrived, reply_code, take_prepare}
use Rattle.rules.specs.Effect.{Change, taken_of}
use Rattle.rules.specs.History.{is_forgotten}
use Rattle.lent.specs.Lent.{site_of}
use Rattle.handlers.specs.Held.{arrives, settles}
use Rattle.handlers.proofs.Sends.{can_reply}
use Rattle.handlers.proofs.participant.take_prepare.Goals.{After-check_reply}
use Rattle.handlers.proofs.participant.take_prepare.Goals as goal

turned : (c : After-check_reply) → (let handed : Site = let a = c.args in site_of a.p a.live.now a.history.now in let part : Turn = raise (arrived handed c.args.place c.args.h.from) c.args.h.clock in c.raise-t.result ≡ part)
turned c =
    let a = c.args in
    c.raise-t.ensures ∙ ap (λ (x : Turn). raise x a.h.clock) (c.arrived-first.ensures a.history.now)

-- the first cause against it
first : (c : After-check_reply) → (let handed : Site = let a = c.args in site_of a.p a.live.now a.history.now in let part : Turn = raise (arrived handed c.args.place c.args.h.from) c.args.h.clock in refusal_in c.check_reply.result ≡ reply_code (eqb part.sub.course.stage stage.active) (channel_spent c.args.p.channels c.args.h.from))
first c =
    let turned = turned c in
    rw (← turned, ← c.channel_spent-spent.ensures) c.check_reply.ensures

-- the step, of what the callees hand back
abbrev step : Site → MessageHead → ℕ → Turn → Change
step s h place t = prepared_step t h.from h.argument (is_forgotten s.counters.installs t.sub.snapshot) (concurrent s place)

same : (s : Site) (h : MessageHead) (place : ℕ) (t u : Turn) → t ≡ u → step s h place t ≡ step s h place u
same s h place t u e = rw e

pub arrived-first-requires : goal.arrived-first-requires
arrived-first-requires c = arrives c.requires.0

pub channel_spent-spent-requires : goal.channel_spent-spent-requires
channel_spent-spent-requires c =
    let a = c.requires.0.arriving in
    (a.first, a.last)

pub returns-in-Err : goal.returns-in-Err
unfolding take_prepare
returns-in-Err c =
    let first = first (goal.at.returns-in-Err c).After-check_reply in
    let told = rw c.in-Err.is at first in
    let n = stopped c.in-Err.cause _ refl in
    record { replied = rw (← told, n) (c.refused_by.ensures _ _ []); out_after = rw (← told, n) (overlay_none c.args.out.now) }

pub prepare_taken-a-requires : goal.prepare_taken-a-requires
unfolding raise arrived
prepare_taken-a-requires c =
    let turned = turned (goal.at.prepare_taken-a-requires c).After-check_reply in
    let first = first (goal.at.prepare_taken-a-requires c).After-check_reply in
    let pre = c.requires in
    let held = pre.0 in
    let r = reply_clear _ _ (sym (found_none _ _ c.in_default.not-Err first)) in
    record { history_value = (held.possible, held.low); can_send_to = can_reply turned refl held.arriving pre.1 r.low }

pub settled-requires : goal.settled-requires
settled-requires c = settles c.requires.0

pub returns : goal.returns
unfolding take_prepare
returns c =
    let handed : Site = let a = c.args in site_of a.p a.live.now a.history.now in
    let part : Turn = raise (arrived handed c.args.place c.args.h.from) c.args.h.clock in
    let turned = turned (goal.at.returns c).After-check_reply in
    let first = first (goal.at.returns c).After-check_reply in
    let a = c.args in
    let none = found_none _ _ c.in_default.not-Err first in
    let change = step handed a.h a.place part in
    let q = same handed a.h a.place _ _ turned in
    record { replied = rw (← none) (c.settled.ensures change (c.prepare_taken-a.ensures.value ∙ ap taken_of q) a.history.now []); out_after = rw (← none) (c.prepare_taken-a.ensures.out_after ∙ ap (λ x. overlay a.out.now x.words) q) }
