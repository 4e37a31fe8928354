-- Refused on a spent channel; else the clock is raised, and the sender is told 5.
use Prim.Native.Nat.{ℕ}
use mathlib.Core.Path.{◌≡◌, refl, sym, ap, ◌∙◌}
use mathlib.Core.Bool.{true}
use mathlib.Core.List.{[]}
use Rattle.laws.specs.Overlay.{overlay, overlay_none}
use Rattle.kinds.specs.Desk as desk
use Rattle.kinds.specs.Kind as kind
use Rattle.kinds.specs.Reason as reason
use Rattle.kinds.specs.declared.Site.{Site}
use Rattle.kinds.specs.declared.Turn.{Turn}
use Rattle.kinds.specs.Refusal.{refusal_in}
use Rattle.shell.proofs.Refusals.{stopped}
use Rattle.shell.proofs.Checks.{found_none}
use Rattle.rules.specs.CallLaws.{reply_clear}
use Rattle.rules.specs.Course.{channel_spent, raise, send_to}
use Rattle.rules.specs.CourseLaws.{no_entries}
use Rattle.rules.specs.Deliver.{join_turn, pass_prepare, reply_code, spoken}
use Rattle.rules.specs.Effect.{Change, taken_of}
use Rattle.lent.specs.Lent.{site_of}
use Rattle.shell.specs.Countable.{countable}
use Rattle.handlers.proofs.Sends.{can_reply}
use Rattle.handlers.proofs.participant.pass_prepare.Goals as goal

-- the step, of what the callees hand back
abbrev step : ℕ → Turn → Change
step from t = send_to t kind.vote from t.counters.clock reason.unknown []

same : (from : ℕ) (t u : Turn) → t ≡ u → step from t ≡ step from u
same from t u e = rw e

pub channel_spent-spent-requires : goal.channel_spent-spent-requires
channel_spent-spent-requires c =
    let a = c.requires.0.arriving in
    (a.first, a.last)

pub returns-in-Err : goal.returns-in-Err
unfolding pass_prepare spoken
returns-in-Err c =
    let first : let a = c.args in refusal_in c.check_reply.result ≡ reply_code true (channel_spent a.p.channels a.h.from) = rw (← c.channel_spent-spent.ensures) c.check_reply.ensures in
    let told = rw c.in-Err.is at first in
    let n = stopped c.in-Err.cause _ refl in
    record { replied = rw (← told, n) (c.refused_by.ensures _ _ []); out_after = rw (← told, n) (overlay_none c.args.out.now) }

pub join_turn-first-requires : goal.join_turn-first-requires
join_turn-first-requires c =
    let handed : Site = let a = c.args in site_of a.p a.live.now a.history.now in
    countable handed c.args.h.from c.requires.0.arriving

pub send_to-a-requires : goal.send_to-a-requires
unfolding raise join_turn
send_to-a-requires c =
    let handed : Site = let a = c.args in site_of a.p a.live.now a.history.now in
    let turn : Turn = raise (join_turn handed c.args.h desk.house) c.args.h.clock in
    let turned : c.raise-t.result ≡ turn = let a = c.args in c.raise-t.ensures ∙ ap (λ (x : Turn). raise x a.h.clock) (c.join_turn-first.ensures a.live.now a.history.now) in
    let first : let a = c.args in refusal_in c.check_reply.result ≡ reply_code true (channel_spent a.p.channels a.h.from) = rw (← c.channel_spent-spent.ensures) c.check_reply.ensures in
    let pre = c.requires in
    let r = reply_clear _ _ (sym (found_none _ _ c.in_default.not-Err first)) in
    (can_reply turned refl pre.0.arriving pre.1 r.low, no_entries)

pub returns : goal.returns
unfolding pass_prepare spoken
returns c =
    let handed : Site = let a = c.args in site_of a.p a.live.now a.history.now in
    let turn : Turn = raise (join_turn handed c.args.h desk.house) c.args.h.clock in
    let turned : c.raise-t.result ≡ turn = let a = c.args in c.raise-t.ensures ∙ ap (λ (x : Turn). raise x a.h.clock) (c.join_turn-first.ensures a.live.now a.history.now) in
    let first : let a = c.args in refusal_in c.check_reply.result ≡ reply_code true (channel_spent a.p.channels a.h.from) = rw (← c.channel_spent-spent.ensures) c.check_reply.ensures in
    let a = c.args in
    let none = found_none _ _ c.in_default.not-Err first in
    let q = same a.h.from _ _ turned in
    record { replied = rw (← none) (c.spoken.ensures (step a.h.from turn) (c.send_to-a.ensures.value ∙ ap taken_of q) a.live.now a.history.now); out_after = rw (← none) (c.send_to-a.ensures.out_after ∙ ap (λ x. overlay a.out.now x.words) q) }
