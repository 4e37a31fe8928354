-- Refused out of its stage; else the entries are voted on, and the vote is sent.
use Prim.Native.Nat.{ℕ}
use mathlib.Core.Path.{◌≡◌, refl, sym, ap, ◌∙◌}
use mathlib.Core.List.{[]}
use lib.Dec.{eqb}
use Rattle.laws.specs.Overlay.{overlay, overlay_none}
use Rattle.kinds.specs.Stage as stage
use Rattle.kinds.specs.declared.Site.{Site}
use Rattle.kinds.specs.declared.Turn.{Turn}
use Rattle.kinds.specs.Refusal.{refusal_in}
use Rattle.shell.proofs.Refusals.{stopped}
use Rattle.shell.proofs.Checks.{found_none}
use Rattle.rules.specs.CallLaws.{reply_clear}
use Rattle.rules.specs.Certify.{vote_of}
use Rattle.rules.specs.Course.{certified_step, channel_spent}
use Rattle.rules.specs.Deliver.{arrived, reply_code, take_cert}
use Rattle.rules.specs.Effect.{Change, taken_of}
use Rattle.lent.specs.Lent.{site_of}
use Rattle.handlers.specs.Held.{arrives, settles}
use Rattle.handlers.proofs.Sends.{can_reply}
use Rattle.handlers.proofs.participant.take_cert.Goals.{After-check_reply, Start}
use Rattle.handlers.proofs.participant.take_cert.Goals as goal

-- the first cause against it
first : (c : After-check_reply) → (let handed : Site = let a = c.args in site_of a.p a.live.now a.history.now in refusal_in c.check_reply.result ≡ reply_code (eqb (arrived handed c.args.place c.args.h.from).sub.course.stage stage.prepared) (channel_spent c.args.p.channels c.args.h.from))
first c =
    rw (← c.arrived-t.ensures c.args.history.now, ← c.channel_spent-spent.ensures) c.check_reply.ensures

same : (c : Start) → (let handed : Site = let a = c.args in site_of a.p a.live.now a.history.now in let step : Change = let a = c.args in certified_step (arrived handed a.place a.h.from) a.h.from (vote_of handed a.place a.es.now a.h.count) in (t : Turn) (v : ℕ) → let a = c.args in t ≡ arrived handed a.place a.h.from → v ≡ vote_of handed a.place a.es.now a.h.count → certified_step t a.h.from v ≡ step)
same c t v e f =
    rw (e, f)

pub arrived-t-requires : goal.arrived-t-requires
arrived-t-requires c = arrives c.requires.held.0

pub channel_spent-spent-requires : goal.channel_spent-spent-requires
channel_spent-spent-requires c =
    let a = c.requires.held.0.arriving in
    (a.first, a.last)

pub returns-in-Err : goal.returns-in-Err
unfolding take_cert
returns-in-Err c =
    let first = first (goal.at.returns-in-Err c).After-check_reply in
    let told = rw c.in-Err.is at first in
    let n = stopped c.in-Err.cause _ refl in
    record { replied = rw (← told, n) (c.refused_by.ensures _ _ []); out_after = rw (← told, n) (overlay_none c.args.out.now) }

pub vote_of-v-requires : goal.vote_of-v-requires
vote_of-v-requires c =
    let pre = c.requires in
    let held = pre.held.0 in
    record { valid = held.possible; low = held.low; entries = record { few = pre.count_le_cert_entries.0; lie = pre.count_le_cert_entries.1 } }

pub certified_step-a-requires : goal.certified_step-a-requires
unfolding arrived
certified_step-a-requires c =
    let first = first (goal.at.certified_step-a-requires c).After-check_reply in
    let pre = c.requires.held in
    let r = reply_clear _ _ (sym (found_none _ _ c.in_default.not-Err first)) in
    can_reply (c.arrived-t.ensures c.args.history.now) refl pre.0.arriving pre.1 r.low

pub settled-requires : goal.settled-requires
settled-requires c = settles c.requires.held.0

pub returns : goal.returns
unfolding take_cert
returns c =
    let handed : Site = let a = c.args in site_of a.p a.live.now a.history.now in
    let step : Change = let a = c.args in certified_step (arrived handed a.place a.h.from) a.h.from (vote_of handed a.place a.es.now a.h.count) in
    let same = same (goal.at.returns c).Start in
    let first = first (goal.at.returns c).After-check_reply in
    let none = found_none _ _ c.in_default.not-Err first in
    let q = same _ _ (c.arrived-t.ensures c.args.history.now) c.vote_of-v.ensures in
    record { replied = rw (← none) (c.settled.ensures step (c.certified_step-a.ensures.value ∙ ap taken_of q) c.args.history.now []); out_after = rw (← none) (c.certified_step-a.ensures.out_after ∙ ap (λ x. overlay c.args.out.now x.words) q) }
