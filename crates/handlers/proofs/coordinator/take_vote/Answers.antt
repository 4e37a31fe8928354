-- Refused out of turn, or where a decision cannot be sent; else the clock is raised, and the vote's step is settled.
use Prim.Native.Nat.{ℕ, ◌≤◌}
use mathlib.Core.Path.{◌≡◌, refl, sym, ap, ◌∙◌}
use mathlib.Core.Bool.{true, not}
use mathlib.Core.List.{[], ◌∷◌}
use borrow.Author.Tests.{not-false}
use Rattle.laws.specs.Choice.{every}
use Rattle.laws.specs.Overlay.{overlay, overlay_none}
use Rattle.kinds.specs.Sizes as sizes
use Rattle.kinds.specs.declared.MessageHead.{MessageHead}
use Rattle.kinds.specs.declared.Site.{Site}
use Rattle.kinds.specs.declared.Turn.{Turn}
use Rattle.kinds.specs.Refusal.{refusal_in}
use Rattle.shell.proofs.Refusals.{stopped}
use Rattle.shell.proofs.Checks.{found_none}
use Rattle.rules.specs.CallLaws.{not_both, reply_clear}
use Rattle.rules.specs.Course.{CanSendAll, raise, vote_decides, vote_step}
use Rattle.rules.specs.Deliver.{arrived, reply_code, take_vote, vote_in_turn}
use Rattle.rules.specs.Effect.{taken_of}
use Rattle.rules.specs.Send.{counts_low, counts_low_lem}
use Rattle.rules.specs.Valid.{site_ok}
use Rattle.rules.specs.ValidLaws.{valid_own}
use Rattle.lent.specs.Lent.{site_of}
use Rattle.handlers.specs.Held.{arrives, settles}
use Rattle.handlers.proofs.coordinator.take_vote.Goals.{After-check_reply}
use Rattle.handlers.proofs.coordinator.take_vote.Goals as goal

abbrev part : Site → MessageHead → ℕ → Turn
part s h place = raise (arrived s place h.from) h.clock

-- the clock that it is raised to
abbrev raised_to : MessageHead → ℕ
raised_to h = h.clock

-- the part raised to any clock: what is against the vote is the same
abbrev part_at : Site → MessageHead → ℕ → ℕ → Turn
part_at s h place k = raise (arrived s place h.from) k

abbrev against : Site → MessageHead → Turn → ℕ
against s h t =
    let c = t.sub.course in
    let own = s.counters.own in
    reply_code (vote_in_turn c h.from h.argument)
    (every (vote_decides own c h.from h.argument ∷ not (counts_low s.channels.sent c.mask own) ∷ []))

alike : (s : Site) (h : MessageHead) (place k : ℕ) → against s h (part_at s h place k) ≡ against s h (part s h place)
unfolding raise
alike s h place k = refl

turned : (c : After-check_reply) → (let handed : Site = let a = c.args in site_of a.p a.live.now a.history.now in c.raise-t.result ≡ part_at handed c.args.h c.args.place (raised_to c.args.h))
turned c =
    let a = c.args in
    c.raise-t.ensures ∙ ap (λ (x : Turn). raise x (raised_to a.h)) (c.arrived-first.ensures a.history.now)

-- the first cause against it
first : (c : After-check_reply) → (let handed : Site = let a = c.args in site_of a.p a.live.now a.history.now in refusal_in c.check_reply.result ≡ against handed c.args.h (part handed c.args.h c.args.place))
first c =
    let handed : Site = let a = c.args in site_of a.p a.live.now a.history.now in
    let turned = turned c in
    let found : refusal_in c.check_reply.result ≡ against handed c.args.h (part_at handed c.args.h c.args.place (raised_to c.args.h)) = rw (← turned, ← c.vote_decides-due.ensures, ← c.vote_in_turn-turn.ensures, ← c.all_spent-spent.ensures) c.check_reply.ensures in
    found ∙ alike handed c.args.h c.args.place _

same : (h : MessageHead) (t u : Turn) → t ≡ u → vote_step t h.from h.argument ≡ vote_step u h.from h.argument
same h t u e = rw e

-- where nothing is against it, a vote that decides can be sent to all
sends : (s : Site) (h : MessageHead) (place room k : ℕ) (t : Turn) → t ≡ part_at s h place k → site_ok s ≡ true → sizes.outgoing ≤ room
    → against s h (part s h place) ≡ 0 → vote_decides t.counters.own t.sub.course h.from h.argument ≡ true → CanSendAll t room
unfolding raise arrived
sends s h place room k t e v l z d =
    let o = valid_own s v in
    let low = counts_low_lem _ _ _ (not-false _ (not_both _ _ (reply_clear _ _ z).low (rw e at d))) in
    rw e (record { long = l; first = o.0; last = o.1; low = low })

own_same : (s : Site) (h : MessageHead) (place k : ℕ) (t : Turn) → t ≡ part_at s h place k → site_ok s ≡ true
    → (1 ≤ t.counters.own) × (t.counters.own ≤ sizes.sites)
unfolding raise arrived
own_same s h place k t e v = rw e (valid_own s v)

pub arrived-first-requires : goal.arrived-first-requires
arrived-first-requires c = arrives c.requires.held

pub vote_in_turn-turn-requires : goal.vote_in_turn-turn-requires
vote_in_turn-turn-requires c =
    let a = c.requires.held.arriving in
    (a.first, a.last)

pub vote_decides-due-requires : goal.vote_decides-due-requires
vote_decides-due-requires c =
    let handed : Site = let a = c.args in site_of a.p a.live.now a.history.now in
    let held = c.requires.held in
    record { le_from = (held.arriving.first, held.arriving.last); le_own = valid_own handed held.possible }

pub returns-in-Err : goal.returns-in-Err
unfolding take_vote
returns-in-Err c =
    let first = first (goal.at.returns-in-Err c).After-check_reply in
    let told = rw c.in-Err.is at first in
    let n = stopped c.in-Err.cause _ refl in
    record { replied = rw (← told, n) (c.refused_by.ensures _ _ []); out_after = rw (← told, n) (overlay_none c.args.out.now) }

pub vote_step-a-requires : goal.vote_step-a-requires
vote_step-a-requires c =
    let handed : Site = let a = c.args in site_of a.p a.live.now a.history.now in
    let turned = turned (goal.at.vote_step-a-requires c).After-check_reply in
    let first = first (goal.at.vote_step-a-requires c).After-check_reply in
    let a = c.args in
    let held = c.requires.held in
    let z = sym (found_none _ _ c.in_default.not-Err first) in
    record { can_send_all = sends handed a.h a.place _ _ _ turned held.possible c.requires.outgoing_in_bounds z; le_site = ((held.arriving.first, held.arriving.last), own_same handed a.h a.place _ _ turned held.possible) }

pub settled-requires : goal.settled-requires
settled-requires c = settles c.requires.held

pub returns : goal.returns
unfolding take_vote
returns c =
    let handed : Site = let a = c.args in site_of a.p a.live.now a.history.now in
    let turned = turned (goal.at.returns c).After-check_reply in
    let first = first (goal.at.returns c).After-check_reply in
    let a = c.args in
    let none = found_none _ _ c.in_default.not-Err first in
    let change = vote_step (part handed a.h a.place) a.h.from a.h.argument in
    let q = same a.h _ _ turned in
    record { replied = rw (← none) (c.settled.ensures change (c.vote_step-a.ensures.value ∙ ap taken_of q) a.history.now []); out_after = rw (← none) (c.vote_step-a.ensures.out_after ∙ ap (λ x. overlay a.out.now x.words) q) }
