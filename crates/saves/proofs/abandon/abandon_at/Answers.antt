-- Refused, or ABORT sent and the part settled.
use Rattle.std.proofs.Common.{ℕ, ◌≡◌, ◌≤◌, sym, true, []}
use Rattle.laws.specs.Overlay.{overlay_none}
use Rattle.kinds.specs.Reason as reason
use Rattle.kinds.specs.Sizes as sizes
use Rattle.kinds.specs.declared.Site.{Site}
use Rattle.kinds.specs.declared.Turn.{Turn}
use Rattle.rules.specs.CallLaws.{abandon_clear}
use Rattle.rules.specs.Course.{CanSendAll, abort_step}
use Rattle.rules.specs.Effect.{changed, turn_at, unless}
use Rattle.rules.specs.Send.{counts_low_lem}
use Rattle.rules.specs.Valid.{site_ok}
use Rattle.rules.specs.ValidLaws.{valid_own}
use Rattle.lent.specs.Laws.{lent_lengths}
use Rattle.lent.specs.Lent.{site_of}
use Rattle.shell.proofs.Refusals.{refuses, passes}
use Rattle.saves.specs.AtPlace.{abandon_at, abandon_code_at}
use Rattle.saves.proofs.abandon.abandon_at.Goals as goal

-- the rule asks the turn's own course
by_turn : (s : Site) (place : ℕ) (t : Turn) → t ≡ turn_at s place
    → abandon_at s place ≡ unless (abandon_code_at t) s [] (changed s place (abort_step t reason.abandoned) [])
unfolding turn_at
by_turn s place t e = rw e

sendable : (s : Site) (place room : ℕ) (t : Turn) → site_ok s ≡ true → sizes.outgoing ≤ room → t ≡ turn_at s place
    → abandon_code_at t ≡ 0 → CanSendAll t room
unfolding turn_at
sendable s place room t v l e f =
    let own = valid_own s v in
    let g = rw e at f in
    rw e (record { long = l; first = own.0; last = own.1; low = counts_low_lem _ _ _ (abandon_clear _ _ g).unspent })

pub turn_at-t-requires : goal.turn_at-t-requires
turn_at-t-requires c = ((lent_lengths _ _ _ c.requires.0.possible).live, c.requires.0.low)

pub returns-in-Err : goal.returns-in-Err
returns-in-Err c =
    let a = c.args in
    let s = site_of a.p a.live.now a.history.now in
    rw (by_turn s a.place _ (c.turn_at-t.ensures a.history.now), refuses _ _ s [] _ c.in-Err.ensures)
    (record { replied = c.refused_by.ensures _ _ []; out_after = overlay_none a.out.now })

pub abort_step-a-requires : goal.abort_step-a-requires
abort_step-a-requires c =
    let a = c.args in
    let s = site_of a.p a.live.now a.history.now in
    sendable s a.place _ _ c.requires.0.possible c.requires.1 (c.turn_at-t.ensures a.history.now) (sym c.in_default.ensures)

pub settled-requires : goal.settled-requires
settled-requires c = ((lent_lengths _ _ _ c.requires.0.possible).live, c.requires.0.low)

pub returns : goal.returns
returns c =
    let a = c.args in
    let s = site_of a.p a.live.now a.history.now in
    let step = c.abort_step-a.ensures in
    rw (by_turn s a.place _ (c.turn_at-t.ensures a.history.now), passes _ s [] _ c.in_default.ensures)
    (record { replied = c.settled.ensures _ step.value a.history.now []; out_after = step.out_after })
