-- Refused, or the request's step taken and the part settled.
use Rattle.std.proofs.Common.{ℕ, ◌≡◌, ◌≤◌, sym, refl, true, List}
use Rattle.laws.specs.Overlay.{overlay_none}
use Rattle.kinds.specs.Sizes as sizes
use Rattle.kinds.specs.declared.Site.{Site}
use Rattle.kinds.specs.declared.Turn.{Turn}
use Rattle.rules.specs.CallLaws.{commit_clear}
use Rattle.rules.specs.Commit.{commit_change, commit_lists}
use Rattle.rules.specs.Course.{CanSendAll}
use Rattle.rules.specs.Effect.{changed, turn_at, unless}
use Rattle.rules.specs.Send.{counts_low_lem}
use Rattle.rules.specs.Valid.{site_ok}
use Rattle.rules.specs.ValidLaws.{valid_own}
use Rattle.lent.specs.Laws.{lent_lengths}
use Rattle.lent.specs.Lent.{site_of}
use Rattle.shell.proofs.Refusals.{refuses, passes}
use Rattle.saves.specs.AtPlace.{commit_at, commit_code_at}
use Rattle.saves.proofs.commit.commit_at.Goals as goal

-- the rule asks the turn's own course
by_turn : (s : Site) (lists : List ℕ) (place : ℕ) (t : Turn) → t ≡ turn_at s place
    → commit_at s lists place ≡ unless (commit_code_at t) s lists (changed s place (commit_change s place) (commit_lists s lists place))
unfolding turn_at
by_turn s lists place t e = rw e

owned : (s : Site) (place : ℕ) (t : Turn) → site_ok s ≡ true → t ≡ turn_at s place
    → (1 ≤ t.counters.own) × (t.counters.own ≤ sizes.sites)
unfolding turn_at
owned s place t v e = rw e (valid_own s v)

sendable : (s : Site) (place room : ℕ) (t : Turn) → site_ok s ≡ true → sizes.outgoing ≤ room → t ≡ turn_at s place
    → commit_code_at t ≡ 0 → CanSendAll (turn_at s place) room
unfolding turn_at
sendable s place room t v l e f =
    let own = valid_own s v in
    let g = rw e at f in
    record { long = l; first = own.0; last = own.1; low = counts_low_lem _ _ _ (commit_clear _ _ _ g).unspent }

pub turn_at-t-requires : goal.turn_at-t-requires
turn_at-t-requires c = ((lent_lengths _ _ _ c.requires.placed.possible).live, c.requires.placed.low)

pub check_commit-requires : goal.check_commit-requires
check_commit-requires c =
    let a = c.args in
    owned (site_of a.p a.live.now a.history.now) a.place _ c.requires.placed.possible (c.turn_at-t.ensures a.history.now)

pub returns-in-Err : goal.returns-in-Err
returns-in-Err c =
    let a = c.args in
    let s = site_of a.p a.live.now a.history.now in
    rw (by_turn s a.lists.now a.place _ (c.turn_at-t.ensures a.history.now), refuses _ _ s a.lists.now _ c.in-Err.ensures)
    (record { replied = c.refused_by.ensures _ _ a.lists.now; lists_after = refl; out_after = overlay_none a.out.now })

pub commit_step-a-requires : goal.commit_step-a-requires
commit_step-a-requires c =
    let a = c.args in
    let s = site_of a.p a.live.now a.history.now in
    let p = c.requires in
    let turned = c.turn_at-t.ensures a.history.now in
    record {
      placed = (p.placed, p.lists_len.0);
      can_send_all = sendable s a.place _ _ p.placed.possible p.lists_len.1 turned (sym c.in_default.ensures);
    }

pub settled-requires : goal.settled-requires
settled-requires c = ((lent_lengths _ _ _ c.requires.placed.possible).live, c.requires.placed.low)

pub returns : goal.returns
returns c =
    let a = c.args in
    let s = site_of a.p a.live.now a.history.now in
    let step = c.commit_step-a.ensures in
    rw (by_turn s a.lists.now a.place _ (c.turn_at-t.ensures a.history.now), passes _ s a.lists.now _ c.in_default.ensures)
    (record {
      replied = c.settled.ensures (commit_change s a.place) step.value a.history.now (commit_lists s a.lists.now a.place);
      lists_after = step.lists_after;
      out_after = step.out_after;
    })
