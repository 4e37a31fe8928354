-- Refused, or the abandon of the transaction's part.
use Rattle.std.proofs.Common.{sym, []}
use Rattle.laws.specs.Overlay.{overlay_none}
use Rattle.rules.specs.CallLaws.{request_clear}
use Rattle.rules.specs.Commit.{abandon_of}
use Rattle.shell.proofs.Refusals.{stopped}
use Rattle.saves.proofs.abandon.abandon.Goals as goal

pub returns-in-Err : goal.returns-in-Err
unfolding abandon_of
returns-in-Err c =
    let a = c.args in
    let first = rw c.site_ok-ok.ensures at (c.in-Err.ensures.code a.live.now a.history.now) in
    rw (stopped c.in-Err.cause _ first, ← first)
    (record { replied = c.refused_by.ensures _ _ []; out_after = overlay_none a.out.now })

pub abandon_at-requires : goal.abandon_at-requires
abandon_at-requires c =
    let a = c.args in
    let none = rw c.site_ok-ok.ensures at (c.in-Ok.ensures.code a.live.now a.history.now) in
    let clear = request_clear _ _ _ _ (sym none) in
    (record { possible = clear.valid; low = rw (c.in-Ok.ensures.place a.live.now a.history.now) clear.held }, clear.long)

pub returns-in-Ok : goal.returns-in-Ok
unfolding abandon_of
returns-in-Ok c =
    let a = c.args in
    let none = rw c.site_ok-ok.ensures at (c.in-Ok.ensures.code a.live.now a.history.now) in
    rw (← none, ← c.in-Ok.ensures.place a.live.now a.history.now) c.abandon_at.ensures
