-- Refused, or the request of the transaction's part.
use Rattle.std.proofs.Common.{sym, refl}
use Rattle.laws.specs.Overlay.{overlay_none}
use Rattle.rules.specs.CallLaws.{request_clear}
use Rattle.rules.specs.Commit.{commit_of}
use Rattle.rules.specs.ValidLaws.{handed_length, handed_site}
use Rattle.lent.specs.Lent.{site_of}
use Rattle.shell.proofs.Refusals.{stopped}
use Rattle.saves.proofs.commit.commit.Goals as goal

pub returns-in-Err : goal.returns-in-Err
unfolding commit_of
returns-in-Err c =
    let a = c.args in
    let first = rw c.handed_ok-ok.ensures at (c.in-Err.ensures.code a.live.now a.history.now) in
    rw (stopped c.in-Err.cause _ first, ← first)
    (record { replied = c.refused_by.ensures _ _ a.lists.now; lists_after = refl; out_after = overlay_none a.out.now })

pub commit_at-requires : goal.commit_at-requires
commit_at-requires c =
    let a = c.args in
    let s = site_of a.p a.live.now a.history.now in
    let none = rw c.handed_ok-ok.ensures at (c.in-Ok.ensures.code a.live.now a.history.now) in
    let clear = request_clear _ _ _ _ (sym none) in
    record {
      placed =
          record {
            possible = handed_site s a.lists.now clear.valid;
            low = rw (c.in-Ok.ensures.place a.live.now a.history.now) clear.held;
          };
      lists_len = (handed_length s a.lists.now clear.valid, clear.long);
    }

pub returns-in-Ok : goal.returns-in-Ok
unfolding commit_of
returns-in-Ok c =
    let a = c.args in
    let none = rw c.handed_ok-ok.ensures at (c.in-Ok.ensures.code a.live.now a.history.now) in
    rw (← none, ← c.in-Ok.ensures.place a.live.now a.history.now) c.commit_at.ensures
