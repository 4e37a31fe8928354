-- Refused, or what a part writes.
use Rattle.std.proofs.Common.{sym, []}
use Rattle.rules.specs.Access.{write_of}
use Rattle.rules.specs.CallLaws.{access_clear}
use Rattle.shell.proofs.Refusals.{refuses}
use Rattle.site.proofs.access.write.Goals as goal

pub returns-in-Err : goal.returns-in-Err
unfolding write_of
returns-in-Err c = rw (refuses _ _ _ [] _ c.in-Err.ensures.code) (c.refused_by.ensures _ _ [])

pub write_at-requires : goal.write_at-requires
write_at-requires c =
    let clear = access_clear _ _ _ _ _ _ _ (sym c.in-Ok.ensures.code) in
    record { possible = clear.key.valid; low = rw c.in-Ok.ensures.place clear.held }

pub returns-in-Ok : goal.returns-in-Ok
unfolding write_of
returns-in-Ok c = rw (← c.in-Ok.ensures.code, ← c.in-Ok.ensures.place) c.write_at.ensures
