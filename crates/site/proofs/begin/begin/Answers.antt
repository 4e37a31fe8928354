-- Refused, or the new part settled at the free place.
use Rattle.std.proofs.Common.{sym, [], arith}
use Rattle.rules.specs.Begin.{begin_clear, begin_of}
use Rattle.rules.specs.ValidLaws.{valid_site}
use Rattle.lent.specs.Laws.{lent_lengths}
use Rattle.lent.specs.Lent.{site_of}
use Rattle.shell.proofs.Refusals.{refuses}
use Rattle.site.proofs.begin.begin.Goals as goal

pub returns-in-Err : goal.returns-in-Err
unfolding begin_of
returns-in-Err c = rw (refuses _ _ _ [] _ c.in-Err.ensures.code) (c.refused_by.ensures _ _ [])

pub begun-requires : goal.begun-requires
begun-requires c =
    let a = c.args in
    let clear = begin_clear _ _ _ _ (sym c.in-Ok.ensures.code) in
    let v = (valid_site (site_of a.p a.live.now a.history.now) clear.valid).house in
    record { first = v.own_low; last = omega (arith, v.own_high, v.few_sites); low = clear.unspent }

pub settled-requires : goal.settled-requires
settled-requires c =
    let clear = begin_clear _ _ _ _ (sym c.in-Ok.ensures.code) in
    ((lent_lengths _ _ _ clear.valid).live, rw c.in-Ok.ensures.place clear.free)

pub returns-in-Ok : goal.returns-in-Ok
unfolding begin_of
returns-in-Ok c =
    let a = c.args in
    rw (← c.in-Ok.ensures.code, ← c.in-Ok.ensures.place)
    (c.settled.ensures _ (c.begun.ensures a.live.now a.history.now) a.history.now [])
