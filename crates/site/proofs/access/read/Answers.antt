-- Refused, or what a part reads.
use Rattle.std.proofs.Common.{sym, [], arith}
use Rattle.rules.specs.HouseLaws.{key_low}
use Rattle.rules.specs.Access.{read_of}
use Rattle.rules.specs.CallLaws.{access_clear}
use Rattle.rules.specs.ValidLaws.{valid_site}
use Rattle.lent.specs.Lent.{site_of}
use Rattle.shell.proofs.Refusals.{refuses}
use Rattle.site.proofs.access.read.Goals as goal

pub returns-in-Err : goal.returns-in-Err
unfolding read_of
returns-in-Err c = rw (refuses _ _ _ [] _ c.in-Err.ensures.code) (c.refused_by.ensures _ _ [])

pub read_at-requires : goal.read_at-requires
read_at-requires c =
    let a = c.args in
    let s = site_of a.p a.live.now a.history.now in
    let clear = access_clear _ _ _ _ _ _ _ (sym c.in-Ok.ensures.code) in
    let k = clear.key in
    let v = (valid_site s k.valid).house in
    let low = key_low s.house s.counters.own a.key (omega (arith, v.own_high, v.few_sites)) k.here in
    record { accessed = record { possible = k.valid; low = rw c.in-Ok.ensures.place clear.held }; base_len = (k.whole, low) }

pub returns-in-Ok : goal.returns-in-Ok
unfolding read_of
returns-in-Ok c = rw (← c.in-Ok.ensures.code, ← c.in-Ok.ensures.place) c.read_at.ensures
