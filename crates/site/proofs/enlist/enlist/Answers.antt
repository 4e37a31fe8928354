-- Refused, or a participant more for the transaction's part.
use Rattle.std.proofs.Common.{sym, [], arith}
use Rattle.laws.specs.Overlay.{overlay_none}
use Rattle.rules.specs.CallLaws.{enlist_clear}
use Rattle.rules.specs.MessageLaws.{site_clear}
use Rattle.rules.specs.Enlist.{enlist_of}
use Rattle.rules.specs.ValidLaws.{valid_site}
use Rattle.lent.specs.Lent.{site_of}
use Rattle.shell.proofs.Refusals.{refuses}
use Rattle.site.proofs.enlist.enlist.Goals as goal

pub returns-in-Err : goal.returns-in-Err
unfolding enlist_of
returns-in-Err c =
    rw (refuses _ _ _ [] _ c.in-Err.ensures.code)
    (record { replied = c.refused_by.ensures _ _ []; out_after = overlay_none c.args.out.now })

pub enlist_at-requires : goal.enlist_at-requires
enlist_at-requires c =
    let a = c.args in
    let s = site_of a.p a.live.now a.history.now in
    let clear = enlist_clear _ _ _ _ _ (sym c.in-Ok.ensures.code) in
    let v = (valid_site s clear.valid).house in
    let k = site_clear s.house a.site clear.site in
    record {
      accessed = record { possible = clear.valid; low = rw c.in-Ok.ensures.place clear.held };
      sendable = record { first = k.low; last = omega (arith, k.high, v.few_sites); long = clear.long };
    }

pub returns-in-Ok : goal.returns-in-Ok
unfolding enlist_of
returns-in-Ok c = rw (← c.in-Ok.ensures.code, ← c.in-Ok.ensures.place) c.enlist_at.ensures
