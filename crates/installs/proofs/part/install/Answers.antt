-- Refused, or the queue's least installed.
use Rattle.std.proofs.Common.{sym, refl}
use Rattle.laws.specs.Overlay.{overlay_none}
use Rattle.rules.specs.CallLaws.{install_clear}
use Rattle.rules.specs.Install.{install_of}
use Rattle.rules.specs.InstallLaws.{due_low}
use Rattle.shell.proofs.Refusals.{refuses}
use Rattle.installs.proofs.part.install.Goals as goal

pub returns-in-Err : goal.returns-in-Err
unfolding install_of
returns-in-Err c =
    let base = c.args.base.now in
    rw (refuses _ _ _ base _ c.in-Err.ensures.code)
    (record { replied = c.refused_by.ensures _ _ base; base_after = refl; out_after = overlay_none c.args.out.now })

pub install_at-requires : goal.install_at-requires
install_at-requires c =
    let clear = install_clear _ _ _ _ _ (sym c.in-Ok.ensures.code) in
    let low = due_low _ _ clear.least in
    record {
      installable = record { possible = clear.valid; low = rw c.in-Ok.ensures.place low; unspent = clear.unspent };
      base_len = (clear.whole, clear.long);
    }

pub returns-in-Ok : goal.returns-in-Ok
unfolding install_of
returns-in-Ok c = rw (← c.in-Ok.ensures.code, ← c.in-Ok.ensures.place) c.install_at.ensures
