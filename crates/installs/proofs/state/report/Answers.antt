-- Refused, or the state number in its record.
use Rattle.std.proofs.Common.{sym, []}
use Rattle.laws.specs.Overlay.{overlay_none}
use Rattle.rules.specs.CallLaws.{report_clear}
use Rattle.rules.specs.Install.{report_of}
use Rattle.lent.specs.Laws.{lent_lengths}
use Rattle.shell.proofs.Refusals.{refuses}
use Rattle.installs.proofs.state.report.Goals as goal

pub returns-in-Err : goal.returns-in-Err
unfolding report_of
returns-in-Err c =
    rw (refuses _ _ _ [] _ c.in-Err.ensures)
    (record { replied = c.refused_by.ensures _ _ []; out_after = overlay_none c.args.out.now })

pub state_number-state-requires : goal.state_number-state-requires
state_number-state-requires c =
    (lent_lengths c.args.p _ c.args.history.now (report_clear _ _ (sym c.in_default.ensures)).valid).live

pub write_state-words-requires : goal.write_state-words-requires
write_state-words-requires c = (report_clear _ _ (sym c.in_default.ensures)).long

pub returns : goal.returns
unfolding report_of
returns c =
    let w = c.write_state-words.ensures in
    rw (← c.in_default.ensures, ← c.state_number-state.ensures)
    (record { replied = c.unaltered.ensures _ w.0 _ _ []; out_after = w.1 })
