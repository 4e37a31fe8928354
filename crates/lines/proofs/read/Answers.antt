-- A byte that is no newline is one step more.
use Rattle.std.proofs.Common.{arith}
use Rattle.lines.specs.Line.{no_newline_more, no_newline_none, read_more, read_none, scan_of}
use Rattle.lines.proofs.read.Goals as goal

pub loop-i-init : goal.loop-i-init
loop-i-init c =
    let a = c.args in
    (omega arith, read_none a.text.now a.from _, no_newline_none a.text.now a.from)

pub loop-i-preserved : goal.loop-i-preserved
loop-i-preserved c =
    let a = c.args in
    let l = c.loop-i in (
      omega arith,
      read_more a.text.now a.from l.i _ (scan_of l.p l.words) _ l.invariant.0 l.invariant.1 c.step-p.ensures,
      no_newline_more a.text.now a.from l.i l.invariant.0 l.invariant.2 c.if-b-eq-NEWLINE.false,
    )
