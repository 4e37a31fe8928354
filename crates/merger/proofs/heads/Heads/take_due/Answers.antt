-- Every site of a due head's mask has a part queued. What is handed back is the due pair, or the cause with the order as it was.
use Rattle.std.proofs.Common.{sym}
use Rattle.merger.specs.Order.{code_in, due_of}
use Rattle.rules.specs.MergerLaws.{due_queued}
use Rattle.merger.proofs.Causes.{refused_by, passed_by}
use Rattle.merger.proofs.heads.Heads.take_due.Goals as goal

pub without-requires-clause-queued : goal.without-requires-clause-queued
unfolding code_in
without-requires-clause-queued c =
    rw c.in-Ok.ensures.head (due_queued _ _ _ (sym c.in-Ok.ensures.code))

pub returns-in-Ok : goal.returns-in-Ok
unfolding due_of
returns-in-Ok c = rw (passed_by _ c.in-Ok.ensures.code, c.without.ensures, c.in-Ok.ensures.head)

pub returns-in-Err : goal.returns-in-Err
unfolding due_of
returns-in-Err c = rw (refused_by c.in-Err.cause _ c.in-Err.ensures.code, c.in-Err.ensures.code)
