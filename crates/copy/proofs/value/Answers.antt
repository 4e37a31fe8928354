-- Where the check finds no cause, the value and the pair are read where they stand.
use mathlib.Core.Path.{sym}
use native.Mathlib.Omega.{arith}
use Rattle.rules.specs.CopyLaws.{value_ready}
use Rattle.copy.proofs.value.Goals as goal

pub overflow_mul-at : goal.overflow_mul-at
overflow_mul-at c = let r = value_ready c.args.copy.now c.args.key (sym c.in_default.ensures) in omega arith

pub overflow_add-at : goal.overflow_add-at
overflow_add-at c = let r = value_ready c.args.copy.now c.args.key (sym c.in_default.ensures) in omega arith

pub value_at-value-requires : goal.value_at-value-requires
value_at-value-requires c = let r = value_ready c.args.copy.now c.args.key (sym c.in_default.ensures) in omega arith

pub bounds-copy-0 : goal.bounds-copy-0
bounds-copy-0 c = let r = value_ready c.args.copy.now c.args.key (sym c.in_default.ensures) in omega arith

pub bounds-copy-1 : goal.bounds-copy-1
bounds-copy-1 c = let r = value_ready c.args.copy.now c.args.key (sym c.in_default.ensures) in omega arith
