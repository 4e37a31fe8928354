-- The ends, passed, are sites of the house.
use mathlib.Core.Bool.{true}
use mathlib.Core.Path.{◌≡◌, sym, ◌∙◌}
use native.Mathlib.Omega.{arith}
use Rattle.rules.specs.Message.{ends_ok}
use Rattle.rules.specs.MessageLaws.{ends_clear, site_clear}
use Rattle.messages.proofs.head.head_ok.Goals as goal
use Rattle.messages.proofs.head.head_ok.Goals.{then-ends_ok, else-ends_ok}

pub argument_ok-requires : goal.argument_ok-requires
argument_ok-requires c =
    let a = c.args in
    let passed : ends_ok a.o a.h ≡ true = elim c.if-ends_ok.branch [
      | then-ends_ok w ↦ sym c.ends_ok.ensures ∙ w.if-ends_ok.true
      | else-ends_ok w ↦ cc
    ] in
    let k = ends_clear a.o a.h passed in
    let f = site_clear a.o a.h.from k.from in
    let t = site_clear a.o a.h.to k.to in
    omega arith
