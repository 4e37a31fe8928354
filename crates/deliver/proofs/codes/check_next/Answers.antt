-- Each return is the first cause, or none.
use Prim.Native.Nat.{◌+◌}
use borrow.Author.Tests.{eq-eqb, ne_eqb}
use mathlib.Core.Path.{◌≡◌}
use native.Mathlib.Omega.{arith}
use Rattle.rules.specs.CallLaws.{pred_is}
use Rattle.rules.specs.Deliver.{next_code}
use Rattle.deliver.proofs.codes.check_next.Goals.{then-channel-eq0-via-then-channel-eq0, then-channel-eq0-via-else-channel-eq0+then-channel-taken}
use Rattle.deliver.proofs.codes.check_next.Goals as goal

pub returns-then-to-own : goal.returns-then-to-own
unfolding next_code
returns-then-to-own c = simp (ne_eqb c.args.to c.args.own c.if-to-own.true)

pub returns-then-channel-eq0 : goal.returns-then-channel-eq0
unfolding next_code
returns-then-channel-eq0 c =
    let a = c.args in
    let here = eq-eqb a.to a.own c.if-to-own.false in
    elim c.then-channel-eq0.branch [
      | then-channel-eq0-via-then-channel-eq0 w ↦
          simp (here, ne_eqb a.channel (a.taken + 1) (λ e. omega (arith, e, w.if-channel-eq0.true)))
      | then-channel-eq0-via-else-channel-eq0+then-channel-taken w ↦
          simp (here, ne_eqb a.channel (a.taken + 1) (λ e. w.if-channel-taken.true (omega (arith, e))))
    ]

pub returns : goal.returns
unfolding next_code
returns c =
    let a = c.args in
    let q : a.channel ≡ a.taken + 1 = pred_is a.channel a.taken c.if-channel-eq0.false c.if-channel-taken.false in
    simp (eq-eqb a.to a.own c.if-to-own.false, eq-eqb a.channel (a.taken + 1) q)
