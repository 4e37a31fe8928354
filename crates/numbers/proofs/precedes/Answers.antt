-- By number, then by coordinator: the four tests that the library's order of pairs asks.
use Rattle.std.proofs.Common.{◌≡◌, Bool, true, false, cond, refl, ltb, eqb, ◌∙◌}
use Rattle.std.specs.Prelude.{Some}
use Rattle.std.specs.Ordering.{is_lt, is_some_and, partial_ordering_then}
use Rattle.std.specs.declared.cmp.Ordering.TheVariants.{Less, Equal, Greater}
use Rattle.laws.specs.Choice.{pick}
use Rattle.laws.specs.Pair.{precedes}
use Rattle.numbers.proofs.precedes.Goals as goal

in_order : (a b x y : Bool)
    → is_some_and is_lt (partial_ordering_then (Some (cond a Less (cond b Equal Greater))) (Some (cond x Less (cond y Equal Greater))))
    ≡ pick a true (pick b x false)
in_order true b x y = refl
in_order false false x y = refl
in_order false true true y = refl
in_order false true false true = refl
in_order false true false false = refl

pub returns : goal.returns
unfolding precedes
returns c =
    let a = c.args in
    c.lt.ensures ∙ in_order (ltb a.m a.n) (eqb a.m a.n) (ltb a.d a.c) (eqb a.d a.c)
