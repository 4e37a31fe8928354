-- Nothing is written for the part itself or for one that is not prepared, and one entry for another: its seat and its words.
use borrow.Author.Tests.{eq-eqb, ne_eqb}
use mathlib.Core.Path.{◌∙◌, sym}
use native.Mathlib.Omega.{arith}
use Rattle.laws.specs.Overlay.{overlay_none}
use Rattle.rules.specs.Certify.{prepared_words}
use Rattle.rules.specs.Live.{is_prepared}
use Rattle.lent.specs.Layout.{sub_from}
use Rattle.certify.proofs.list.write_prepared.Goals as goal
use Rattle.certify.proofs.list.write_prepared.Goals.{then-i-place-via-then-i-place}
use Rattle.certify.proofs.list.write_prepared.Goals.{then-i-place-via-else-i-place+then-not-is_prepared}

pub returns-then-i-place : goal.returns-then-i-place
unfolding prepared_words is_prepared sub_from
returns-then-i-place c =
    let at = c.args.i in
    let place = c.args.place in
    elim c.then-i-place.branch [
      | then-i-place-via-then-i-place w ↦
          let e = eq-eqb at place w.if-i-place.true in
          record { upper_bound = omega arith; fact = record { long = rw e; are = rw e (overlay_none _) } }
      | then-i-place-via-else-i-place+then-not-is_prepared w ↦
          let e = ne_eqb at place w.if-i-place.false in
          let f = sym w.is_prepared.ensures ∙ w.if-not-is_prepared.true in
          record { upper_bound = omega arith; fact = record { long = rw (e, f); are = rw (e, f) (overlay_none _) } }
    ]

pub write_concurrent-requires : goal.write_concurrent-requires
write_concurrent-requires c =
    let pre = c.requires in
    record { room = pre.room; few_own = pre.few_own; few_other = rw c.keys_at-keys.ensures pre.other.few }

pub returns : goal.returns
unfolding prepared_words sub_from is_prepared
returns c =
    let e = ne_eqb c.args.i c.args.place c.if-i-place.false in
    let f = sym c.is_prepared.ensures ∙ c.if-not-is_prepared.false in
    let are = rw c.keys_at-keys.ensures at c.write_concurrent.ensures in
    record { upper_bound = omega arith; fact = record { long = rw (e, f); are = rw (e, f) are } }
