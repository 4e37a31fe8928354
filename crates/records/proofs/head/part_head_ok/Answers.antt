-- The site, passed, is one of the house.
use mathlib.Core.Bool.{true}
use mathlib.Core.Path.{◌≡◌, sym, ◌∙◌}
use Rattle.std.proofs.Common.{true≢false}
use native.Mathlib.Omega.{arith}
use borrow.Author.Tests.{ne_eqb}
use Rattle.rules.specs.House.{is_site}
use Rattle.rules.specs.MessageLaws.{site_clear}
use Rattle.records.proofs.head.part_head_ok.Goals as goal
use Rattle.records.proofs.head.part_head_ok.Goals.{then-r-eq-PART, else-r-eq-PART, then-is_site, else-is_site}

pub in_mask-requires : goal.in_mask-requires
in_mask-requires c =
    let a = c.args in
    let passed : is_site a.o a.r.site ≡ true = elim c.if-is_site.branch [
      | then-is_site v ↦ elim c.if-r-eq-PART.branch [
        | then-r-eq-PART w ↦ sym w.is_site.ensures ∙ sym w.value-is ∙ v.if-is_site.true
        | else-r-eq-PART w ↦ absurd (true≢false (sym v.if-is_site.true ∙ w.value-is ∙ ne_eqb _ _ w.if-r-eq-PART.false))
      ]
      | else-is_site v ↦ absurd (true≢false (sym c.if-pair_ok.true ∙ v.value-is ∙ v.if-is_site.false))
    ] in
    let k = site_clear a.o a.r.site passed in
    omega arith
