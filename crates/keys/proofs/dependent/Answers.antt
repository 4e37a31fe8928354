-- The first of the three searches that finds a key, or the last one's answer.
use Rattle.std.proofs.Common.{◌≡◌, true, false, sym, ◌∙◌}
use Rattle.laws.specs.Choice.{pick_self}
use Rattle.rules.specs.Keys.{dependent}
use Rattle.keys.proofs.dependent.Goals as goal
use Rattle.keys.proofs.dependent.Goals.{then-common_key, else-common_key}

pub returns-then-common_key-2 : goal.returns-then-common_key-2
unfolding dependent
returns-then-common_key-2 c =
    c.if-common_key-2.true
    ∙ elim c.if-common_key.branch [
      | then-common_key w ↦ simp (sym c.common_key.ensures ∙ w.if-common_key.true)
      | else-common_key w ↦ simp (
        sym c.common_key.ensures ∙ w.if-common_key.false,
        sym w.common_key-else-common_key.ensures ∙ sym w.value-is ∙ c.if-common_key-2.true,
      )
    ]

pub returns-else-common_key-2 : goal.returns-else-common_key-2
unfolding dependent
returns-else-common_key-2 c =
    elim c.if-common_key.branch [
      | then-common_key w ↦ let z : true ≡ false = sym w.if-common_key.true ∙ sym w.value-is ∙ c.if-common_key-2.false in cc
      | else-common_key w ↦ simp (
        sym c.common_key.ensures ∙ w.if-common_key.false,
        sym w.common_key-else-common_key.ensures ∙ sym w.value-is ∙ c.if-common_key-2.false,
        c.common_key-else-common_key-2.ensures,
        pick_self,
      )
    ]
