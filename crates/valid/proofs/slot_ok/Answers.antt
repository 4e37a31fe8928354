-- The mask, the keys, and the transaction where the slot is in use.
use Rattle.std.proofs.Common.{sym, ◌∙◌}
use Rattle.laws.specs.Choice.{pick_self}
use Rattle.rules.specs.Valid.{slot_ok}
use Rattle.lent.specs.Layout.{entry_from}
use Rattle.valid.proofs.slot_ok.Goals as goal

pub returns-then-not-is_mask : goal.returns-then-not-is_mask
unfolding slot_ok entry_from
returns-then-not-is_mask c = simp (sym c.is_mask.ensures ∙ c.if-not-is_mask.true)

pub returns-then-not-keys_ok_in : goal.returns-then-not-keys_ok_in
unfolding slot_ok entry_from
returns-then-not-keys_ok_in c =
    simp (
      sym c.is_mask.ensures ∙ c.if-not-is_mask.false,
      sym (c.keys_ok_in.ensures _ _ c.requires.0.range) ∙ c.if-not-keys_ok_in.true,
    )

pub returns-then-not-used : goal.returns-then-not-used
unfolding slot_ok entry_from
returns-then-not-used c =
    simp (
      sym c.is_mask.ensures ∙ c.if-not-is_mask.false,
      sym (c.keys_ok_in.ensures _ _ c.requires.0.range) ∙ c.if-not-keys_ok_in.false,
      c.if-not-used.true,
    )

pub returns-else-not-used : goal.returns-else-not-used
unfolding slot_ok entry_from
returns-else-not-used c =
    simp (
      sym c.is_mask.ensures ∙ c.if-not-is_mask.false,
      sym (c.keys_ok_in.ensures _ _ c.requires.0.range) ∙ c.if-not-keys_ok_in.false,
      c.if-not-used.false,
      ← c.is_tx.ensures,
    )
    (sym (pick_self c.is_tx.result))
