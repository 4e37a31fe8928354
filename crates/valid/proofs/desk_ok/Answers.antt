-- The desk, and the count of keys written against the desk's limit.
use Rattle.std.proofs.Common.{sym, ◌∙◌}
use Rattle.laws.specs.Choice.{pick_self}
use Rattle.rules.specs.Valid.{desk_ok}
use Rattle.lent.specs.Layout.{keys_from}
use Rattle.valid.proofs.desk_ok.Goals as goal

pub returns-then-is_desk : goal.returns-then-is_desk
unfolding desk_ok keys_from
returns-then-is_desk c = simp (sym c.is_desk.ensures ∙ c.if-is_desk.true, ← c.write_limit.ensures, pick_self)

pub returns-else-is_desk : goal.returns-else-is_desk
unfolding desk_ok
returns-else-is_desk c = c.if-is_desk.false ∙ simp (sym c.is_desk.ensures ∙ c.if-is_desk.false)
