-- Where the check finds no cause, the offset does not pass the last.
use mathlib.Core.Path.{refl, sym}
use native.Mathlib.Omega.{arith}
use borrow.Author.Tests.{ltb-false}
use Rattle.laws.specs.Cause.{clear_at}
use Rattle.rules.specs.Page.{offset_causes, offset_code}
use Rattle.bookmarks.proofs.offset.Goals as goal

pub overflow_mul-result : goal.overflow_mul-result
unfolding offset_code
overflow_mul-result c =
    let a = c.args in
    let few = ltb-false _ _ (clear_at (offset_causes a.size a.page a.rest) 2 refl (sym c.in-Ok.ensures)) in
    record { fits = omega arith }

pub overflow_add-result : goal.overflow_add-result
unfolding offset_code
overflow_add-result c =
    let a = c.args in
    let few = ltb-false _ _ (clear_at (offset_causes a.size a.page a.rest) 2 refl (sym c.in-Ok.ensures)) in
    record { fits = omega arith }
