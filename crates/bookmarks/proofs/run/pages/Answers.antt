-- Where the check finds no cause, a page has a length, and the buffer two words for each offset.
use mathlib.Core.Path.{refl, sym}
use native.Mathlib.Omega.{arith}
use borrow.Author.Tests.{eqb-true, eqb-false, not-false}
use lib.ListN.{length}
use Rattle.laws.specs.Cause.{clear_at}
use Rattle.rules.specs.Page.{pages_code, pages_causes}
use Rattle.bookmarks.proofs.run.pages.Goals as goal

pub put_places-requires : goal.put_places-requires
unfolding pages_code
put_places-requires c =
    let a = c.args in
    let causes = pages_causes a.size (length a.offsets.now) (length a.out.now) in
    let e = sym c.in_default.ensures in
    let some = eqb-false a.size 0 (clear_at causes 1 refl e) in
    (omega (arith, some), eqb-true _ _ (not-false _ (clear_at causes 0 refl e)))
