-- What stands in a book and what does not stand before what, by a test of the whole list.
use mathlib.Core.Path.{◌≡◌}
use mathlib.Core.Bool.{Bool, true, false}
use mathlib.Core.List.{List, [], ◌∷◌, ◌++◌}
use Rattle.laws.specs.Choice.{pick, pick_same}
use Rattle.rules.specs.World.{Member, here, there}
use Rattle.rules.specs.Claim.{Before}
use Rattle.rules.specs.Book.{Fact}

-- a fact that passes t, and one that passes f with one that passes t behind it
unfoldable pub passes : (Fact → Bool) → List Fact → Bool
passes t [] = false
passes t (x ∷ l) = pick (t x) true (passes t l)

unfoldable pub passes_before : (Fact → Bool) → (Fact → Bool) → List Fact → Bool
passes_before f t [] = false
passes_before f t (x ∷ l) = pick (pick (f x) (passes t l) false) true (passes_before f t l)

passes_is : (t : Fact → Bool) {y : Fact} {l : List Fact} → t y ≡ true → Member y l → passes t l ≡ true
unfolding passes
passes_is t e here = rw e
passes_is t e (there i) = rw (passes_is t e i, pick_same)

passes_behind : (t : Fact → Bool) {y : Fact} (p : List Fact) {q : List Fact} → t y ≡ true → Member y q → passes t (p ++ q) ≡ true
unfolding passes
passes_behind t [] e j = passes_is t e j
passes_behind t (x ∷ p) e j = rw (passes_behind t p e j, pick_same)

apart_before : (f t : Fact → Bool) {x y : Fact} {p : List Fact} (q : List Fact) → f x ≡ true → t y ≡ true → Member x p → Member y q
    → passes_before f t (p ++ q) ≡ true
unfolding passes_before
apart_before f t {p = x ∷ p} q e d here j = rw (e, passes_behind t p d j)
apart_before f t q e d (there i) j = rw (apart_before f t q e d i j, pick_same)

pub before_passes : (f t : Fact → Bool) {x y : Fact} {b : List Fact} → f x ≡ true → t y ≡ true → Before x y b → passes_before f t b ≡ true
before_passes f t e d h = rw h.split (apart_before f t h.rest e d h.first h.second)
