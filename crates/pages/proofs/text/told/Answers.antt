-- A number more is laid behind the others.
use Prim.Native.Nat.{ℕ, ◌+◌, ◌<◌}
use mathlib.Core.Path.{◌≡◌, ap, ◌∙◌, sym}
use mathlib.Core.List.{List, [], ◌∷◌, ◌++◌, append_assoc}
use native.Mathlib.Omega.{arith}
use Rattle.std.proofs.Common.{length, take, get_or}
use Rattle.std.proofs.lemmas.List.{append-nil, take_more}
use Rattle.pages.specs.Line.{results_of}
use Rattle.pages.proofs.Behind.{laid_behind}
use Rattle.pages.proofs.Digits.{results_behind}
use Rattle.pages.proofs.text.told.Goals as goal

-- the results of one number more
more : (word ns : List ℕ) (i : ℕ) → i < length ns
    → (word ++ results_of (take i ns)) ++ results_of (get_or ns i 0 ∷ []) ≡ word ++ results_of (take (i + 1) ns)
more word ns i low =
    append_assoc word (results_of (take i ns)) _
    ∙ ap (λ x. word ++ x) (results_behind (take i ns) (get_or ns i 0 ∷ []) ∙ ap results_of (sym (take_more ns i 0 low)))

pub loop-n-init : goal.loop-n-init
unfolding results_of
loop-n-init c = (rw append-nil c.put-end.ensures, omega (arith, c.put-end.ensures.ends))

pub loop-n-preserved : goal.loop-n-preserved
loop-n-preserved c =
    let a = c.args in
    let l = c.loop-n in
    let laid = laid_behind l.invariant.0 c.number-end.ensures.laid in
    (rw (← more a.word.now a.numbers.now l.n-index c.loop-n-test.true) laid, omega (arith, l.invariant.1, c.number-end.ensures.upper_bound))
