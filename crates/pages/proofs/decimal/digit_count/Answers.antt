use native.Mathlib.Omega.{arith}
use borrow.Author.Rules.{rules}
use mathlib.Core.Path.{ap, ◌∙◌}
use Prim.Native.Nat.{ℕ, ◌/◌, ◌^◌, ◌-◌, ◌<◌, ◌≤◌, max}
use mathlib.Core.Path.{◌≡◌}
use Rattle.pages.specs.Digits.{IsDigitCount}
use Rattle.pages.proofs.Powers.{two-mul-div-le, div-pow-one, div-pow-div, pow-le_of_div_pos, lt-pow_of_div-zero}
use Rattle.pages.proofs.decimal.digit_count.Goals as goal

pub loop-rest-init : goal.loop-rest-init
loop-rest-init c =
    let a = c.args in
    (omega arith, omega (arith, two-mul-div-le a.n a.base c.requires.base), div-pow-one a.n a.base, omega arith)

pub loop-rest-smaller : goal.loop-rest-smaller
loop-rest-smaller c = omega (arith, two-mul-div-le c.loop-rest.rest c.args.base c.requires.base)

pub loop-rest-preserved : goal.loop-rest-preserved
loop-rest-preserved c =
    let l = c.loop-rest in
    let n = c.args.n in
    let b = c.args.base in (
      omega arith,
      omega (arith, two-mul-div-le l.rest b c.requires.base),
      ap (λ (m : ℕ). m / b) l.invariant.2 ∙ div-pow-div n b l.k,
      λ _. pow-le_of_div_pos n b l.k (omega arith) (omega arith),
    )

-- the digits are as many as were counted, or as asked for
wide : (n b k w m : ℕ) → m ≡ max k w → n / b ^ k < 1 → (1 < k → b ^ (k - 1) ≤ n) → 0 < b → 0 < w → IsDigitCount b w n m
wide n b k w m e none more base least =
    let long = lt-pow_of_div-zero n b k m base none (omega (arith, e)) in
    (omega (arith, e), long, λ h. let same : m ≡ k = omega (arith, e, h) in rw same (more (omega (arith, h, e, least))))

pub returns : goal.returns
returns c =
    let a = c.args in
    let l = c.loop-rest in
    let counted : c.max.result ≡ max l.k a.width = search rules in
    wide a.n a.base l.k a.width c.max.result counted (omega arith) l.invariant.3 (omega arith) (omega arith)
