-- Lists of entries: what is within a list is within a longer one, and each list is within itself.
use Prim.Native.Nat.{ℕ, ◌+◌, ◌*◌, ◌<◌}
use mathlib.Core.Path.{◌≡◌, refl, ◌∙◌}
use mathlib.Core.List.{List, ◌++◌}
use native.Mathlib.Omega.{arith}
use borrow.Author.Tests.{eqb-true, eq-eqb}
use lib.ListN.{length, get_or, length-append, get_or-append}
use lib.Seq.{get_or-append-add}
use Rattle.kinds.specs.Sizes as sizes
use Rattle.rules.specs.Message.{entry_mark, entry_count}
use Rattle.rules.proofs.Protocol.Protocol.{Whole, Within}

pub within_refl : (es : List ℕ) → Within es es
within_refl es j l z = (j, l, (refl, (λ r e. e), eqb-true (entry_mark es j) 1))

pub within_trans : (es fs gs : List ℕ) → Within es fs → Within fs gs → Within es gs
within_trans es fs gs f g j l z =
    let (k, m, (t, a, d)) = f j l z in
    let (n, o, (u, b, e)) = g k m (omega arith) in
    (n, o, (u ∙ t, (λ r x. b r (a r x)), λ x. e (eq-eqb (entry_mark fs k) 1 (d x))))

-- One list behind another.
pub whole_append : (es fs : List ℕ) → Whole es → Whole fs → Whole (es ++ fs)
unfolding entry_count
whole_append es fs x y = omega (arith, length-append es fs)

word_left : (es fs : List ℕ) → Whole es → (j : ℕ) → j < entry_count es → (k : ℕ) → k < sizes.entry
    → get_or (es ++ fs) (sizes.entry * j + k) 0 ≡ get_or es (sizes.entry * j + k) 0
word_left es fs w j l k m = get_or-append es fs 0 (sizes.entry * j + k) (omega arith)

word_right : (es fs : List ℕ) → Whole es → (j k : ℕ)
    → get_or (es ++ fs) (sizes.entry * (entry_count es + j) + k) 0 ≡ get_or fs (sizes.entry * j + k) 0
word_right es fs w j k =
    let q : sizes.entry * (entry_count es + j) + k ≡ length es + (sizes.entry * j + k) = omega arith in
    rw q (get_or-append-add es fs (sizes.entry * j + k) 0)

count_append : (es fs : List ℕ) → Whole es → entry_count (es ++ fs) ≡ entry_count es + entry_count fs
unfolding entry_count
count_append es fs w = omega (arith, length-append es fs)

pub within_left : (l es fs : List ℕ) → Whole es → Within l es → Within l (es ++ fs)
within_left l es fs w f j h z =
    let (k, m, (t, a, d)) = f j h z in
    let e = word_left es fs w k m in (
      k,
      omega (arith, m, count_append es fs w),
      (e 0 (omega arith) ∙ t, (λ r x. rw (e 1 (omega arith)) (a r x)), λ x. e 2 (omega arith) ∙ d x),
    )

pub within_right : (es fs : List ℕ) → Whole es → Within fs (es ++ fs)
within_right es fs w j h z =
    let e = word_right es fs w j in (
      entry_count es + j,
      omega (arith, count_append es fs w),
      (e 0, (λ r x. rw (e 1) x), λ x. e 2 ∙ eqb-true (entry_mark fs j) 1 x),
    )
