-- Q12.1: values in words behind one another: they are as many words as they should be, and are read back from these words.
use Rattle.std.specs.Prelude.{ℕ, ◌+◌, ◌*◌, ◌<◌, ◌≡◌, refl, List, get_or, length}
use Rattle.std.proofs.Common.{◌∙◌, arith}
use Rattle.kinds.specs.Sizes as sizes
use Rattle.kinds.specs.Word as word
use Rattle.kinds.specs.State.{fresh}
use Rattle.kinds.specs.declared.Value.{Value}
use Rattle.rules.specs.Value.{value_words, value_at}
use Rattle.rules.specs.ValueLaws.{words_size, value_back}
use Rattle.lent.specs.Rows.{rows, rows_at, rows_same, rows_read, flat, flat_length, flat_at, flat_rows}
use Rattle.lent.specs.Layout.{words_from, values_from}

-- One value: it is what its words are.
value_same : (w v : List ℕ) (o k : ℕ) → ((j : ℕ) → j < sizes.value → get_or w (o + j) 0 ≡ get_or v (k + j) 0) → value_at w o ≡ value_at v k
unfolding value_at
value_same w v o k p = rw (p word.value_start (omega arith), p word.value_length (omega arith))

value_words_lem : (w : List ℕ) (o : ℕ) → value_words (value_at w o) ≡ rows (λ j. get_or w (o + j) 0) sizes.value
unfolding value_words value_at rows
value_words_lem w o = refl

-- Value i of n from word o on.
pub values_at : (w : List ℕ) (o n i : ℕ) → i < n → get_or (values_from w o n) i fresh ≡ value_at w (o + sizes.value * i)
unfolding values_from
values_at w o n i h = rows_at (λ i. value_at w (o + sizes.value * i)) n i fresh h

-- Values are the same where their words are.
pub values_same : (w v : List ℕ) (o k n : ℕ) → ((j : ℕ) → j < sizes.value * n → get_or w (o + j) 0 ≡ get_or v (k + j) 0)
    → values_from w o n ≡ values_from v k n
unfolding values_from
values_same w v o k n p =
    rows_same _ _ n (λ i h. value_same w v (o + sizes.value * i) (k + sizes.value * i) (λ j l.
    let here : o + (sizes.value * i + j) ≡ o + sizes.value * i + j = omega arith in
    let there : k + (sizes.value * i + j) ≡ k + sizes.value * i + j = omega arith in
    rw (here, there) at (p (sizes.value * i + j) (omega arith))))

-- The words of values.
pub values_long : (vs : List Value) → length (flat value_words vs) ≡ sizes.value * length vs
values_long vs = flat_length value_words sizes.value words_size vs

-- of those that are read from words
pub values_words : (w : List ℕ) (o n : ℕ) → flat value_words (values_from w o n) ≡ words_from w o (sizes.value * n)
unfolding values_from words_from
values_words w o n =
    flat_rows value_words (λ i. value_at w (o + sizes.value * i)) (λ j. get_or w (o + j) 0) sizes.value n
    (λ i h. value_words_lem w (o + sizes.value * i) ∙ rows_same _ _ sizes.value (λ j l.
    let e : o + sizes.value * i + j ≡ o + (sizes.value * i + j) = omega arith in rw e))

-- where they stand, these values are read
pub values_back : (w : List ℕ) (vs : List Value) (o n : ℕ) → length vs ≡ n
    → ((j : ℕ) → j < sizes.value * n → get_or w (o + j) 0 ≡ get_or (flat value_words vs) j 0) → values_from w o n ≡ vs
unfolding values_from
values_back w vs o n e p =
    rows_same _ (λ i. get_or vs i fresh) n (λ i h.
    value_same w (value_words (get_or vs i fresh)) (o + sizes.value * i) 0 (λ j l.
    let here : o + (sizes.value * i + j) ≡ o + sizes.value * i + j = omega arith in
    let there : 0 + j ≡ j = omega arith in
    rw (← here, there)
    (p (sizes.value * i + j) (omega arith) ∙ flat_at value_words sizes.value words_size vs i j fresh (omega arith) l))
    ∙ value_back (get_or vs i fresh))
    ∙ rows_read vs n fresh e
