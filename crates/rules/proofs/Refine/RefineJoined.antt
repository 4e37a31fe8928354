-- A join reads only the entries that it is told of.
use Prim.Native.Nat.{ℕ, zero, suc, ◌+◌, ◌*◌, ◌<◌}
use mathlib.Core.Path.{◌≡◌, refl, sym, ap, ◌∙◌}
use mathlib.Core.Bool.{Bool}
use mathlib.Core.List.{List, []}
use native.Mathlib.Omega.{arith}
use lib.Dec.{eqb}
use lib.ListN.{get_or, take}
use lib.Seq.{get_or-take}
use Rattle.laws.specs.Scan.{first_below, fold_below}
use Rattle.kinds.specs.Sizes as sizes
use Rattle.rules.specs.Join.{lesser_above, least_above, listed_of, join_tx, join_count, join_words, joined}

fold_agree : {A : Type 0} (f g : ℕ → A → A) (n : ℕ) (a : A) → ((i : ℕ) → i < n → (b : A) → f i b ≡ g i b)
    → fold_below f n a ≡ fold_below g n a
unfolding fold_below
fold_agree f g zero a e = refl
fold_agree f g (suc n) a e = e n (omega arith) (fold_below f n a) ∙ ap (g n) (fold_agree f g n a (λ i h b. e i (omega arith) b))

first_agree : (f g : ℕ → Bool) (n : ℕ) → ((i : ℕ) → f i ≡ g i) → first_below f n ≡ first_below g n
unfolding first_below
first_agree f g zero e = refl
first_agree f g (suc n) e = rw (e 0, first_agree (λ i. f (suc i)) (λ i. g (suc i)) n (λ i. e (suc i)))

module _ (es fs : List ℕ) (n : ℕ) (same : (i : ℕ) → i < sizes.entry * n → get_or es i 0 ≡ get_or fs i 0) where
  word_same : (i k : ℕ) → i < n → k < sizes.entry → get_or es (sizes.entry * i + k) 0 ≡ get_or fs (sizes.entry * i + k) 0
  word_same i k h l = same (sizes.entry * i + k) (omega arith)

  least_same : (last : ℕ) → least_above es last n ≡ least_above fs last n
  unfolding least_above
  least_same last = fold_agree _ _ n 0 (λ i h b. ap (lesser_above last b) (word_same i 0 h (omega arith)))

  tx_same : (k : ℕ) → join_tx es n k ≡ join_tx fs n k
  unfolding join_tx
  tx_same k = fold_agree _ _ k 0 (λ i h b. least_same b)

  listed_same : (t : ℕ) → listed_of es t n ≡ listed_of fs t n
  unfolding listed_of
  listed_same t =
      fold_agree _ _ n _
      (λ i h b. rw (word_same i 0 h (omega arith), word_same i 1 h (omega arith), word_same i 2 h (omega arith)))

  words_same : (k : ℕ) → join_words es n k ≡ join_words fs n k
  unfolding join_words
  words_same k =
      fold_agree _ _ k []
      (λ j h ws. rw (tx_same (suc j), listed_same (join_tx fs n (suc j))))

  count_same : join_count es n ≡ join_count fs n
  unfolding join_count
  count_same = first_agree _ _ n (λ k. ap (λ (t : ℕ). eqb t 0) (tx_same (suc k)))

  pub joined_same : joined es n ≡ joined fs n
  unfolding joined
  joined_same = ap (join_words es n) count_same ∙ words_same (join_count fs n)

pub joined_take : (es : List ℕ) (n : ℕ) → joined es n ≡ joined (take (sizes.entry * n) es) n
joined_take es n = joined_same es (take (sizes.entry * n) es) n (λ i h. sym (get_or-take (sizes.entry * n) es i 0 h))
