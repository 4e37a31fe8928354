-- The place of a key, where there is one, and a key that two lists share: by what the searches of their first keys answer.
use Rattle.std.proofs.Common.{◌≡◌, ℕ, zero, suc, ◌-◌, ◌<◌, ◌≤◌, Bool, Option, None, Some, List, length, take, drop, get_or, unwrap_or}
use Rattle.std.proofs.Common.{refl, sym, ◌∙◌, arith, eqb, ne_eqb, ltb, lt-ltb, le-ltb}
use Rattle.std.specs.Prelude.{IfSome, IsSome, is_some}
use Rattle.std.proofs.lemmas.List.{get_or-take, get_or-drop, length-take-le}
use Rattle.laws.specs.Choice.{by_same}
use Rattle.laws.specs.Scan.{first_below, any_below}
use Rattle.laws.specs.Overlay.{rest_is}
use Rattle.kinds.specs.Sizes as sizes
use Rattle.rules.specs.Keys.{key_place}
use Rattle.lent.specs.Layout.{words_from}
use Rattle.lent.specs.Read.{words_at}

first_same : (s t : ℕ → Bool) (n : ℕ) → ((i : ℕ) → i < n → s i ≡ t i) → first_below s n ≡ first_below t n
unfolding first_below
first_same s t zero p = refl
first_same s t (suc n) p =
    rw (p 0 (omega arith), first_same (λ i. s (suc i)) (λ i. t (suc i)) n (λ i h. p (suc i) (omega arith)))

any_same : (s t : ℕ → Bool) (n : ℕ) → ((i : ℕ) → i < n → s i ≡ t i) → any_below s n ≡ any_below t n
unfolding any_below
any_same s t zero p = refl
any_same s t (suc n) p = rw (p n (omega arith), any_same s t n (λ i h. p i (omega arith)))

-- keys that agree up to n have the same places
pub place_same : (a b : List ℕ) (n k : ℕ) → ((i : ℕ) → i < n → get_or a i 0 ≡ get_or b i 0) → key_place a n k ≡ key_place b n k
unfolding key_place
place_same a b n k p = first_same _ _ n (λ i h. rw (p i h))

-- a place among the first n, or none
pub some_below : (r : Option ℕ) (n m : ℕ) → IfSome r (λ i. i < n) → unwrap_or r n ≡ m → is_some r ≡ ltb m n
some_below None n m b e = sym (le-ltb m n (omega arith))
some_below (Some i) n m b e = sym (lt-ltb m n (omega arith))

pub some_place : (r : Option ℕ) (n m : ℕ) → unwrap_or r n ≡ m → m < n → IsSome r
some_place None n m e h = absurd (omega arith)
some_place (Some i) n m e h = refl

pub place_below : (r : Option ℕ) (n place : ℕ) → IfSome r (λ i. i < n) → r ≡ Some place → place < n
place_below r n place b e = rw e at b

-- the first n keys of a list by themselves
pub first_taken : (keys : List ℕ) (n k : ℕ) (r : Option ℕ) → n ≤ length keys
    → unwrap_or r (length (take n keys)) ≡ first_below (λ i. eqb (get_or (take n keys) i 0) k) (length (take n keys))
    → unwrap_or r n ≡ key_place keys n k
unfolding key_place
first_taken keys n k r h e =
    let long : length (take n keys) ≡ n = length-take-le n keys h in
    rw long at e ∙ first_same _ _ n (λ i l. rw (get_or-take n keys i 0 l))

eqb_turned : (i j : ℕ) → eqb i j ≡ eqb j i
eqb_turned i j =
    by_same i j (λ e. rw e) (λ n. ne_eqb i j n ∙ sym (ne_eqb j i (λ e. n (sym e))))

-- a key that is among the first m
pub any_taken : (keys : List ℕ) (m k : ℕ) (r : Bool) → m ≤ length keys
    → r ≡ any_below (λ i. eqb (get_or (take m keys) i 0) k) (length (take m keys)) → r ≡ any_below (λ i. eqb k (get_or keys i 0)) m
any_taken keys m k r h e =
    let long : length (take m keys) ≡ m = length-take-le m keys h in
    rw long at e ∙ any_same _ _ m (λ i l. rw (get_or-take m keys i 0 l) (eqb_turned (get_or keys i 0) k))

-- the words from `at` on, read as a list of keys
pub place_rest : (w : List ℕ) (at n k : ℕ) → n ≤ sizes.writes
    → key_place (take (length w - at) (drop at w)) n k ≡ key_place (words_from w at sizes.writes) n k
place_rest w at n k h =
    place_same _ _ n k (λ i l. rw (rest_is w at, get_or-drop at w i 0) (sym (words_at w at sizes.writes i (omega arith))))
