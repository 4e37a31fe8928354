-- Words of several places, one place behind the other: the words of one of them, and what a call that is lent these leaves of all.
use Rattle.std.specs.Prelude.{ℕ, ◌+◌, ◌-◌, ◌*◌, ◌≤◌, ◌<◌, ◌≡◌, List, ◌++◌, ltb, length, take, drop}
use Rattle.std.proofs.Common.{sym, ap, ◌∙◌, append_assoc, mul-le-mul_right, arith, ltb-true, ltb-false, length-append, length-take, length-drop, take-append-drop, length-take-le, take_at, drop_at, drop-drop}
use Rattle.std.proofs.Math.Seq.{drop-append_seam}
use Rattle.std.proofs.lemmas.List.{take-append-le, drop-append-le}
use Rattle.laws.specs.Choice.{by_test}
use Rattle.laws.specs.Overlay.{put_at}

-- the words of place i, where each place has k
unfoldable pub own : ℕ → ℕ → List ℕ → List ℕ
own k i l = take k (drop (i * k) l)

-- m is l with only the words of place i replaced
unfoldable pub Only : ℕ → ℕ → List ℕ → List ℕ → Type 0
Only k i l m = m ≡ put_at (i * k) l (own k i m)

-- what `&mut l[i * k..i * k + k]` lends, and what remains of the whole where v stands there afterwards
abbrev pub lent : ℕ → ℕ → List ℕ → List ℕ
lent k i l = take (i * k + k - i * k) (drop (i * k) l)

abbrev pub relaid : ℕ → ℕ → List ℕ → List ℕ → List ℕ
relaid k i l v = take (i * k) l ++ (v ++ drop (i * k + k - i * k) (drop (i * k) l))

pub lent_own : (k i : ℕ) (l : List ℕ) → lent k i l ≡ own k i l
unfolding own
lent_own k i l = let e : i * k + k - i * k ≡ k = omega arith in rw e

pub own_length : (k i : ℕ) (l : List ℕ) → i * k + k ≤ length l → length (own k i l) ≡ k
unfolding own
own_length k i l h = simp (length-take, length-drop) (omega arith)

pub relaid_own : (k i : ℕ) (l v : List ℕ) → i * k + k ≤ length l → length v ≡ k → own k i (relaid k i l v) ≡ v
unfolding own
relaid_own k i l v h e =
    rw (drop_at (take (i * k) l) (v ++ drop (i * k + k - i * k) (drop (i * k) l)) (i * k) (length-take-le (i * k) l (omega arith)))
    (take_at v _ k e)

pub relaid_only : (k i : ℕ) (l v : List ℕ) → i * k + k ≤ length l → length v ≡ k → Only k i l (relaid k i l v)
unfolding Only put_at
relaid_only k i l v h e =
    let f : i * k + (i * k + k - i * k) ≡ i * k + length v = omega arith in
    rw (relaid_own k i l v h e, drop-drop, f)

-- words that stay are those with the words of any place replaced by themselves
pub only_none : (k i : ℕ) (l : List ℕ) → Only k i l l
unfolding Only put_at own
only_none k i l =
    let rest = drop (i * k) l in
    let parted = drop-append_seam (take k rest) (drop k rest) in
    let seam = rw (take-append-drop k rest) at parted in
    sym (rw (← drop-drop (length (take k rest)) (i * k) l, seam, take-append-drop k rest) (take-append-drop (i * k) l))

-- a place ends where the next begins, or before
pub ends : (k i j : ℕ) → i < j → i * k + k ≤ j * k
ends k i j h =
    let m = mul-le-mul_right {m = i + 1} {n = j} k (omega arith) in
    let r : (i + 1) * k ≡ i * k + k = omega arith in
    omega (arith, m, r)

-- what a call leaves that was lent the words of place i, of n places, and made v of them
pub record Laid (k i : ℕ) (l v m : List ℕ) : Type 0 where
  pub here : own k i m ≡ v
  pub only : Only k i l m

pub laid : (k i n : ℕ) (l v : List ℕ) → i < n → length l ≡ n * k → length v ≡ length (lent k i l) → Laid k i l v (relaid k i l v)
laid k i n l v h e f =
    let inside : i * k + k ≤ length l = omega (arith, ends k i n h, e) in
    let many : length v ≡ k = f ∙ ap length (lent_own k i l) ∙ own_length k i l inside in
    record { here = relaid_own k i l v inside many; only = relaid_only k i l v inside many }

-- all n places have as many words as before
pub only_length : (k i n : ℕ) (l m : List ℕ) → i < n → length l ≡ n * k → Only k i l m → length m ≡ n * k
unfolding Only put_at own
only_length k i n l m h f e =
    let inside : i * k + k ≤ length l = omega (arith, ends k i n h, f) in
    let v = take k (drop (i * k) m) in
    let short : length v ≤ k = simp length-take (omega arith) in
    ap length e ∙ simp (length-append, length-take, length-drop) (omega arith)

-- A place before i, or behind it, has the words that it had.
front : (k i j : ℕ) (l x : List ℕ) → i * k ≤ length l → j < i → own k j (take (i * k) l ++ x) ≡ own k j (take (i * k) l)
unfolding own
front k i j l x h q =
    let n = length-take-le (i * k) l h in
    let b = ends k j i q in
    rw (drop-append-le (j * k) (take (i * k) l) x (omega arith))
    (take-append-le k (drop (j * k) (take (i * k) l)) x (simp length-drop (omega arith)))

before : (k i j : ℕ) (l v : List ℕ) → i * k ≤ length l → j < i → own k j (put_at (i * k) l v) ≡ own k j l
unfolding put_at
before k i j l v h q =
    front k i j l _ h q ∙ sym (front k i j l (drop (i * k) l) h q) ∙ ap (own k j) (take-append-drop (i * k) l)

past : (n d : ℕ) (f l : List ℕ) → length f ≡ n → drop (n + d) (f ++ drop n l) ≡ drop (n + d) l
past n d f l e = rw (← drop-drop d n (f ++ drop n l), ← drop-drop d n l, drop_at f (drop n l) n e)

behind : (k i j : ℕ) (l v : List ℕ) → i * k + k ≤ length l → length v ≡ k → i < j → own k j (put_at (i * k) l v) ≡ own k j l
unfolding own put_at
behind k i j l v h e q =
    let n = i * k + length v in
    let b = ends k i j q in
    let far : n + (j * k - n) ≡ j * k = omega arith in
    let laid : length (take (i * k) l ++ v) ≡ n = simp (length-append, length-take) (omega arith) in
    let same = past n (j * k - n) (take (i * k) l ++ v) l laid in
    ap (take k) (rw (far, append_assoc) at same)

-- every other place has the words that it had
pub only_elsewhere : (k i j n : ℕ) (l m : List ℕ) → i < n → length l ≡ n * k → Only k i l m → (j ≡ i → ⊥) → own k j m ≡ own k j l
unfolding Only
only_elsewhere k i j n l m h f e z =
    ap (own k j) e
    ∙ by_test (ltb j i)
    (λ y. before k i j l v (omega (arith, inside)) (ltb-true j i y))
    (λ y. behind k i j l v inside many (other (ltb-false j i y)))
  where
    v : List ℕ
    v = own k i m

    inside : i * k + k ≤ length l
    inside = omega (arith, ends k i n h, f)

    many : length v ≡ k
    many = own_length k i m (omega (arith, inside, f, only_length k i n l m h f e))

    other : i ≤ j → i < j
    other q = by_test (ltb i j) (λ t. ltb-true i j t) (λ t. absurd (z (omega (arith, ltb-false i j t))))
