-- Tables by index, and tables of rows laid behind one another in words.
use Prim.Native.Nat.{ℕ, zero, suc, ◌+◌, ◌*◌, ◌<◌}
use Rattle.std.specs.Prelude.{◌≡◌, refl, get_or, set, take}
use Rattle.std.proofs.Common.{sym, ap, ◌∙◌, drop_at, get_or-append-add}
use mathlib.Core.List.{List, [], ◌∷◌, ◌++◌, append_assoc, append-nil}
use native.Mathlib.Omega.{arith}
use Rattle.std.proofs.Math.ListN.{length, length-append, get_or-append}
use Rattle.std.proofs.Math.Seq.{take-append-add, drop-append-add}
use Rattle.laws.specs.Overlay.{put_at}

-- f 0, f 1 and so on, n of them
unfoldable pub rows : {A : Type 0} → (ℕ → A) → ℕ → List A
rows f zero = []
rows f (suc n) = f 0 ∷ rows (λ i. f (suc i)) n

pub rows_length : {A : Type 0} (f : ℕ → A) (n : ℕ) → length (rows f n) ≡ n
unfolding rows
rows_length f zero = refl
rows_length f (suc n) = ap suc (rows_length (λ i. f (suc i)) n)

pub rows_at : {A : Type 0} (f : ℕ → A) (n i : ℕ) (d : A) → i < n → get_or (rows f n) i d ≡ f i
unfolding rows
rows_at f zero i d h = absurd (omega arith)
rows_at f (suc n) zero d h = refl
rows_at f (suc n) (suc i) d h = rows_at (λ j. f (suc j)) n i d (omega arith)

pub rows_same : {A : Type 0} (f g : ℕ → A) (n : ℕ) → ((i : ℕ) → i < n → f i ≡ g i) → rows f n ≡ rows g n
unfolding rows
rows_same f g zero p = refl
rows_same f g (suc n) p = rw (p 0 (omega arith), rows_same (λ i. f (suc i)) (λ i. g (suc i)) n (λ i h. p (suc i) (omega arith)))

pub rows_set : {A : Type 0} (f g : ℕ → A) (n i : ℕ) (b : A) → i < n → g i ≡ b → ((j : ℕ) → j < n → (j ≡ i → ⊥) → g j ≡ f j)
    → rows g n ≡ set (rows f n) i b
unfolding rows
rows_set f g zero i b h e p = absurd (omega arith)
rows_set f g (suc n) zero b h e p =
    rw (e, rows_same (λ j. g (suc j)) (λ j. f (suc j)) n (λ j l. p (suc j) (omega arith) (λ q. omega arith)))
rows_set f g (suc n) (suc i) b h e p =
    rw (
      p 0 (omega arith) (λ q. omega arith),
      rows_set (λ j. f (suc j)) (λ j. g (suc j)) n i b (omega arith) e (λ j l q. p (suc j) (omega arith) (λ z. q (omega arith))),
    )

-- a list is the rows that it is read by
pub rows_read : {A : Type 0} (l : List A) (n : ℕ) (d : A) → length l ≡ n → rows (λ i. get_or l i d) n ≡ l
unfolding rows
rows_read [] zero d e = refl
rows_read [] (suc n) d e = absurd (omega arith)
rows_read (x ∷ l) zero d e = absurd (omega arith)
rows_read (x ∷ l) (suc n) d e = ap (λ t. x ∷ t) (rows_read l n d (omega arith))

pub rows_append : {A : Type 0} (f : ℕ → A) (m n : ℕ) → rows f (m + n) ≡ rows f m ++ rows (λ i. f (m + i)) n
unfolding rows
rows_append f zero n =
    let e : 0 + n ≡ n = omega arith in
    rw e (rows_same f (λ i. f (0 + i)) n (λ i h. let q : 0 + i ≡ i = omega arith in rw q))
rows_append f (suc m) n =
    let e : suc m + n ≡ suc (m + n) = omega arith in
    rw e
    (ap (λ t. f 0 ∷ t)
    (rows_append (λ i. f (suc i)) m n
    ∙ ap (λ t. rows (λ i. f (suc i)) m ++ t) (rows_same _ _ n (λ i h. let q : suc (m + i) ≡ suc m + i = omega arith in rw q))))

-- every element of l by f
unfoldable pub each : {A B : Type 0} → (A → B) → List A → List B
each f [] = []
each f (x ∷ l) = f x ∷ each f l

pub each_rows : {A B : Type 0} (f : A → B) (g : ℕ → A) (n : ℕ) → each f (rows g n) ≡ rows (λ i. f (g i)) n
unfolding each rows
each_rows f g zero = refl
each_rows f g (suc n) = ap (λ t. f (g 0) ∷ t) (each_rows f (λ i. g (suc i)) n)

pub each_set : {A B : Type 0} (f : A → B) (l : List A) (i : ℕ) (b : A) → each f (set l i b) ≡ set (each f l) i (f b)
unfolding each
each_set f [] i b = refl
each_set f (x ∷ l) zero b = refl
each_set f (x ∷ l) (suc i) b = ap (λ t. f x ∷ t) (each_set f l i b)

-- the words of all elements, behind one another
unfoldable pub flat : {A : Type 0} → (A → List ℕ) → List A → List ℕ
flat f [] = []
flat f (x ∷ l) = f x ++ flat f l

-- Rows of s words: how many words they are, and word j of row i.
module _ {A : Type 0} (f : A → List ℕ) (s : ℕ) (p : (x : A) → length (f x) ≡ s) where
  pub flat_length : (l : List A) → length (flat f l) ≡ s * length l
  unfolding flat
  flat_length [] = omega arith
  flat_length (x ∷ l) = omega (arith, length-append (f x) (flat f l), p x, flat_length l)

  pub flat_at : (l : List A) (i j : ℕ) (d : A) → i < length l → j < s → get_or (flat f l) (s * i + j) 0 ≡ get_or (f (get_or l i d)) j 0
  unfolding flat
  flat_at [] i j d h q = absurd (omega arith)
  flat_at (x ∷ l) zero j d h q =
      let z : s * 0 + j ≡ j = omega arith in
      rw z (get_or-append (f x) (flat f l) 0 j (omega (arith, p x)))
  flat_at (x ∷ l) (suc i) j d h q =
      let z : s * suc i + j ≡ length (f x) + (s * i + j) = omega (arith, p x) in
      rw z (get_or-append-add (f x) (flat f l) (s * i + j) 0 ∙ flat_at l i j d (omega arith) q)

-- the words of one element more
pub flat_more : {A : Type 0} (f : A → List ℕ) (l : List A) (i : ℕ) (d : A) → i < length l
    → flat f (take (suc i) l) ≡ flat f (take i l) ++ f (get_or l i d)
unfolding flat
flat_more f [] i d h = absurd (omega arith)
flat_more f (x ∷ l) zero d h = append-nil (f x)
flat_more f (x ∷ l) (suc i) d h = ap (λ t. f x ++ t) (flat_more f l i d (omega arith)) ∙ sym (append_assoc (f x) (flat f (take i l)) _)

-- rows of s words, read from words at their places, are these words
pub flat_rows : {A : Type 0} (f : A → List ℕ) (g : ℕ → A) (w : ℕ → ℕ) (s n : ℕ)
    → ((i : ℕ) → i < n → f (g i) ≡ rows (λ j. w (s * i + j)) s) → flat f (rows g n) ≡ rows w (s * n)
unfolding flat rows
flat_rows f g w s zero p = let e : s * 0 ≡ 0 = omega arith in rw e
flat_rows f g w s (suc n) p =
    let e : s * suc n ≡ s + s * n = omega arith in
    let first : f (g 0) ≡ rows w s = p 0 (omega arith) ∙ rows_same _ _ s (λ j h. let q : s * 0 + j ≡ j = omega arith in rw q) in
    let others =
    flat_rows f (λ i. g (suc i)) (λ i. w (s + i)) s n
    (λ i h. p (suc i) (omega arith) ∙ rows_same _ _ s (λ j l. let q : s * suc i + j ≡ s + (s * i + j) = omega arith in rw q)) in
    rw (e, first, others) (sym (rows_append w s (s * n)))

-- one row replaced
pub flat_set : {A : Type 0} (f : A → List ℕ) (l : List A) (s i : ℕ) (b : A) → ((j : ℕ) (d : A) → j < length l → length (f (get_or l j d)) ≡ s)
    → length (f b) ≡ s
    → i < length l → flat f (set l i b) ≡ put_at (s * i) (flat f l) (f b)
unfolding flat put_at
flat_set f [] s i b p e h = absurd (omega arith)
flat_set f (x ∷ l) s zero b p e h =
    let z : s * 0 ≡ 0 = omega arith in
    let q : 0 + length (f b) ≡ length (f b) = omega arith in
    rw (z, q) (ap (λ t. f b ++ t) (sym (drop_at (f x) (flat f l) (length (f b)) (p 0 x (omega arith) ∙ sym e))))
flat_set f (x ∷ l) s (suc i) b p e h =
    let long : length (f x) ≡ s = p 0 x (omega arith) in
    let fore : s * suc i ≡ length (f x) + s * i = omega (arith, long) in
    let aft : s * suc i + length (f b) ≡ length (f x) + (s * i + length (f b)) = omega (arith, long) in
    let behind = flat_set f l s i b (λ j d q. p (suc j) d (omega arith)) e (omega arith) in
    ap (λ t. f x ++ t) behind
    ∙ sym (append_assoc (f x) (take (s * i) (flat f l)) _)
    ∙ sym (rw (aft, fore, take-append-add (f x) (flat f l) (s * i), drop-append-add (f x) (flat f l) (s * i + length (f b))))
