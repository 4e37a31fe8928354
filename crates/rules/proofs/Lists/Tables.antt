-- Tables as functions, changed at one place, and lists: every element, some element, one element more.
use Prim.Native.Nat.{ℕ, zero, suc, ◌<◌}
use mathlib.Core.Path.{◌≡◌, refl}
use mathlib.Core.Logic.{◌⊎◌, inl, inr, ⊎_elim}
use mathlib.Core.List.{List, [], ◌∷◌, ◌++◌, append_assoc}
use native.Mathlib.Nat.{eq-or-lt_of_le}
use native.Mathlib.Omega.{arith}
use borrow.Author.Tests.{eqb-true, eqb-false, eq-eqb, ne_eqb}
use lib.Dec.{eqb}
use lib.ListN.{get_or-append, length, get_or, take, length-append, drop, take-append-drop}
use lib.Seq.{get_or-append_seam}
use Rattle.laws.specs.Choice.{by_test}
use Rattle.rules.specs.World.{upd, Member, here, there}

-- the table f with a at (s, t)
unfoldable pub upd₂ : {A : Type 0} → (ℕ → ℕ → A) → ℕ → ℕ → A → ℕ → ℕ → A
upd₂ f s t a = upd f s (upd (f s) t a)

pub upd_same : {A : Type 0} (f : ℕ → A) (i : ℕ) (a : A) → upd f i a i ≡ a
unfolding upd
upd_same f i a = rw (eq-eqb i i refl)

pub upd_other : {A : Type 0} (f : ℕ → A) (i : ℕ) (a : A) (j : ℕ) → (j ≡ i → ⊥) → upd f i a j ≡ f j
unfolding upd
upd_other f i a j n = rw (ne_eqb j i n)

-- What holds of the new entry and of every old one holds of each: of one table, and of several changed at one place.
pub upd_three : {A B C : Type 0} (P : ℕ → A → B → C → Type 0) (f : ℕ → A) (g : ℕ → B) (h : ℕ → C) (i : ℕ) (a : A) (b : B) (c : C)
    → P i a b c
    → ((j : ℕ) → (j ≡ i → ⊥) → P j (f j) (g j) (h j)) → (j : ℕ) → P j (upd f i a j) (upd g i b j) (upd h i c j)
unfolding upd
upd_three P f g h i a b c new old j =
    by_test (eqb j i)
    (λ e. rw e (rw (eqb-true j i e) new))
    (λ e. rw e (old j (eqb-false j i e)))

pub upd_both : {A B : Type 0} (P : ℕ → A → B → Type 0) (f : ℕ → A) (g : ℕ → B) (i : ℕ) (a : A) (b : B) → P i a b
    → ((j : ℕ) → (j ≡ i → ⊥) → P j (f j) (g j)) → (j : ℕ) → P j (upd f i a j) (upd g i b j)
upd_both P f g i a b new old = upd_three {C = ℕ} (λ j x y z. P j x y) f g (λ j. 0) i a b 0 new old

pub upd_cases : {A : Type 0} (P : ℕ → A → Type 0) (f : ℕ → A) (i : ℕ) (a : A) → P i a → ((j : ℕ) → (j ≡ i → ⊥) → P j (f j)) → (j : ℕ)
    → P j (upd f i a j)
upd_cases P f i a new old = upd_both {B = ℕ} (λ j x y. P j x) f (λ j. 0) i a 0 new old

-- an entry put where it was
pub upd_self : {A : Type 0} (f : ℕ → A) (s j : ℕ) → upd f s (f s) j ≡ f j
upd_self f s = upd_cases (λ j x. x ≡ f j) f s (f s) refl (λ j n. refl)

-- The same for tables of two places.
pub upd₂_same : {A : Type 0} (f : ℕ → ℕ → A) (s t : ℕ) (a : A) → upd₂ f s t a s t ≡ a
unfolding upd₂
upd₂_same f s t a = rw (upd_same f s (upd (f s) t a)) (upd_same (f s) t a)

pub here₂ : {A : Type 0} (P : A → Type 0) (f : ℕ → ℕ → A) (s t : ℕ) (a : A) → P a → P (upd₂ f s t a s t)
here₂ P f s t a h = rw (upd₂_same f s t a) h

abbrev pub Other₂ : ℕ → ℕ → ℕ → ℕ → Type 0
Other₂ s t j u = (j ≡ s) × (u ≡ t) → ⊥

pub upd₂_three : {A B C : Type 0} (P : ℕ → ℕ → A → B → C → Type 0) (f : ℕ → ℕ → A) (g : ℕ → ℕ → B) (h : ℕ → ℕ → C) (s t : ℕ) (a : A)
    (b : B) (c : C)
    → P s t a b c → ((j u : ℕ) → Other₂ s t j u → P j u (f j u) (g j u) (h j u))
    → (j u : ℕ) → P j u (upd₂ f s t a j u) (upd₂ g s t b j u) (upd₂ h s t c j u)
unfolding upd₂ upd
upd₂_three P f g h s t a b c new old j u =
    by_test (eqb j s)
    (λ e. by_test (eqb u t)
    (λ q. rw (e, q) (rw (eqb-true j s e, eqb-true u t q) new))
    (λ q. rw (e, q) (rw (eqb-true j s e) (old s u (λ z. eqb-false u t q z.1)))))
    (λ e. rw e (old j u (λ z. eqb-false j s e z.0)))

pub upd₂_both : {A B : Type 0} (P : ℕ → ℕ → A → B → Type 0) (f : ℕ → ℕ → A) (g : ℕ → ℕ → B) (s t : ℕ) (a : A) (b : B)
    → P s t a b → ((j u : ℕ) → Other₂ s t j u → P j u (f j u) (g j u)) → (j u : ℕ) → P j u (upd₂ f s t a j u) (upd₂ g s t b j u)
upd₂_both P f g s t a b new old = upd₂_three {C = ℕ} (λ j u x y z. P j u x y) f g (λ j u. 0) s t a b 0 new old

pub upd₂_cases : {A : Type 0} (P : ℕ → ℕ → A → Type 0) (f : ℕ → ℕ → A) (s t : ℕ) (a : A) → P s t a
    → ((j u : ℕ) → Other₂ s t j u → P j u (f j u)) → (j u : ℕ) → P j u (upd₂ f s t a j u)
upd₂_cases P f s t a new old = upd₂_both {B = ℕ} (λ j u x y. P j u x) f (λ j u. 0) s t a 0 new old

pub upd₂_other : {A : Type 0} (f : ℕ → ℕ → A) (s t : ℕ) (a : A) (j u : ℕ) → Other₂ s t j u → upd₂ f s t a j u ≡ f j u
upd₂_other f s t a = upd₂_cases (λ j u b. Other₂ s t j u → b ≡ f j u) f s t a (λ n. absurd (n (refl, refl))) (λ j u n x. refl)

pub column_other : {A : Type 0} (f : ℕ → ℕ → A) (s t : ℕ) (a : A) (j u : ℕ) → (u ≡ t → ⊥) → upd₂ f s t a j u ≡ f j u
column_other f s t a j u n = upd₂_other f s t a j u (λ z. n z.1)

-- one row of it
pub row_same : {A : Type 0} (f : ℕ → ℕ → A) (s t : ℕ) (a : A) → upd₂ f s t a s ≡ upd (f s) t a
unfolding upd₂
row_same f s t a = upd_same f s (upd (f s) t a)

pub row_other : {A : Type 0} (f : ℕ → ℕ → A) (s t : ℕ) (a : A) (j : ℕ) → (j ≡ s → ⊥) → upd₂ f s t a j ≡ f j
unfolding upd₂
row_other f s t a j n = upd_other f s (upd (f s) t a) j n

-- what holds of three lists in a row, however they are bracketed
pub regroup : {A : Type 0} (P : List A → Type 0) (k l m : List A) → P ((k ++ l) ++ m) → P (k ++ (l ++ m))
regroup P k l m h = rw append_assoc at h

-- every element
pub data All {A : Type 0} (P : A → Type 0) : List A → Type 0 where
  a_nil : All P []
  a_cons : {x : A} {xs : List A} → P x → All P xs → All P (x ∷ xs)

pub all_map : {A : Type 0} {P Q : A → Type 0} {l : List A} → ((x : A) → P x → Q x) → All P l → All Q l
all_map f a_nil = a_nil
all_map f (a_cons {x = x} p ps) = a_cons (f x p) (all_map f ps)

pub all_both : {A : Type 0} {P Q : A → Type 0} {l : List A} → All P l → All Q l → All (λ x. P x × Q x) l
all_both a_nil a_nil = a_nil
all_both (a_cons p ps) (a_cons q qs) = a_cons (p, q) (all_both ps qs)

pub all_append : {A : Type 0} {P : A → Type 0} {l m : List A} → All P l → All P m → All P (l ++ m)
all_append a_nil q = q
all_append (a_cons p ps) q = a_cons p (all_append ps q)

pub all_one : {A : Type 0} {P : A → Type 0} {x : A} → P x → All P (x ∷ [])
all_one p = a_cons p a_nil

-- the element at an index
pub all_at : {A : Type 0} {P : A → Type 0} {l : List A} → All P l → (d : A) (i : ℕ) → i < length l → P (get_or l i d)
all_at a_nil d i h = absurd (omega arith)
all_at (a_cons p ps) d zero h = p
all_at (a_cons p ps) d (suc i) h = all_at ps d i (omega arith)

pub all_head : {A : Type 0} {P : A → Type 0} {x : A} {l : List A} → All P (x ∷ l) → P x
all_head (a_cons p ps) = p

-- of two lists in a row
pub all_left : {A : Type 0} {P : A → Type 0} (l m : List A) → All P (l ++ m) → All P l
all_left [] m h = a_nil
all_left (x ∷ l) m (a_cons p ps) = a_cons p (all_left l m ps)

pub all_right : {A : Type 0} {P : A → Type 0} (l m : List A) → All P (l ++ m) → All P m
all_right [] m h = h
all_right (x ∷ l) m (a_cons p ps) = all_right l m ps

pub all_take : {A : Type 0} {P : A → Type 0} (n : ℕ) (l : List A) → All P l → All P (take n l)
all_take n l h = all_left (take n l) (drop n l) (rw (take-append-drop n l) h)

-- and each that is there
pub all_is : {A : Type 0} {P : A → Type 0} {a : A} {l : List A} → All P l → Member a l → P a
all_is a_nil i = elim i [ ]
all_is (a_cons p ps) here = p
all_is (a_cons p ps) (there i) = all_is ps i

-- Some element.
pub is_append : {A : Type 0} {a : A} (l m : List A) → Member a (l ++ m) → Member a l ⊎ Member a m
is_append [] m i = inr i
is_append (x ∷ l) m here = inl here
is_append (x ∷ l) m (there i) = ⊎_elim (λ j. inl (there j)) (λ j. inr j) (is_append l m i)

-- an element of a list with one more
pub last_cases : {A : Type 0} (P : ℕ → A → Type 0) (l : List A) (a d : A) → ((k : ℕ) → k < length l → P k (get_or l k d)) → P (length l) a
    → (k : ℕ) → k < length (l ++ (a ∷ [])) → P k (get_or (l ++ (a ∷ [])) k d)
last_cases P l a d old new k h =
    let n = length-append l (a ∷ []) in
    ⊎_elim
    (λ (q : k ≡ length l). rw (q, get_or-append_seam l a [] d) new)
    (λ (x : k < length l). rw (get_or-append l (a ∷ []) d k x) (old k x))
    (eq-or-lt_of_le (omega arith))
