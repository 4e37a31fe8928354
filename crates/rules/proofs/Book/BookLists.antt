-- The book with facts behind it: what stands in it, what stands before what, and each transaction's last writes.
use Prim.Native.Nat.{ℕ, ◌+◌}
use mathlib.Core.Path.{◌≡◌, refl, sym, ap, ◌∙◌}
use mathlib.Core.Logic.{◌⊎◌, inl, inr, ⊎_elim}
use mathlib.Core.List.{List, [], ◌∷◌, ◌++◌, append_assoc}
use native.Mathlib.Omega.{arith}
use borrow.Author.Tests.{eq-eqb, ne_eqb}
use lib.ListN.{length}
use Rattle.kinds.specs.declared.Value.{Value}
use Rattle.rules.specs.World.{Member, here, there}
use Rattle.rules.specs.Book as book
use Rattle.rules.specs.Book.{Fact}
use Rattle.rules.specs.Claim.{Before, LastWrite}
use Rattle.rules.specs.Snapshots.{one_at, installs_in}
use Rattle.rules.proofs.Lists.Tables.{All, a_nil, a_cons, all_is, is_append}

-- What stands in a list.
pub none_is : {A : Type 0} {a : A} → Member a [] → ⊥
none_is = elim [ ]

pub is_cases : {A : Type 0} {a x : A} {l : List A} → Member a (x ∷ l) → (a ≡ x) ⊎ Member a l
is_cases here = inl refl
is_cases (there i) = inr i

-- in one with another before or behind it
pub is_kept : {A : Type 0} {a : A} {b : List A} (l : List A) → Member a b → Member a (b ++ l)
is_kept l here = here
is_kept l (there i) = there (is_kept l i)

pub is_behind : {A : Type 0} {a : A} (b : List A) {l : List A} → Member a l → Member a (b ++ l)
is_behind [] i = i
is_behind (x ∷ b) i = there (is_behind b i)

-- the last of a list with one more
pub is_last : {A : Type 0} {a : A} (b : List A) → Member a (b ++ (a ∷ []))
is_last b = is_behind b here

-- Facts by kind: a read or a write tells those of one kind, and so does every other move.
abbrev pub fact_kind : Fact → ℕ
fact_kind (book.began s t) = 0
fact_kind (book.used t k) = 1
fact_kind (book.wrote t k v) = 1
fact_kind (book.committed t n c) = 2
fact_kind (book.installed s n c) = 3
fact_kind (book.replayed y n c) = 4

abbrev pub OfKind : ℕ → List Fact → Type 0
OfKind k = All (λ f. fact_kind f ≡ k)

-- behind the book there are only facts of another kind
pub old : {f : Fact} {k : ℕ} (b l : List Fact) → OfKind k l → (fact_kind f ≡ k → ⊥) → Member f (b ++ l) → Member f b
old b l a n i = ⊎_elim (λ j. j) (λ j. absurd (n (all_is a j))) (is_append b l i)

-- How many installs at a site: in a book with more behind it, of facts of another kind, and of one install.
pub installs_append : (s : ℕ) (b l : List Fact) → installs_in s (b ++ l) ≡ installs_in s b + installs_in s l
unfolding installs_in
installs_append s [] l = omega arith
installs_append s (f ∷ b) l = omega (arith, installs_append s b l)

other_one : (s : ℕ) (f : Fact) → (3 ≡ fact_kind f → ⊥) → one_at s f ≡ 0
other_one s (book.began r t) n = refl
other_one s (book.used t k) n = refl
other_one s (book.wrote t k v) n = refl
other_one s (book.committed t m c) n = refl
other_one s (book.installed r m c) n = absurd (n refl)
other_one s (book.replayed y m c) n = refl

pub installs_other : {k : ℕ} {l : List Fact} (s : ℕ) → OfKind k l → (3 ≡ k → ⊥) → installs_in s l ≡ 0
unfolding installs_in
installs_other s a_nil n = refl
installs_other s (a_cons {x = f} e a) n = omega (arith, other_one s f (λ z. n (z ∙ e)), installs_other s a n)

pub install_here : (s n c : ℕ) → installs_in s (book.installed s n c ∷ []) ≡ 1
unfolding installs_in
install_here s n c = rw (eq-eqb s s refl)

pub install_away : (s r n c : ℕ) → (s ≡ r → ⊥) → installs_in s (book.installed r n c ∷ []) ≡ 0
unfolding installs_in
install_away s r n c o = rw (ne_eqb s r o)

-- Before.
pub before_second : {f g : Fact} {b : List Fact} → Before f g b → Member g b
before_second h = rw h.split (is_behind h.front h.second)

pub before_kept : {f g : Fact} {b : List Fact} (l : List Fact) → Before f g b → Before f g (b ++ l)
before_kept l h =
    record {
      front = h.front;
      rest = h.rest ++ l;
      split = rw h.split (append_assoc h.front h.rest l);
      first = h.first;
      second = is_kept l h.second;
    }

pub before_here : {f g : Fact} {b l : List Fact} → Member f b → Member g l → Before f g (b ++ l)
before_here {b = b} {l = l} i j = record { front = b; rest = l; split = refl; first = i; second = j }

-- where the first stands in a list, and the second behind it, each may stand in either part
abbrev Either : Fact → Fact → List Fact → List Fact → Type 0
Either f g b l = Before f g b ⊎ ((Member f b × Member g l) ⊎ Before f g l)

parted : {f g : Fact} (b l p q : List Fact) → b ++ l ≡ p ++ q → Member f p → Member g q → Either f g b l
parted [] l p q e i j = inr (inr (record { front = p; rest = q; split = e; first = i; second = j }))
parted (x ∷ b) l [] q e i j = absurd (none_is i)
parted {f} {g} (x ∷ b) l (y ∷ p) q e i j =
    ⊎_elim (λ z. first (z ∙ sym heads) (is_append b l (rw tails (is_behind p j)))) (λ m. later (parted b l p q tails m j)) (is_cases i)
  where
    heads : x ≡ y
    heads = cc

    tails : b ++ l ≡ p ++ q
    tails = cc

    one_more : Before f g b → Before f g (x ∷ b)
    one_more h =
        record {
          front = x ∷ h.front;
          rest = h.rest;
          split = ap (λ (z : List Fact). x ∷ z) h.split;
          first = there h.first;
          second = h.second;
        }

    later : Either f g b l → Either f g (x ∷ b) l
    later (inl h) = inl (one_more h)
    later (inr (inl (m, n))) = inr (inl (there m, n))
    later (inr (inr h)) = inr (inr h)

    first : f ≡ x → Member g b ⊎ Member g l → Either f g (x ∷ b) l
    first z (inl n) = rw z (inl (before_here {b = x ∷ []} here n))
    first z (inr n) = rw z (inr (inl (here, n)))

pub before_append : {f g : Fact} (b l : List Fact) → Before f g (b ++ l) → Either f g b l
before_append b l h = parted b l h.front h.rest h.split h.first h.second

pub not_alone : {f g x : Fact} → Before f g (x ∷ []) → ⊥
not_alone {f} {g} {x} h = go h.front h.rest h.split h.first h.second
  where
    go : (p q : List Fact) → x ∷ [] ≡ p ++ q → Member f p → Member g q → ⊥
    go [] q e i j = none_is i
    go (y ∷ []) [] e i j = none_is j
    go (y ∷ []) (z ∷ q) e i j = omega (arith, ap (λ (l : List Fact). length l) e)
    go (y ∷ u ∷ p) q e i j = omega (arith, ap (λ (l : List Fact). length l) e)

-- where no second stands behind, it stood so before
pub before_old : {f g : Fact} (b l : List Fact) → (Member g l → ⊥) → Before f g (b ++ l) → Before f g b
before_old {f} {g} b l n h = go (before_append b l h)
  where
    go : Either f g b l → Before f g b
    go (inl k) = k
    go (inr (inl (i, j))) = absurd (n j)
    go (inr (inr k)) = absurd (n (before_second k))

-- The last write.
pub last_kept : {t k : ℕ} {v : Value} {b : List Fact} (l : List Fact) → ((u : Value) → Member (book.wrote t k u) l → ⊥) → LastWrite b t k v
    → LastWrite (b ++ l) t k v
last_kept {t} {k} {v} l n h =
    record {
      front = h.front;
      rest = h.rest ++ l;
      split = rw h.split (append_assoc h.front (book.wrote t k v ∷ h.rest) l);
      last = λ u i. ⊎_elim (λ j. h.last u j) (λ j. n u j) (is_append h.rest l i);
    }

pub last_fresh : {t k : ℕ} {v : Value} (b l : List Fact) → ((u : Value) → Member (book.wrote t k u) l → ⊥)
    → LastWrite (b ++ (book.wrote t k v ∷ l)) t k v
last_fresh b l n = record { front = b; rest = l; split = refl; last = n }
