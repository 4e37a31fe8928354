-- The book after a read or a write: the key is used, and a write is the transaction's last of that key.
use Prim.Native.Nat.{ℕ}
use mathlib.Core.Path.{◌≡◌, refl, sym, ◌∙◌}
use mathlib.Core.Bool.{true}
use mathlib.Core.Logic.{◌⊎◌, inl, inr, ⊎_elim}
use mathlib.Core.List.{List, [], ◌∷◌, ◌++◌, append_assoc}
use native.Mathlib.Omega.{arith}
use borrow.Author.Tests.{eqb-true, eqb-false}
use lib.Dec.{eqb}
use Rattle.kinds.specs.declared.House.{House}
use Rattle.laws.specs.Choice.{by_test}
use Rattle.kinds.specs.declared.Value.{Value}
use Rattle.kinds.specs.declared.Keys.{Keys}
use Rattle.rules.specs.Keys.{wrote_key, wrote_value, read_key}
use Rattle.rules.specs.World.{Member, here, there}
use Rattle.rules.specs.Book as book
use Rattle.rules.specs.Book.{Fact}
use Rattle.rules.specs.Claim.{LastWrite}
use Rattle.rules.proofs.Lists.Tables.{upd₂, upd₂_same, upd₂_cases, a_cons, all_one, is_append}
use Rattle.rules.proofs.Protocol.ProtocolTables.{Protocol, inst}
use Rattle.rules.proofs.Protocol.Protocol.{Accessed, reads, writes}
use Rattle.rules.proofs.Book.BookLists.{none_is, OfKind, last_kept, last_fresh}
use Rattle.rules.proofs.Book.Booked.{home, UsedIn, Booked}
use Rattle.rules.proofs.Book.BookKept.{commits_kept, begins_kept, installs_kept, sees_kept, at_same}

-- What an access tells: uses and writes of t at keys of s, which its keys have; and they keep what they had, but for a key written now.
pub record Tells (house : House) (s t : ℕ) (old new : Keys) (fs : List Fact) : Type 0 where
  pub kind : OfKind 1 fs
  pub used : (u k : ℕ) → Member (book.used u k) fs → (u ≡ t) × (home house k ≡ s) × UsedIn new k
  pub wrote : (u k : ℕ) (v : Value) → Member (book.wrote u k v) fs → (u ≡ t) × (home house k ≡ s) × (wrote_key new k ≡ true)
  pub read : (k : ℕ) → read_key old k ≡ true → read_key new k ≡ true
  pub last : (b : List Fact) (k : ℕ) → wrote_key new k ≡ true
      → (wrote_key old k ≡ true → (home house k ≡ s) × LastWrite b t k (wrote_value old k))
      → (home house k ≡ s) × LastWrite (b ++ fs) t k (wrote_value new k)

is_wrote : {u t k j n : ℕ} {x v : Value} → Member (book.wrote u k x) (book.used t n ∷ book.wrote t j v ∷ []) → (u ≡ t) × (k ≡ j)
is_wrote (there here) = (refl, refl)
is_wrote (there (there i)) = elim i [ ]

none_wrote : {u t k n : ℕ} {x : Value} → Member (book.wrote u k x) (book.used t n ∷ []) → ⊥
none_wrote (there i) = none_is i

is_used : {u t k j : ℕ} → Member (book.used u k) (book.used t j ∷ []) → (u ≡ t) × (k ≡ j)
is_used here = (refl, refl)
is_used (there i) = elim i [ ]

is_used_wrote : {u t k j n : ℕ} {v : Value} → Member (book.used u k) (book.used t j ∷ book.wrote t n v ∷ []) → (u ≡ t) × (k ≡ j)
is_used_wrote here = (refl, refl)
is_used_wrote (there (there i)) = absurd (none_is i)

pub tells : {house : House} {s t : ℕ} {old new : Keys} {fs : List Fact} → Accessed house s t old new fs → Tells house s t old new fs
tells {house} {s} {t} {old} {new} (reads k h c r w) =
    record {
      kind = all_one refl;
      used = λ u j i. let (a, e) = is_used i in (a, rw e h, rw e c);
      wrote = λ u j v i. absurd (none_wrote i);
      read = r;
      last = λ b j x f.
          let (e, v) = w j in
          let y = sym e ∙ x in
          let (o, z) = f y in
          (o, rw (v y) (last_kept (book.used t k ∷ []) (λ u i. none_wrote i) z));
    }
tells {house} {s} {t} {old} {new} (writes k v h x y r w) =
    record {
      kind = a_cons refl (all_one refl);
      used = λ u j i. let (a, e) = is_used_wrote i in (a, rw e h, inr (rw e x));
      wrote = λ u j v i. let (a, e) = is_wrote i in (a, rw e h, rw e x);
      read = r;
      last = λ b j z f. by_test (eqb j k)
          (λ e. let q = eqb-true j k e in rw q (h, rw y (over b)))
          (λ e. let n = eqb-false j k e in
          let (d, g) = w j n in
          let a = sym d ∙ z in
          let (o, m) = f a in
          (o, rw (g a) (last_kept (book.used t k ∷ book.wrote t k v ∷ []) (λ u i. n (is_wrote i).1) m)));
    }
  where
    -- nothing stands behind this write
    over : (b : List Fact) → LastWrite (b ++ (book.used t k ∷ book.wrote t k v ∷ [])) t k v
    over b = rw append_assoc at (last_fresh {t = t} {k = k} {v = v} (b ++ (book.used t k ∷ [])) [] (λ u i. none_is i))

-- t's part at s, which had begun, has new keys
pub record AccessedAs (p q : Protocol) (s t : ℕ) (new : Keys) : Type 0 where
  pub begun : p.has s t ≡ true
  pub has : q.has ≡ p.has
  pub snap : q.snap ≡ p.snap
  pub keys : q.keys ≡ upd₂ p.keys s t new
  pub num : q.num ≡ p.num
  pub parts : (j : ℕ) → inst q j ≡ inst p j

module _ {house : House} {b fs : List Fact} {p q : Protocol} {s t : ℕ} {new : Keys} (c : AccessedAs p q s t new) (i : Booked house b p)
    (a : Tells house s t (p.keys s t) new fs) (w : (k : ℕ) → wrote_key (p.keys s t) k ≡ true → wrote_key new k ≡ true) where
  -- keys that the access kept
  still : (P : Keys → Type 0) → (P (p.keys s t) → P new) → (j u : ℕ) → P (p.keys j u) → P (q.keys j u)
  still P f = rw c.keys (upd₂_cases (λ j u z. P (p.keys j u) → P z) p.keys s t new f (λ j u n x. x))

  -- what the access told is of t at s
  now : (P : Keys → Type 0) (k u : ℕ) → (u ≡ t) × (home house k ≡ s) × P new
      → (q.has (home house k) u ≡ true) × P (q.keys (home house k) u)
  now P k u (e, h, x) = rw (c.has, c.keys, e, h) (c.begun, rw (upd₂_same p.keys s t new) x)

  wrote : (u k : ℕ) (v : Value) → Member (book.wrote u k v) b ⊎ Member (book.wrote u k v) fs
      → (q.has (home house k) u ≡ true) × (wrote_key (q.keys (home house k) u) k ≡ true)
  wrote u k v (inl x) =
      let (h, y) = i.writes.wrote u k v x in
      (rw c.has h, still (λ z. wrote_key z k ≡ true) (w k) (home house k) u y)
  wrote u k v (inr x) = now (λ z. wrote_key z k ≡ true) k u (a.wrote u k v x)

  used : (u k : ℕ) → Member (book.used u k) b ⊎ Member (book.used u k) fs → (q.has (home house k) u ≡ true) × UsedIn
      (q.keys (home house k) u) k
  used u k (inl x) =
      let (h, y) = i.writes.used u k x in
      (rw c.has h, still (λ z. UsedIn z k) (⊎_elim (λ e. inl (a.read k e)) (λ e. inr (w k e))) (home house k) u y)
  used u k (inr x) = now (λ z. UsedIn z k) k u (a.used u k x)

  last : (k j u : ℕ) → q.has j u ≡ true → wrote_key (q.keys j u) k ≡ true
      → (home house k ≡ j) × LastWrite (b ++ fs) u k (wrote_value (q.keys j u) k)
  last k = rw (c.has, c.keys)
      (upd₂_cases (λ j u z. p.has j u ≡ true → wrote_key z k ≡ true → (home house k ≡ j) × LastWrite (b ++ fs) u k (wrote_value z k))
      p.keys s t new
      (λ h x. a.last b k x (i.writes.last s t k h))
      (λ j u n h x. let (o, m) = i.writes.last j u k h x in
      (o, last_kept fs (λ v y. let (e, f, g) = a.wrote u k v y in n (sym o ∙ f, e)) m)))

  pub booked_accessed : Booked house (b ++ fs) q
  booked_accessed =
      record {
        commits = commits_kept a.kind (λ z. omega arith) c.num i.commits;
        begins = begins_kept a.kind (λ z. omega arith) c.has i.begins;
        writes =
            record {
              wrote = λ u k v x. wrote u k v (is_append b fs x);
              last = λ j u k. last k j u;
              used = λ u k x. used u k (is_append b fs x);
            };
        installs = installs_kept a.kind (λ z. omega arith) c.parts i.installs;
        sees = sees_kept a.kind (λ z. omega arith) c.has c.snap (λ j u m x d. at_same p q c.parts j m) i.begins i.sees;
      }
