-- The book after a part begins: it has used and written nothing, and sees what is installed there.
use Prim.Native.Nat.{ℕ, ◌<◌}
use mathlib.Core.Path.{◌≡◌, refl}
use mathlib.Core.Bool.{true}
use mathlib.Core.Logic.{◌⊎◌, inl, inr, ⊎_elim}
use mathlib.Core.List.{List, [], ◌∷◌, ◌++◌}
use native.Mathlib.Omega.{arith}
use lib.ListN.{length}
use Rattle.kinds.specs.declared.House.{House}
use Rattle.kinds.specs.declared.Keys.{Keys}
use Rattle.kinds.specs.State.{no_keys}
use Rattle.rules.specs.KeysLaws.{none_written}
use Rattle.rules.specs.Keys.{wrote_key, wrote_value}
use Rattle.rules.specs.World.{Member, here, there}
use Rattle.rules.specs.Book as book
use Rattle.rules.specs.Book.{Fact}
use Rattle.rules.specs.Claim.{Before, LastWrite}
use Rattle.rules.proofs.Lists.Tables.{upd₂, upd₂_same, upd₂_cases, all_one, upd₂_both, all_is, is_append}
use Rattle.rules.proofs.Protocol.ProtocolTables.{Protocol, inst}
use Rattle.rules.proofs.Protocol.Frames.{kept₂, was₂}
use Rattle.rules.proofs.Book.BookLists.{is_kept, is_last, OfKind, old, before_second, before_kept, before_here, before_append}
use Rattle.rules.proofs.Book.BookLists.{not_alone}
use Rattle.rules.proofs.Book.BookLists.{last_kept}
use Rattle.rules.proofs.Book.Booked.{home, PairAt, UsedIn, Begins, Writes, Booked}
use Rattle.rules.proofs.Book.BookKept.{commits_kept, installs_kept}

-- the one fact told
is_began : {j u s t : ℕ} → Member (book.began j u) (book.began s t ∷ []) → (j ≡ s) × (u ≡ t)
is_began here = (refl, refl)
is_began (there i) = elim i [ ]

-- t's part begins at s, where none had begun
pub record BeganAs (p q : Protocol) (s t : ℕ) : Type 0 where
  pub none : p.has s t ≡ true → ⊥
  pub has : q.has ≡ upd₂ p.has s t true
  pub snap : q.snap ≡ upd₂ p.snap s t (length (inst p s))
  pub keys : q.keys ≡ upd₂ p.keys s t no_keys
  pub num : q.num ≡ p.num
  pub parts : (j : ℕ) → inst q j ≡ inst p j

module _ {house : House} {b : List Fact} {p q : Protocol} {s t : ℕ} (c : BeganAs p q s t) (i : Booked house b p) where
  abbrev l : List Fact
  l = book.began s t ∷ []

  a : OfKind 0 l
  a = all_one refl

  -- it had not begun before
  once : (j u : ℕ)
      → Before (book.began j u) (book.began j u) b
      ⊎ ((Member (book.began j u) b × Member (book.began j u) l) ⊎ Before (book.began j u) (book.began j u) l) → ⊥
  once j u (inl x) = i.begins.once j u x
  once j u (inr (inl (x, y))) = let (d, e) = is_began y in c.none (rw (d, e) at (i.begins.began j u x))
  once j u (inr (inr x)) = not_alone x

  begins : Begins (b ++ l) q
  begins =
      record {
        began = λ j u x. rw c.has (⊎_elim
            (λ y. kept₂ p.has s t j u (i.begins.began j u y))
            (λ y. let (d, e) = is_began y in rw (d, e) (upd₂_same p.has s t true))
            (is_append b l x));
        begun = λ j u x. ⊎_elim
            (λ y. rw (y.0, y.1) (is_last b))
            (λ y. is_kept l (i.begins.begun j u y))
            (was₂ p.has s t j u (rw c.has at x));
        once = λ j u x. once j u (before_append b l x);
      }

  -- the keys of a part that had begun
  other : (P : Keys → Type 0) (j u : ℕ) → p.has j u ≡ true → P (p.keys j u) → P (q.keys j u)
  other P j u x y =
      rw c.keys
      (upd₂_cases (λ j u z. p.has j u ≡ true → P (p.keys j u) → P z) p.keys s t no_keys (λ x y. absurd (c.none x))
      (λ j u n x y. y) j u x y)

  had : (j u : ℕ) → p.has j u ≡ true → q.has j u ≡ true
  had j u x = rw c.has (kept₂ p.has s t j u x)

  last : (k j u : ℕ) → q.has j u ≡ true → wrote_key (q.keys j u) k ≡ true
      → (home house k ≡ j) × LastWrite (b ++ l) u k (wrote_value (q.keys j u) k)
  last k = rw (c.has, c.keys)
      (upd₂_both (λ j u h z. h ≡ true → wrote_key z k ≡ true → (home house k ≡ j) × LastWrite (b ++ l) u k (wrote_value z k)) p.has
      p.keys s t true no_keys
      (λ x w. absurd (none_written k w))
      (λ j u n x w. let (o, z) = i.writes.last j u k x w in (o, last_kept l (λ v y. clash (all_is a y)) z)))
    where
      clash : ◌≡◌ {A = ℕ} 1 0 → ⊥
      clash z = omega arith

  writes : Writes house (b ++ l) q
  writes =
      record {
        wrote = λ u k v x.
            let (h, w) = i.writes.wrote u k v (old b l a (λ z. omega arith) x) in
            (had (home house k) u h, other (λ z. wrote_key z k ≡ true) (home house k) u h w);
        last = λ j u k. last k j u;
        used = λ u k x.
            let (h, w) = i.writes.used u k (old b l a (λ z. omega arith) x) in
            (had (home house k) u h, other (λ z. UsedIn z k) (home house k) u h w);
      }

  abbrev Sight : ℕ → ℕ → ℕ → ℕ → Type 0
  Sight j u n e = (m : ℕ) × (m < q.snap j u) × PairAt q j m n e

  -- what a part that had begun saw
  sight : (j u n e m : ℕ) → p.has j u ≡ true → m < p.snap j u → PairAt p j m n e → Sight j u n e
  sight j u n e m x d z = (
    m,
    rw c.snap
        (upd₂_cases (λ j u y. p.has j u ≡ true → m < p.snap j u → m < y) p.snap s t _ (λ x d. absurd (c.none x)) (λ j u n x d. d) j
        u x d),
    rw (c.parts j) z,
  )

  new_snap : (j u : ℕ) → (j ≡ s) × (u ≡ t) → q.snap j u ≡ length (inst p j)
  new_snap j u (f, g) = rw (c.snap, f, g) (upd₂_same p.snap s t (length (inst p s)))

  seen : (j u n e : ℕ)
      → Before (book.installed j n e) (book.began j u) b
      ⊎ ((Member (book.installed j n e) b × Member (book.began j u) l) ⊎ Before (book.installed j n e) (book.began j u) l)
      → Sight j u n e
  seen j u n e (inl x) = let (m, d, z) = i.sees.seen j u n e x in sight j u n e m (i.begins.began j u (before_second x)) d z
  seen j u n e (inr (inl (x, y))) =
      let (m, d, z) = i.installs.installed j n e x in
      (m, rw (new_snap j u (is_began y)) d, rw (c.parts j) z)
  seen j u n e (inr (inr x)) = absurd (not_alone x)

  before : (m n e j u : ℕ) → q.has j u ≡ true → m < q.snap j u → PairAt p j m n e
      → Before (book.installed j n e) (book.began j u) (b ++ l)
  before m n e = rw (c.has, c.snap)
      (upd₂_both (λ j u h y. h ≡ true → m < y → PairAt p j m n e → Before (book.installed j n e) (book.began j u) (b ++ l)) p.has
      p.snap s t true (length (inst p s))
      (λ x d z. before_here (i.installs.installs s m n e d z) here)
      (λ j u o x d z. before_kept l (i.sees.before j u m n e x d z)))

  pub booked_began : Booked house (b ++ (book.began s t ∷ [])) q
  booked_began =
      record {
        commits = commits_kept a (λ z. omega arith) c.num i.commits;
        begins = begins;
        writes = writes;
        installs = installs_kept a (λ z. omega arith) c.parts i.installs;
        sees =
            record {
              seen = λ j u n e x. seen j u n e (before_append b l x);
              before = λ j u m n e x d z. before m n e j u x d (rw (c.parts j) at z);
            };
      }
