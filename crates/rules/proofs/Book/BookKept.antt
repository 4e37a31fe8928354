-- The book stays true of tables that stay: facts of other kinds behind it change nothing.
use Prim.Native.Nat.{ℕ, ◌<◌}
use mathlib.Core.Path.{◌≡◌, refl, ap}
use mathlib.Core.Bool.{true}
use mathlib.Core.List.{List, [], ◌∷◌, ◌++◌}
use native.Mathlib.Omega.{arith}
use lib.ListN.{get_or}
use Rattle.kinds.specs.declared.House.{House}
use Rattle.kinds.specs.declared.Entry.{Entry}
use Rattle.kinds.specs.State.{past_entry}
use Rattle.rules.specs.Book as book
use Rattle.rules.specs.Book.{Fact}
use Rattle.rules.proofs.Steps.StepParts.{same}
use Rattle.rules.proofs.Lists.Tables.{a_nil, all_one, all_is}
use Rattle.rules.proofs.Protocol.ProtocolTables.{Protocol, inst}
use Rattle.rules.proofs.Protocol.Invariants.{at}
use Rattle.rules.proofs.Book.BookLists.{is_kept, OfKind, old, installs_append, installs_other, before_second, before_kept}
use Rattle.rules.proofs.Book.BookLists.{before_old, last_kept}
use Rattle.rules.proofs.Book.Booked.{Commits, Begins, Writes, Installs, Sees, Booked}

module _ {b l : List Fact} {p q : Protocol} {k : ℕ} (a : OfKind k l) where
  pub commits_kept : (2 ≡ k → ⊥) → q.num ≡ p.num → Commits b p → Commits (b ++ l) q
  commits_kept n e i =
      record {
        commit = λ t m c x. rw e (i.commit t m c (old b l a n x));
        committed = λ t z. is_kept {b = b} l (rw e (i.committed t (rw e at z)));
      }

  pub begins_kept : (0 ≡ k → ⊥) → q.has ≡ p.has → Begins b p → Begins (b ++ l) q
  begins_kept n e i =
      record {
        began = λ s t x. rw e (i.began s t (old b l a n x));
        begun = λ s t x. is_kept l (i.begun s t (rw e at x));
        once = λ s t x. i.once s t (before_old b l (λ z. n (all_is a z)) x);
      }

  pub writes_kept : {house : House} → (1 ≡ k → ⊥) → q.has ≡ p.has → q.keys ≡ p.keys → Writes house b p → Writes house (b ++ l) q
  writes_kept n h e i =
      record {
        wrote = λ t j v x. rw (h, e) (i.wrote t j v (old b l a n x));
        last = λ s t j x w.
            let (o, z) = i.last s t j (rw h at x) (rw e at w) in
            (o, rw e (last_kept l (λ u y. n (all_is a y)) z));
        used = λ t j x. rw (h, e) (i.used t j (old b l a n x));
      }

  pub installs_kept : (3 ≡ k → ⊥) → ((s : ℕ) → inst q s ≡ inst p s) → Installs b p → Installs (b ++ l) q
  installs_kept n e i =
      record {
        installed = λ s m c x. rw (e s) (i.installed s m c (old b l a n x));
        installs = λ s j m c x y. is_kept l (i.installs s j m c (rw (e s) at x) (rw (e s) at y));
        once = λ s m c x. i.once s m c (before_old b l (λ z. n (all_is a z)) x);
        many = λ s. rw (e s) (omega (arith, installs_append s b l, installs_other s a n, i.many s));
      }

  -- the installs that a part saw stay
  pub sees_kept : (0 ≡ k → ⊥) → q.has ≡ p.has → q.snap ≡ p.snap
      → ((s t j : ℕ) → p.has s t ≡ true → j < p.snap s t → at q s j ≡ at p s j) → Begins b p → Sees b p → Sees (b ++ l) q
  sees_kept n h e o g i =
      record {
        seen = λ s t m c x.
            let y = before_old b l (λ z. n (all_is a z)) x in
            let (j, d, z) = i.seen s t m c y in
            (j, rw e d, rw (o s t j (g.began s t (before_second y)) d) z);
        before = λ s t j m c x d z.
            let y = rw h at x in
            let f = rw e at d in
            before_kept l (i.before s t j m c y f (rw (o s t j y f) at z));
      }

-- The tables that the book is about, as they were.
abbrev pub Same : Protocol → Protocol → Type 0
Same p q = (q.has ≡ p.has) × (q.snap ≡ p.snap) × (q.keys ≡ p.keys) × (q.num ≡ p.num) × ((s : ℕ) → inst q s ≡ inst p s)

-- an install at the same place
pub at_same : (p q : Protocol) → ((s : ℕ) → inst q s ≡ inst p s) → (s j : ℕ) → at q s j ≡ at p s j
at_same p q e s j = ap (λ (l : List Entry). get_or l j past_entry) (e s)

pub booked_kept : {house : House} {b l : List Fact} {p q : Protocol} (k : ℕ) → OfKind k l → 3 < k → Same p q → Booked house b p
    → Booked house (b ++ l) q
booked_kept {p = p} {q = q} k a h (e, f, g, n, o) i =
    record {
      commits = commits_kept a (λ z. omega arith) n i.commits;
      begins = begins_kept a (λ z. omega arith) e i.begins;
      writes = writes_kept a (λ z. omega arith) e g i.writes;
      installs = installs_kept a (λ z. omega arith) o i.installs;
      sees = sees_kept a (λ z. omega arith) e f (λ s t j x d. at_same p q o s j) i.begins i.sees;
    }

-- a move that tells nothing
pub booked_quiet : {house : House} {b : List Fact} {p q : Protocol} → Same p q → Booked house b p → Booked house (b ++ []) q
booked_quiet e i = booked_kept 4 a_nil (omega arith) e i

-- a replay is no matter of the sites
pub booked_replayed : {house : House} {b : List Fact} {p : Protocol} → Booked house b p → (c n d : ℕ)
    → Booked house (b ++ (book.replayed c n d ∷ [])) p
booked_replayed i c n d = booked_kept 4 (all_one refl) (omega arith) same i
