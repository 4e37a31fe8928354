-- The book after a decision, and after an install.
use Prim.Native.Nat.{ℕ, ◌≤◌, ◌<◌}
use mathlib.Core.Path.{◌≡◌, refl, sym, ◌∙◌}
use mathlib.Core.Bool.{true}
use mathlib.Core.Logic.{◌⊎◌, inl, inr}
use mathlib.Core.List.{List, [], ◌∷◌, ◌++◌}
use native.Mathlib.Omega.{arith}
use lib.ListN.{length, get_or, length-append, get_or-append}
use lib.Seq.{get_or-append_seam}
use Rattle.kinds.specs.declared.House.{House}
use Rattle.laws.specs.Choice.{by_same}
use Rattle.kinds.specs.declared.Entry.{Entry}
use Rattle.kinds.specs.State.{past_entry}
use Rattle.rules.specs.House.{coordinator_of}
use Rattle.rules.specs.World.{Member, here, there, upd}
use Rattle.rules.specs.Book as book
use Rattle.rules.specs.Book.{Fact}
use Rattle.rules.specs.Claim.{Before}
use Rattle.rules.specs.Snapshots.{installs_in}
use Rattle.rules.proofs.Lists.Tables.{upd_same, upd_other, upd_cases, all_one, last_cases, is_append}
use Rattle.rules.proofs.Protocol.ProtocolTables.{Protocol, r_part, inst}
use Rattle.rules.proofs.Protocol.Invariants.{at}
use Rattle.rules.proofs.Steps.StepParts.{parts_append, inst_cases}
use Rattle.rules.proofs.Book.BookLists.{is_kept, is_last, installs_append, install_here, install_away, before_append, not_alone}
use Rattle.rules.proofs.Book.BookLists.{OfKind}
use Rattle.rules.proofs.Book.Booked.{PairAt, Booked}
use Rattle.rules.proofs.Book.BookKept.{commits_kept, begins_kept, writes_kept, installs_kept, sees_kept, at_same}

-- t is decided with number n
pub record DecidedAs (p q : Protocol) (t n : ℕ) : Type 0 where
  pub undecided : p.num t ≡ 0
  pub positive : 0 < n
  pub has : q.has ≡ p.has
  pub snap : q.snap ≡ p.snap
  pub keys : q.keys ≡ p.keys
  pub num : q.num ≡ upd p.num t n
  pub parts : (j : ℕ) → inst q j ≡ inst p j

is_committed : {u m d t n c : ℕ} → Member (book.committed u m d) (book.committed t n c ∷ []) → (u ≡ t) × (m ≡ n) × (d ≡ c)
is_committed here = (refl, refl, refl)
is_committed (there i) = elim i [ ]

module _ {house : House} {b : List Fact} {p q : Protocol} {t n : ℕ} (c : DecidedAs p q t n) (i : Booked house b p) where
  abbrev told : List Fact
  told = book.committed t n (coordinator_of t) ∷ []

  decided_kind : OfKind 2 told
  decided_kind = all_one refl

  commit : (u m d : ℕ) → Member (book.committed u m d) b ⊎ Member (book.committed u m d) told
      → (0 < q.num u) × (q.num u ≡ m) × (coordinator_of u ≡ d)
  commit u m d (inl x) =
      let (z, e, f) = i.commits.commit u m d x in
      let y : q.num u ≡ p.num u =
      rw c.num (upd_cases (λ u k. 0 < p.num u → k ≡ p.num u) p.num t n (λ z. absurd (omega (arith, c.undecided)))
      (λ u o z. refl) u z) in
      (rw y z, y ∙ e, f)
  commit u m d (inr x) =
      let (e, f, g) = is_committed x in
      let y : q.num u ≡ n = rw (c.num, e) (upd_same p.num t n) in
      (rw y c.positive, y ∙ sym f, rw (e, g))

  committed : (u : ℕ) → 0 < q.num u → Member (book.committed u (q.num u) (coordinator_of u)) (b ++ told)
  committed = rw c.num
      (upd_cases (λ u k. 0 < k → Member (book.committed u k (coordinator_of u)) (b ++ told)) p.num t n (λ z. is_last b)
      (λ u o z. is_kept told (i.commits.committed u z)))

  pub booked_decided : Booked house (b ++ (book.committed t n (coordinator_of t) ∷ [])) q
  booked_decided =
      record {
        commits = record { commit = λ u m d x. commit u m d (is_append b told x); committed = committed };
        begins = begins_kept decided_kind (λ z. omega arith) c.has i.begins;
        writes = writes_kept decided_kind (λ z. omega arith) c.has c.keys i.writes;
        installs = installs_kept decided_kind (λ z. omega arith) c.parts i.installs;
        sees = sees_kept decided_kind (λ z. omega arith) c.has c.snap (λ s u j x d. at_same p q c.parts s j) i.begins i.sees;
      }

-- entry e is installed at s
pub record InstalledAs (p q : Protocol) (s : ℕ) (e : Entry) : Type 0 where
  pub low : (j u : ℕ) → p.has j u ≡ true → p.snap j u ≤ length (inst p j)
  pub new : (m : ℕ) → m < length (inst p s) → PairAt p s m e.number (coordinator_of e.tx) → ⊥
  pub has : q.has ≡ p.has
  pub snap : q.snap ≡ p.snap
  pub keys : q.keys ≡ p.keys
  pub num : q.num ≡ p.num
  pub log : q.log ≡ upd p.log s (p.log s ++ (r_part e ∷ []))

is_installed : {j m d s n c : ℕ} → Member (book.installed j m d) (book.installed s n c ∷ []) → (j ≡ s) × (m ≡ n) × (d ≡ c)
is_installed here = (refl, refl, refl)
is_installed (there i) = elim i [ ]

-- the m-th of a list of installs has this pair
abbrev PairIn : List Entry → ℕ → ℕ → ℕ → Type 0
PairIn l m n d = ((get_or l m past_entry).number ≡ n) × (coordinator_of (get_or l m past_entry).tx ≡ d)

module _ {house : House} {b : List Fact} {p q : Protocol} {s : ℕ} {e : Entry} (c : InstalledAs p q s e) (i : Booked house b p) where
  abbrev fact : List Fact
  fact = book.installed s e.number (coordinator_of e.tx) ∷ []

  installed_kind : OfKind 3 fact
  installed_kind = all_one refl

  -- the installs before it stay in their places
  stays : (m j : ℕ) → m < length (inst p j) → at q j m ≡ at p j m
  stays m = rw c.log
      (inst_cases p (λ j l. m < length (inst p j) → get_or l m past_entry ≡ at p j m) s e
      (λ h. get_or-append (inst p s) (e ∷ []) past_entry m h) (λ j h. refl))

  longer : (j : ℕ) → length (inst p j) ≤ length (inst q j)
  longer = rw c.log
      (inst_cases p (λ j l. length (inst p j) ≤ length l) s e (omega (arith, length-append (inst p s) (e ∷ []))) (λ j. omega arith))

  new : inst q s ≡ inst p s ++ (e ∷ [])
  new = rw (c.log, upd_same p.log s (p.log s ++ (r_part e ∷ []))) (parts_append (p.log s) (r_part e ∷ []))

  installed : (j n d : ℕ) → Member (book.installed j n d) b ⊎ Member (book.installed j n d) fact
      → (m : ℕ) × (m < length (inst q j)) × PairAt q j m n d
  installed j n d (inl x) =
      let (m, h, y) = i.installs.installed j n d x in
      (m, omega (arith, longer j), rw (stays m j h) y)
  installed j n d (inr x) =
      let (f, g, h) = is_installed x in
      rw (f, new) (
        length (inst p s),
        omega (arith, length-append (inst p s) (e ∷ [])),
        rw (get_or-append_seam (inst p s) e [] past_entry) (sym g, sym h),
      )

  installs : (n d j m : ℕ) → m < length (inst q j) → PairAt q j m n d → Member (book.installed j n d) (b ++ fact)
  installs n d = rw c.log
      (inst_cases p (λ j l. (m : ℕ) → m < length l → PairIn l m n d → Member (book.installed j n d) (b ++ fact)) s e
      (last_cases (λ m a. (a.number ≡ n) × (coordinator_of a.tx ≡ d) → Member (book.installed s n d) (b ++ fact)) (inst p s) e past_entry
      (λ m h y. is_kept fact (i.installs.installs s m n d h y)) (λ y. rw (← y.0, ← y.1) (is_last b)))
      (λ j m h y. is_kept fact (i.installs.installs j m n d h y)))

  -- its pair was not installed here before
  once : (j n d : ℕ)
      → Before (book.installed j n d) (book.installed j n d) b
      ⊎ ((Member (book.installed j n d) b × Member (book.installed j n d) fact) ⊎ Before (book.installed j n d)
      (book.installed j n d) fact) → ⊥
  once j n d (inl x) = i.installs.once j n d x
  once j n d (inr (inl (x, y))) =
      let (f, g, h) = is_installed y in
      let (m, o, z) = rw (f, g, h) at (i.installs.installed j n d x) in
      c.new m o z
  once j n d (inr (inr x)) = not_alone x

  -- there is one more here
  many : (j : ℕ) → installs_in j (b ++ fact) ≡ length (inst q j)
  many j =
      by_same j s
      (λ z. rw (z, new) (omega (
        arith,
        length-append (inst p s) (e ∷ []),
        installs_append s b fact,
        install_here s e.number
            (coordinator_of e.tx),
        i.installs.many s,
      )))
      (λ z. rw (c.log, upd_other p.log s (p.log s ++ (r_part e ∷ [])) j z)
      (omega (arith, installs_append j b fact, install_away j s e.number (coordinator_of e.tx) z, i.installs.many j)))

  pub booked_installed : Booked house (b ++ (book.installed s e.number (coordinator_of e.tx) ∷ [])) q
  booked_installed =
      record {
        commits = commits_kept installed_kind (λ z. omega arith) c.num i.commits;
        begins = begins_kept installed_kind (λ z. omega arith) c.has i.begins;
        writes = writes_kept installed_kind (λ z. omega arith) c.has c.keys i.writes;
        installs = record {
          installed = λ j n d x. installed j n d (is_append b fact x);
          installs = λ j m n d. installs n d j m;
          once = λ j n d x. once j n d (before_append b fact x);
          many = many;
        };
        sees = sees_kept installed_kind (λ z. omega arith) c.has c.snap (λ j u m x d. stays m j (omega (arith, c.low j u x)))
            i.begins i.sees;
      }
