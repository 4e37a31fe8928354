-- A move as one change, from which every group is shown: what stays, what is new, what becomes of parts and logs.
use Prim.Native.Nat.{ℕ, ◌≤◌, ◌<◌}
use mathlib.Core.Path.{◌≡◌, refl, sym, ◌∙◌}
use mathlib.Core.Bool.{true, false}
use mathlib.Core.Logic.{◌⊎◌, inl, inr, ⊎_elim}
use mathlib.Core.List.{List, [], ◌∷◌, ◌++◌}
use native.Mathlib.Omega.{arith}
use native.Mathlib.Nat.{eq-or-lt_of_le}
use lib.ListN.{length, get_or, length-append, get_or-append}
use lib.Seq.{get_or-append_seam}
use Rattle.kinds.specs.declared.House.{House}
use Rattle.laws.specs.Choice.{set_not}
use Rattle.kinds.specs.Stage as stage
use Rattle.kinds.specs.declared.Entry.{Entry}
use Rattle.kinds.specs.State.{past_entry}
use Rattle.rules.specs.Install.{entry_of}
use Rattle.rules.proofs.Protocol.ProtocolTables.{Protocol, Rec, r_part, parts_of, inst}
use Rattle.rules.proofs.Protocol.Protocol.{AtStage, LeastQueued, Move}
use Rattle.rules.proofs.Protocol.Invariants.{Held, at, Installed, Parts, Courses, Invariant}
use Rattle.rules.proofs.Protocol.Later.{Later, later}
use Rattle.rules.proofs.Steps.StepParts.{parts_append, parts_state, parts_step}
use Rattle.rules.proofs.Steps.StepCourses.{courses_step}
use Rattle.rules.proofs.Protocol.Turns.{Turn, t_stays, t_moves, t_reads, t_aborts, t_installs, t_begins, Logged, l_same, l_part}
use Rattle.rules.proofs.Protocol.Turns.{l_state}
use Rattle.rules.proofs.Protocol.Turns.{turns, logs}
use Rattle.rules.proofs.Protocol.News.{News, news}

pub record Change (house : House) (p q : Protocol) : Type 0 where
  pub later : Later p q
  pub news : News p q
  pub turns : (s t : ℕ) → Turn p q s t (q.live s t)
  pub logs : (s : ℕ) → Logged p s (q.log s)
  pub parts : Parts house q
  pub courses : Courses q

pub change : (house : House) (p q : Protocol) → house.sites ≤ 8 → Move house p q → Invariant house p → Change house p q
change house p q h m i =
    record {
      later = later house p i q m;
      news = news i q m;
      turns = turns i q m;
      logs = logs i q m;
      parts = parts_step house p q h m i;
      courses = courses_step house p q h m i;
    }

-- t was installed in the move
abbrev pub InstalledNow : Protocol → ℕ → ℕ → Entry → Type 0
InstalledNow p s j e = (t : ℕ) × AtStage p s t stage.decided × LeastQueued p s t × (j ≡ length (inst p s)) × (e ≡ entry_of (p.live s t))

-- Logs with at most one record more.
kept_at : (p : Protocol) (s : ℕ) (l : List Rec) → Logged p s l → (j : ℕ) → j < length (inst p s)
    → (j < length (parts_of l)) × (get_or (parts_of l) j past_entry ≡ at p s j)
kept_at p s l (l_same e) j h = rw e (h, refl)
kept_at p s l (l_part t d f e) j h =
    rw (e, parts_append (p.log s) (r_part (entry_of (p.live s t)) ∷ [])) (
      omega (arith, length-append (inst p s) (entry_of (p.live s t) ∷ [])),
      get_or-append (inst p s) (entry_of (p.live s t) ∷ []) past_entry j h,
    )
kept_at p s l (l_state n a e) j h = rw (e, parts_state (p.log s) n) (h, refl)

new_at : (p : Protocol) (s : ℕ) (l : List Rec) → Logged p s l → (j : ℕ) → j < length (parts_of l)
    → (j < length (inst p s)) ⊎ InstalledNow p s j (get_or (parts_of l) j past_entry)
new_at p s l (l_same e) j h = inl (rw e at h)
new_at p s l (l_part t d f e) j h =
    let x = parts_append (p.log s) (r_part (entry_of (p.live s t)) ∷ []) in
    let z : j < length (inst p s ++ (entry_of (p.live s t) ∷ [])) = rw (e, x) at h in
    ⊎_elim
    (λ (k : j ≡ length (inst p s)). inr (t, d, f, k, rw (e, x, k) (get_or-append_seam (inst p s) (entry_of (p.live s t)) [] past_entry)))
    (λ (k : j < length (inst p s)). inl k)
    (eq-or-lt_of_le (omega (arith, length-append (inst p s) (entry_of (p.live s t) ∷ []))))
new_at p s l (l_state n a e) j h = inl (rw (e, parts_state (p.log s) n) at h)

-- the account of a part stays, but for the keys of an active one, or begins
abbrev Stays : Protocol → Protocol → ℕ → ℕ → Type 0
Stays p q s t = (q.has s t ≡ p.has s t) × (q.snap s t ≡ p.snap s t) × ((AtStage q s t stage.active → ⊥) → q.keys s t ≡ p.keys s t)

abbrev Begun : Protocol → Protocol → ℕ → ℕ → Type 0
Begun p q s t = (p.has s t ≡ true → ⊥) × (q.has s t ≡ true) × Held q s t

module _ {house : House} {p : Protocol} (i : Invariant house p) {q : Protocol} (c : Change house p q) where
  -- Logs.
  pub stands : (s j : ℕ) → j < length (inst p s) → (j < length (inst q s)) × (at q s j ≡ at p s j)
  stands s = kept_at p s (q.log s) (c.logs s)

  pub stood : (s j : ℕ) → j < length (inst q s) → (j < length (inst p s)) ⊎ InstalledNow p s j (at q s j)
  stood s = new_at p s (q.log s) (c.logs s)

  pub still_installed : (s t : ℕ) → Installed p s t → Installed q s t
  still_installed s t (j, (l, e)) = let k = stands s j l in (j, (k.0, rw k.1 e))

  -- The account of a part.
  account : (s t : ℕ) → Stays p q s t ⊎ Begun p q s t
  account s t = go (c.turns s t)
    where
      go : Turn p q s t (q.live s t) → Stays p q s t ⊎ Begun p q s t
      go (t_stays e a b) = inl (e.0, e.1, λ n. e.2)
      go (t_moves e a b d f g) = inl (e.0, e.1, λ n. e.2)
      go (t_reads e a b d f g) = inl (e, a, λ n. absurd (n d))
      go (t_aborts e a b d) = inl (e.0, e.1, λ n. e.2)
      go (t_installs e a b d) = inl (e.0, e.1, λ n. e.2)
      go (t_begins a b d e) = inr (a, b, λ f. omega arith)

  pub part_new : (s t : ℕ) → q.has s t ≡ true → (p.has s t ≡ true) ⊎ Held q s t
  part_new s t h = ⊎_elim (λ x. inl (rw x.0 at h)) (λ x. inr x.2) (account s t)

  pub snap_kept : (s t : ℕ) → p.has s t ≡ true → q.snap s t ≡ p.snap s t
  snap_kept s t h = ⊎_elim (λ x. x.1) (λ x. absurd (x.0 h)) (account s t)

  pub keys_kept : (s t : ℕ) → p.has s t ≡ true → (AtStage q s t stage.active → ⊥) → q.keys s t ≡ p.keys s t
  keys_kept s t h n = ⊎_elim (λ x. x.2 n) (λ x. absurd (x.0 h)) (account s t)

  -- a snapshot is a begun part's
  pub snap_has : (s t : ℕ) → 0 < q.snap s t → q.has s t ≡ true
  snap_has s t h = ⊎_elim (λ x. x.0 ∙ i.account.snap s t (rw x.1 at h)) (λ x. x.1) (account s t)

  -- Stages.
  pub held_kept : (s t : ℕ) → Held p s t → q.dead t ≡ false → Held q s t ⊎ Installed q s t
  held_kept s t h n = go (c.turns s t)
    where
      go : Turn p q s t (q.live s t) → Held q s t ⊎ Installed q s t
      go (t_stays e a b) = inl (λ f. h (sym a ∙ f))
      go (t_moves e a b d f g) = inl d
      go (t_reads e a b d f g) = inl (λ z. omega arith)
      go (t_aborts e a b d) = absurd (set_not _ d n)
      go (t_installs e a b d) = inr d
      go (t_begins a b d e) = inl (λ f. omega arith)

  pub free_kept : (s t : ℕ) → p.has s t ≡ true → AtStage p s t stage.free → AtStage q s t stage.free
  free_kept s t h n = go (c.turns s t)
    where
      go : Turn p q s t (q.live s t) → AtStage q s t stage.free
      go (t_stays e a b) = a ∙ n
      go (t_moves e a b d f g) = absurd (a n)
      go (t_reads e a b d f g) = absurd (omega arith)
      go (t_aborts e a b d) = b
      go (t_installs e a b d) = b
      go (t_begins a b d e) = absurd (a h)

  pub decided_kept : (s t : ℕ) → AtStage p s t stage.decided → AtStage q s t stage.decided ⊎ Installed q s t
  decided_kept s t n = go (c.turns s t)
    where
      go : Turn p q s t (q.live s t) → AtStage q s t stage.decided ⊎ Installed q s t
      go (t_stays e a b) = inl (a ∙ n)
      go (t_moves e a b d f g) = absurd (b n)
      go (t_reads e a b d f g) = absurd (omega arith)
      go (t_aborts e a b d) = absurd (a n)
      go (t_installs e a b d) = inr d
      go (t_begins a b d e) = absurd (a (i.parts.has s t (λ f. omega arith)))

  -- what t saw, it saw before
  pub saw : (s t j : ℕ) → p.has s t ≡ true → j < q.snap s t → (j < p.snap s t) × (j < length (inst p s)) × (at q s j ≡ at p s j)
  saw s t j h l =
      let k : j < p.snap s t = rw (snap_kept s t h) at l in
      let n : j < length (inst p s) = omega (arith, i.parts.low s t h) in
      (k, n, (stands s j n).1)
