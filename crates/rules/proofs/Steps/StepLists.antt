-- Lists after a move: when a list is made it has every transaction that its own may have seen elsewhere; after that nothing that it speaks
-- of
-- changes. A yes is given on the list that was certified.
use Prim.Native.Nat.{ℕ, ◌≤◌, ◌<◌}
use mathlib.Core.Path.{◌≡◌, refl, sym}
use mathlib.Core.Bool.{true, false}
use mathlib.Core.Logic.{◌⊎◌, inl, inr}
use mathlib.Core.List.{List}
use native.Mathlib.Omega.{arith}
use borrow.Author.Tests.{ltb-true, ltb-false, le-leb}
use lib.Dec.{ltb}
use lib.ListN.{length}
use Rattle.kinds.specs.declared.House.{House}
use Rattle.laws.specs.Choice.{by_test, set_not}
use Rattle.kinds.specs.Stage as stage
use Rattle.kinds.specs.declared.Sub.{Sub}
use Rattle.rules.specs.House.{in_mask}
use Rattle.rules.specs.Message.{entry_tx, entry_mask, entry_mark, entry_count}
use Rattle.rules.specs.Keys.{dependent}
use Rattle.rules.specs.Live.{is_prepared}
use Rattle.rules.proofs.Protocol.ProtocolTables.{Protocol, inst}
use Rattle.rules.proofs.Protocol.Protocol.{AtStage, Covers, Listed, Move, fresh_protocol}
use Rattle.rules.proofs.Protocol.Invariants.{Held, at, InstalledAs, Installed, Seen, Account, Lists, Invariant}
use Rattle.rules.proofs.Protocol.News.{MadeNow, YesNow}
use Rattle.rules.proofs.Protocol.Changes.{Change, change, stands, snap_kept, keys_kept, saw}
use Rattle.rules.proofs.Protocol.Committed.{committed_asked, committed_alive, committed_yes}
use Rattle.rules.proofs.Steps.StepAccount.{account_of, part_had}

past_active : (b : Sub) → (b.course.stage ≡ stage.free → ⊥) → (b.course.stage ≡ stage.active → ⊥) → is_prepared b ≡ true
unfolding is_prepared
past_active b f a = le-leb stage.prepared b.course.stage (omega arith)

-- t saw u at s, or has u on its list es of s
abbrev Covered : Protocol → ℕ → ℕ → ℕ → List ℕ → Type 0
Covered p s t u es = Seen p s t u ⊎ Listed es u (p.mask u) (dependent (p.keys s t) (p.keys s u))

-- The list that t makes at s now, and a committed u with a part there: seen, or listed.
module _ {house : House} {p : Protocol} (i : Invariant house p) (s t u : ℕ) (es : List ℕ) (a : AtStage p s t stage.active)
    (v : Covers p s t es)
    (n : u ≡ t → ⊥) (z : 0 < p.num u) (h : p.has s u ≡ true) where
  held_t : Held p s t
  held_t f = omega arith

  by_held : Held p s u → Covered p s t u es
  by_held x =
      let y : AtStage p s u stage.active
      → ⊥ = λ f. set_not _ (committed_yes i.parts i.account u z s h).0 (i.courses.active s u f).1 in
      inr (rw ((i.courses.mask s u x y).1, i.parts.keys s t held_t, i.parts.keys s u x) at
      (v.prepared u n (past_active (p.live s u) x y)))

  by_installed : Installed p s u → Covered p s t u es
  by_installed (j, (l, e)) =
      by_test (ltb j (p.snap s t))
      (λ x. inl (j, (l, e), ltb-true j (p.snap s t) x))
      (λ x. inr (rw ((i.account.entry s j l).2, i.parts.entry_keys s j l, i.parts.keys s t held_t, e)
      at (v.installed j (rw (i.parts.snap s t held_t) (ltb-false j (p.snap s t) x)) l)))

  covered_now : Covered p s t u es
  covered_now = go (i.account.kept s u h (committed_alive i.parts i.account u z))
    where
      go : Held p s u ⊎ Installed p s u → Covered p s t u es
      go (inl x) = by_held x
      go (inr x) = by_installed x

module _ {house : House} {p : Protocol} (i : Invariant house p) {q : Protocol} (c : Change house p q) where
  after : Account q
  after = account_of i c

  -- what t, asked for, saw, it saw before
  seen_was : (s t u : ℕ) → q.asked t ≡ true → Seen q s t u → Seen p s t u
  seen_was s t u a (j, (l, e), k) =
      let x = saw i c s t j (part_had i c t s a (after.snap s t (omega arith))) k in
      (j, (x.1, rw x.2 at e), x.0)

  cover : (t u s r : ℕ) → (t ≡ u → ⊥) → q.made s t ≡ true → q.has s u ≡ true → Seen q r t u → Covered q s t u (q.list s t)
  cover t u s r n m h (j, (l, e), k) = go (c.news.made s t m)
    where
      asked : q.asked t ≡ true
      asked = (after.made s t m).0

      num : 0 < q.num u
      num = rw e at (after.entry r j l).1

      had_u : p.has s u ≡ true
      had_u = part_had i c u s (committed_asked c.parts after u num) h

      had_t : p.has s t ≡ true
      had_t = part_had i c t s asked (after.asked_has t s asked ((c.parts.site s u h).0, (after.made s t m).1))

      seen : Seen p r t u
      seen = seen_was r t u asked (j, (l, e), k)

      num_was : 0 < p.num u
      num_was = let (x, (y, z), w) = seen in rw z at (i.account.entry r x y).1

      keys_t : q.keys s t ≡ p.keys s t
      keys_t = keys_kept i c s t had_t (λ f. set_not _ m (c.courses.active s t f).0)

      keys_u : q.keys s u ≡ p.keys s u
      keys_u = keys_kept i c s u had_u (λ f. set_not _ (committed_yes c.parts after u num s h).0 (c.courses.active s u f).1)

      mask_u : q.mask u ≡ p.mask u
      mask_u = (c.later.asked u (committed_asked i.parts i.account u num_was)).1

      now : Covered p s t u (q.list s t) → Covered q s t u (q.list s t)
      now (inl (x, (y, z), w)) = let b = stands i c s x y in inl (x, (b.0, rw b.1 z), rw (snap_kept i c s t had_t) w)
      now (inr x) = inr (rw (mask_u, keys_t, keys_u) x)

      go : (p.made s t ≡ true) ⊎ MadeNow p q s t (q.list s t) → Covered q s t u (q.list s t)
      go (inl x) = now (rw (c.later.made s t x).1 (i.lists.cover t u s r n x had_u seen))
      go (inr (x, v, y, z)) = now (covered_now i s t u (q.list s t) x v (λ f. n (sym f)) num_was had_u)

  yes : (s t j x : ℕ) → q.yes s t ≡ true → j < entry_count (q.cert t) → in_mask (entry_mask (q.cert t) j) s ≡ true
      → InstalledAs q s (entry_tx (q.cert t) j) x → x < q.snap s t
      → (entry_mark (q.cert t) j ≡ 1 → ⊥) × (dependent (q.keys s t) (q.keys s (entry_tx (q.cert t) j)) ≡ false)
  yes s t j x y l m (b, e) k = rw (keys_t, keys_u) (go (c.news.yes s t y))
    where
      u : ℕ
      u = entry_tx (q.cert t) j

      had : p.has s t ≡ true
      had = part_had i c t s (after.certed_asked t (after.yes s t y).0) (after.snap s t (omega arith))

      seen : (x < p.snap s t) × (x < length (inst p s)) × (at q s x ≡ at p s x)
      seen = saw i c s t x had k

      is : (at p s x).tx ≡ u
      is = rw seen.2 at e

      keys_t : q.keys s t ≡ p.keys s t
      keys_t = keys_kept i c s t had (λ f. set_not _ y (c.courses.active s t f).1)

      keys_u : q.keys s u ≡ p.keys s u
      keys_u = keys_kept i c s u (rw is at (i.parts.entry_has s x seen.1))
          (λ f. let g = rw e at (c.parts.entry_gone s x b) in omega arith)

      go : (p.yes s t ≡ true) ⊎ YesNow p q s t (q.queue_mark s t)
          → (entry_mark (q.cert t) j ≡ 1 → ⊥) × (dependent (p.keys s t) (p.keys s u) ≡ false)
      go (inl z) =
          let o = (c.later.certed t (i.account.yes s t z).0).1 in
          rw o (i.lists.yes s t j x z (rw o at l) (rw o at m) (seen.1, rw o at is) seen.0)
      go (inr (a, v, d, f, g)) =
          let h : Held p s t = λ f. omega arith in
          let r = v j x l m seen.1 (rw (i.parts.snap s t h) seen.0) is in
          (r.0, rw (i.parts.keys s t h, i.parts.entry_keys s x seen.1, is) at r.1)

pub lists_step : (house : House) (p q : Protocol) → house.sites ≤ 8 → Move house p q → Invariant house p → Lists q
lists_step house p q h m i =
    let c = change house p q h m i in
    record { cover = cover i c; yes = yes i c }

pub lists_fresh : Lists fresh_protocol
unfolding fresh_protocol
lists_fresh = record { cover = λ t u s r n m. absurd (set_not false m refl); yes = λ s t j x y. absurd (set_not false y refl) }
