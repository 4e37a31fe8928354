-- The merger's invariant over an emit: what is emitted is above all that was, and no committed transaction below it is left out. It is
-- enough to look at the log of that transaction's coordinator, where what stands before it is below it.
use Prim.Native.Nat.{ℕ, ◌≤◌, ◌<◌}
use mathlib.Core.Path.{◌≡◌, refl, sym, ap, ◌∙◌}
use mathlib.Core.Bool.{true}
use mathlib.Core.Logic.{◌⊎◌, inl, inr, ⊎_elim}
use mathlib.Core.List.{List, [], ◌∷◌, ◌++◌, append_assoc, append-nil}
use native.Mathlib.Nat.{eq-or-lt_of_le}
use native.Mathlib.Omega.{arith}
use borrow.Author.Tests.{ltb-true, ltb-false}
use lib.Dec.{ltb}
use lib.ListN.{length, length-append, get_or-append}
use lib.Seq.{get_or-append_seam}
use Rattle.kinds.specs.declared.House.{House}
use Rattle.laws.specs.Choice.{by_test, set_not}
use Rattle.laws.specs.Pair.{rank}
use Rattle.kinds.specs.Stage as stage
use Rattle.kinds.specs.declared.Entry.{Entry}
use Rattle.rules.specs.House.{coordinator_of, in_mask}
use Rattle.rules.proofs.Lists.Tables.{last_cases}
use Rattle.rules.proofs.Protocol.ProtocolTables.{Protocol, inst}
use Rattle.rules.proofs.Protocol.Protocol.{AtStage}
use Rattle.rules.proofs.Protocol.Invariants.{at, In, Installed, Invariant}
use Rattle.rules.proofs.Protocol.Committed.{low_coordinator, committed_asked, coordinator_site}
use Rattle.rules.proofs.Stream.Stream.{Item, Merger, rank_of, item_rank, DueAt, SameHead, WholeAt, Emits, head_keys, behind_head, item_of}
use Rattle.rules.proofs.Stream.Stream.{emitted}
use Rattle.rules.proofs.Stream.StreamInv.{past_item, item_at, Out, parts_at, Streamed, Real, gone, parts_at_append, head_real, not_gone}
use Rattle.rules.proofs.Stream.StreamDue.{due_low, due_below, due_behind, head_not_out}

module _ {house : House} (low : house.sites ≤ 8) {p : Protocol} {m : Merger} (inv : Invariant house p) (i : Streamed house p m) {g : Entry}
    (d : Emits house m g) where
  real : Real p d.site g
  real = head_real inv i d.site g d.behind d.site_low d.head

  g_low : coordinator_of g.tx ≤ 8
  g_low = low_coordinator low inv.parts d.site g.tx real.has

  -- every clock is at or above g
  clocks : (s : ℕ) → 1 ≤ s → s ≤ house.sites → g.number ≤ p.clock s
  clocks s l h = due_low low inv i g s l (d.due s l h) (p.clock s) (inv.clocks.log s)

  -- A committed transaction that was not emitted is above g, or is g's: its coordinator's log tells.
  module _ (u : ℕ) (n : 0 < p.num u) (site : (1 ≤ coordinator_of u) × (coordinator_of u ≤ house.sites)) where
    abbrev Ahead : Type 0
    Ahead = (rank_of g < rank (p.num u) (coordinator_of u)) ⊎ (g.tx ≡ u)

    due_there : DueAt g (m.state (coordinator_of u)) (m.queue (coordinator_of u))
    due_there = d.due (coordinator_of u) site.0 site.1

    -- there, as the j-th part
    behind : (j : ℕ) → j < length (inst p (coordinator_of u)) → (at p (coordinator_of u) j).tx ≡ u
        → length (gone inv i (coordinator_of u)) ≤ j → Ahead
    behind j l e h =
        let c = coordinator_of u in
        let ranks : rank_of (at p c j) ≡ rank (p.num u) c =
        omega (arith, (inv.account.entry c j l).0, ap p.num e, ap coordinator_of e) in
        ⊎_elim
        (λ (a : rank_of g < rank_of (at p c j)). inl (omega arith))
        (λ (a : (q : List Entry) × (m.queue c ≡ at p c j ∷ q) × (rank_of g ≤ rank_of (at p c j))).
        ⊎_elim
        (λ (z : rank_of g ≡ rank_of (at p c j)). inr
        (inv.clocks.once g.tx u real.committed (sym real.number ∙ omega (arith, g_low)) (omega (arith, g_low))))
        (λ (z : rank_of g < rank_of (at p c j)). inl (omega arith))
        (eq-or-lt_of_le a.2))
        (due_behind low inv i g c site.0 due_there g_low j l h)

    ahead : Out m u ⊎ Ahead
    ahead = go (inv.order.held u n)
      where
        go : AtStage p (coordinator_of u) u stage.decided ⊎ Installed p (coordinator_of u) u → Out m u ⊎ Ahead
        go (inl a) =
            inr (inl (due_below low inv i g (coordinator_of u) site.0 due_there g_low (p.num u) (coordinator_of u) n
            (inv.order.decided (coordinator_of u) u a)))
        go (inr (j, (l, e))) = ⊎_elim (λ x. inl (rw e at x)) (λ x. inr (behind j l e x)) (not_gone inv i (coordinator_of u) j site.0 l)

  -- g itself was not
  not_out : Out m g.tx → ⊥
  not_out = head_not_out low inv i d.site g d.behind d.site_low d.head

  -- so all that was emitted is below it
  above : (j : ℕ) → j < length m.out → item_rank (item_at m j) < rank_of g
  above j l =
      by_test (ltb (item_rank (item_at m j)) (rank_of g))
      (λ t. ltb-true (item_rank (item_at m j)) (rank_of g) t)
      (λ t. absurd
      (not_out (i.whole g.tx j real.committed l (rw real.number at (ltb-false (item_rank (item_at m j)) (rank_of g) t)))))

  -- The tables after the emit.
  abbrev n : Merger
  n = emitted m g

  abbrev x : Item
  x = item_of g m.queue

  out_kept : (t : ℕ) → Out m t → Out n t
  out_kept t (j, l, e) =
      (j, omega (arith, length-append m.out (x ∷ [])), ap (λ (y : Item). y.tx) (get_or-append m.out (x ∷ []) past_item j l) ∙ e)

  out_new : Out n g.tx
  out_new = (
    length m.out,
    omega (arith, length-append m.out (x ∷ [])),
    ap (λ (y : Item). y.tx) (get_or-append_seam m.out x [] past_item),
  )

  named : in_mask g.mask d.site ≡ true
  named = go (rw d.head at (d.whole d.site d.site_low d.site_high))
    where
      go : WholeAt g d.site (g ∷ d.behind) → in_mask g.mask d.site ≡ true
      go (inl (e, h)) = e
      go (inr (e, h)) = absurd (h refl)

  -- the heads at g's sites are its parts
  abbrev part : ℕ → Entry
  part s = record { tx = g.tx; mask = g.mask; number = g.number; keys = head_keys (m.queue s) }

  head_is : (s : ℕ) (e : Entry) (l : List Entry) → m.queue s ≡ e ∷ l → SameHead g e → e ≡ part s
  head_is s e l q (r, t, k) =
      let y : e.number ≡ g.number = omega (arith, ap coordinator_of t) in
      rw q (λ j. record { tx = t j; mask = k j; number = y j; keys = e.keys })

  popped : (s : ℕ) → 1 ≤ s → parts_at s m.out ++ m.queue s ≡ parts_at s n.out ++ n.queue s
  popped s h =
      by_test (in_mask g.mask s)
      (λ e. let o : In (p.mask g.tx) s = (h, rw real.mask at e) in
      let k = inv.parts.site s g.tx
      (inv.account.asked_has g.tx s (committed_asked inv.parts inv.account g.tx real.committed) o) in
      rw (parts_at_append s m.out (x ∷ []), e) (go e (m.queue s) refl (d.whole s h k.1)))
      (λ e. rw (parts_at_append s m.out (x ∷ []), e, append-nil))
    where
      go : in_mask g.mask s ≡ true → (q : List Entry) → m.queue s ≡ q → WholeAt g s q
          → parts_at s m.out ++ q ≡ (parts_at s m.out ++ (part s ∷ [])) ++ behind_head q
      go e [] f w = absurd (set_not _ e w)
      go e (y ∷ q) f (inl (z, r)) = rw (append_assoc (parts_at s m.out) (part s ∷ []) q, ← head_is s y q f r)
      go e (y ∷ q) f (inr (z, r)) = absurd (set_not _ e z)

  pub streamed_emitted : Streamed house p n
  streamed_emitted =
      record {
        source = λ s.
            record {
              count = (i.source s).count;
              parts = λ h. (i.source s).parts h
                  ∙ popped s h;
              ends = (i.source s).ends;
              below = (i.source s).below;
            };
        clock = λ s j l h. last_cases (λ j y. y.number ≤ p.clock s) m.out x past_item (λ j k. i.clock s j l h k) (clocks s l h) j;
        home = last_cases (λ j y. (s : ℕ) × In y.mask s) m.out x past_item i.home (d.site, (d.site_low, named));
        ascends = λ a b l h. last_cases (λ b y. (a : ℕ) → a < b → item_rank (item_at n a) < item_rank y) m.out x past_item
            (λ b k a l. rw (get_or-append m.out (x ∷ []) past_item a (omega arith)) (i.ascends a b l k))
            (λ a l. rw (get_or-append m.out (x ∷ []) past_item a l) (above a l)) b h a l;
        whole = λ t j z k. last_cases (λ j y. rank (p.num t) (coordinator_of t) ≤ item_rank y → Out n t) m.out x past_item
            (λ j l h. out_kept t (i.whole t j z l h))
            (λ h. upto t z h) j k;
      }
    where
      upto : (t : ℕ) → 0 < p.num t → rank (p.num t) (coordinator_of t) ≤ rank_of g → Out n t
      upto t z h = go (ahead t z (coordinator_site inv t z))
        where
          go : Out m t ⊎ ((rank_of g < rank (p.num t) (coordinator_of t)) ⊎ (g.tx ≡ t)) → Out n t
          go (inl a) = out_kept t a
          go (inr (inl a)) = absurd (omega arith)
          go (inr (inr a)) = let (j, l, e) = out_new in (j, l, e ∙ a)
