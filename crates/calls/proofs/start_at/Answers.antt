-- The parts of the tables have the lengths that a start asks for, so the core is a fresh one wherever the house has the site.
use Rattle.std.proofs.Common.{◌≡◌, ℕ, ◌+◌, ◌-◌, ◌*◌, ◌≤◌, List, length, take, drop, arith, eq-eqb, length-drop}
use lib.Dec.{eqb}
use lib.ListN.{length-take}
use Rattle.laws.specs.Choice.{pick}
use Rattle.kinds.specs.Sizes as sizes
use Rattle.kinds.specs.declared.Core.{Core}
use Rattle.rules.specs.Install.{start_code}
use Rattle.rules.specs.House.{house_of, no_house}
use Rattle.lent.specs.Lent.{lent_ok, lent_sites}
use Rattle.lent.specs.Laws.{Lengths}
use Rattle.lent.specs.Fresh.{started_code, fresh_core}
use Rattle.calls.proofs.start_at.Goals as goal

-- the words from a on that a site with n of them is lent
abbrev cut : List ℕ → ℕ → ℕ → List ℕ
cut l a n = take (a + n - a) (drop a l)

cut-length : (l : List ℕ) (a n m : ℕ) → length l ≡ m → a + n ≤ m → length (cut l a n) ≡ n
cut-length l a n m e h = simp (length-take, length-drop) (omega (arith, e, h))

-- a start that is lent tables of these lengths, and first keys
abbrev Left : ℕ → List ℕ → ℕ → ℕ → Core → Type 0
Left n table own code r = r ≡ pick (eqb code 0) (fresh_core (house_of n table) own) (fresh_core no_house 0)

started : (n : ℕ) (table firsts : List ℕ) (own base lists : ℕ) (w h : List ℕ) (r : Core)
    → Left n table own (started_code n table own w h base lists) r
    → Lengths w h → base ≡ sizes.base → lists ≡ sizes.lists → table ≡ firsts
    → Left n firsts own (start_code n firsts own sizes.base sizes.lists) r
unfolding start_code lent_sites lent_ok
started n table firsts own base lists w h r e k p q f =
    rw f at (rw (eq-eqb _ _ k.live, eq-eqb _ _ k.history, p, q) at e)

pub returns : goal.returns
returns c =
    let a = c.args in
    let i = a.place in
    let low = c.requires.0 in
    let t = c.requires.1 in
    let w = cut a.live.now (i * sizes.live_words) sizes.live_words in
    let h = cut a.history.now (i * sizes.history_words) sizes.history_words in
    let lengths : Lengths w h =
    record {
      live = cut-length a.live.now (i * sizes.live_words) sizes.live_words _ t.live (omega arith);
      history = cut-length a.history.now (i * sizes.history_words) sizes.history_words _ t.history (omega arith);
    } in
    started a.house.sites _ _ (i + 1) _ _ w h _
    c.start.ensures.started.core
    lengths
    (cut-length a.base.now (i * sizes.base) sizes.base _ t.base (omega arith))
    (cut-length a.lists.now (i * sizes.lists) sizes.lists _ t.lists (omega arith))
    c.front.ensures
