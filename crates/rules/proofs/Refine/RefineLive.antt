-- A site's live table against the protocol's row: where a part stands, and the table with one place changed.
use Prim.Native.Nat.{ℕ, ◌≤◌, ◌<◌}
use mathlib.Core.Path.{◌≡◌, sym, ap, ◌∙◌}
use mathlib.Core.Bool.{true, not}
use mathlib.Core.List.{List, [], ◌∷◌}
use native.Mathlib.Omega.{arith}
use borrow.Author.Tests.{eqb-true, eqb-false, eq-eqb, ne_eqb, not-true}
use lib.Dec.{eqb}
use lib.ListN.{set, length-set}
use lib.Seq.{get_or-set_same, get_or-set_other}
use Rattle.laws.specs.Choice.{every_at, by_test, by_same}
use Rattle.laws.specs.Scan.{at_first, before_first}
use Rattle.kinds.specs.Sizes as sizes
use Rattle.kinds.specs.Stage as stage
use Rattle.kinds.specs.declared.Sub.{Sub}
use Rattle.kinds.specs.State.{past_sub}
use Rattle.rules.specs.House.{coordinator_of}
use Rattle.rules.specs.Live.{part_at, stage_at, free_place, is_part_of, place_of}
use Rattle.rules.specs.World.{upd}
use Rattle.rules.proofs.Lists.Tables.{upd_same, upd_other, upd_cases}
use Rattle.rules.proofs.Refine.Refines.{IsFree, Sized, LiveIs, ListsAre}

-- place i is for transaction t: no other place holds t, and it holds t or nothing
pub record Spot (live : List Sub) (i t : ℕ) : Type 0 where
  pub low : i < sizes.live
  pub alone : (j : ℕ) → j < sizes.live → (IsFree (part_at live j) → ⊥) → (part_at live j).tx ≡ t → j ≡ i
  pub own : (IsFree (part_at live i) → ⊥) → (part_at live i).tx ≡ t

-- a part of t
pub part_is : (b : Sub) (t : ℕ) → is_part_of b t ≡ true → (IsFree b → ⊥) × (b.tx ≡ t)
unfolding is_part_of
part_is b t e =
    let l = not (eqb b.course.stage stage.free) ∷ eqb b.tx t ∷ [] in
    (eqb-false b.course.stage stage.free (not-true _ (every_at l 0 e)), eqb-true b.tx t (every_at l 1 e))

pub is_part : (b : Sub) (t : ℕ) → (IsFree b → ⊥) → b.tx ≡ t → is_part_of b t ≡ true
unfolding is_part_of
is_part b t f e = rw (ne_eqb b.course.stage stage.free f, eq-eqb b.tx t e)

-- a test on a stage, as a case
pub by_free : {P : Type 0} (b : Sub) → (IsFree b → P) → ((IsFree b → ⊥) → P) → P
by_free b f g =
    by_test (eqb b.course.stage stage.free)
    (λ e. f (eqb-true b.course.stage stage.free e))
    (λ e. g (eqb-false b.course.stage stage.free e))

module _ {live : List Sub} {row : ℕ → Sub} (l : LiveIs live row) where
  -- the part of t at its place
  pub held_there : (i t : ℕ) → i < sizes.live → (IsFree (part_at live i) → ⊥) → (part_at live i).tx ≡ t → part_at live i ≡ row t
  held_there i t h f e = l.holds i h f ∙ ap row e

  -- where t is held, its place is found
  pub found_place : (t : ℕ) → place_of live t < sizes.live → is_part_of (part_at live (place_of live t)) t ≡ true
  unfolding place_of
  found_place t h = at_first (λ i. is_part_of (part_at live i) t) sizes.live h

  pub place_held : (t : ℕ) → place_of live t < sizes.live → (part_at live (place_of live t) ≡ row t) × (IsFree (row t) → ⊥) × ((row t).tx ≡ t)
  place_held t h =
      let (f, e) = part_is (part_at live (place_of live t)) t (found_place t h) in
      let q = held_there (place_of live t) t h f e in
      (q, rw q at f, rw q at e)

  pub place_spot : (t : ℕ) → place_of live t < sizes.live → Spot live (place_of live t) t
  place_spot t h =
      let (f, e) = part_is (part_at live (place_of live t)) t (found_place t h) in
      record { low = h; alone = λ j m g x. l.apart j (place_of live t) m h g f (x ∙ sym e); own = λ g. e }

  -- and where it is not, t is not held
  pub place_none : (t : ℕ) → sizes.live ≤ place_of live t → IsFree (row t)
  unfolding place_of
  place_none t h =
      by_free (row t) (λ f. f)
      (λ f. let (i, m, e, x) = l.found t f in
      let y = before_first (λ i. is_part_of (part_at live i) t) sizes.live i (omega arith) in
      let z = is_part (part_at live i) t (rw e f) x in
      absurd (let o : ◌≡◌ {A = ℕ} 0 1 = cc in omega arith))

  -- a free place is one for any transaction not held
  pub free_spot : (t : ℕ) → free_place live < sizes.live → IsFree (row t) → Spot live (free_place live) t
  unfolding free_place
  free_spot t h f =
      let z : IsFree (part_at live (free_place live)) = eqb-true _ _ (at_first (λ i. eqb (stage_at live i) stage.free) sizes.live h) in
      record {
        low = h;
        alone = λ j m g x. absurd (g (ap (λ (b : Sub). b.course.stage) (held_there j t m g x) ∙ f));
        own = λ g. absurd (g z);
      }

  -- One place changed.
  module _ (i t : ℕ) (b : Sub) (s : Spot live i t) (x : (IsFree b → ⊥) → (b.tx ≡ t) × Sized b.keys) where
    here : part_at (set live i b) i ≡ b
    here = get_or-set_same live i b past_sub (omega (arith, s.low, l.size))

    there : (j : ℕ) → (j ≡ i → ⊥) → part_at (set live i b) j ≡ part_at live j
    there j n = get_or-set_other live i j b past_sub n

    pub live_set : LiveIs (set live i b) (upd row t b)
    live_set =
        record {
          size = length-set live i b ∙ l.size;
          holds = λ j h f. by_same j i
              (λ e. let z : (IsFree b → ⊥) = rw (e, here) at f in rw (e, here) (sym (ap (upd row t b) (x z).0 ∙ upd_same row t b)))
              (λ n. let g = rw (there j n) at f in
              rw (there j n) (l.holds j h g ∙ sym (upd_other row t b (part_at live j).tx (λ q. n (s.alone j h g q)))));
          apart = λ j k h m f g q. by_same j i
              (λ e. by_same k i (λ y. e ∙ sym y)
              (λ n. let g' = rw (there k n) at g in
              let f' : (IsFree b → ⊥) = rw (e, here) at f in
              let q' : b.tx ≡ (part_at live k).tx = rw (e, here, there k n) at q in
              absurd (n (s.alone k m g' (sym q' ∙ (x f').0)))))
              (λ n. let f' = rw (there j n) at f in
              by_same k i
              (λ y. let g' : (IsFree b → ⊥) = rw (y, here) at g in
              let q' : (part_at live j).tx ≡ b.tx = rw (y, here, there j n) at q in
              absurd (n (s.alone j h f' (q' ∙ (x g').0))))
              (λ o. l.apart j k h m f' (rw (there k o) at g) (rw (there j n, there k o) at q)));
          found =
              upd_cases (λ u c. (IsFree c → ⊥)
              → (j : ℕ) × (j < sizes.live) × (part_at (set live i b) j ≡ c) × ((part_at (set live i b) j).tx ≡ u)) row t b
              (λ f. (i, s.low, here, rw here (x f).0))
              (λ u n f.
              let (j, h, e, y) = l.found u f in
              let o : (j ≡ i → ⊥) = λ q. n (sym y ∙ ap (λ (k : ℕ). (part_at live k).tx) q ∙ s.own (rw (← q, e) f)) in
              (j, h, there j o ∙ e, rw (there j o) y));
          sized = upd_cases (λ u c. (IsFree c → ⊥) → Sized c.keys) row t b (λ f. (x f).1) (λ u n. l.sized u);
        }

    -- the gathered lists, where the part there is none whose entries the site gathers
    pub lists_set : (own : ℕ) (lists : List ℕ) (gathered : ℕ → List ℕ)
        → (b.course.stage ≡ stage.prepared → coordinator_of b.tx ≡ own → ⊥)
        → ListsAre own live lists gathered → ListsAre own (set live i b) lists gathered
    lists_set own lists gathered n a =
        record {
          size = a.size;
          each = λ j h f g. by_same j i
              (λ e. let q : part_at (set live i b) j ≡ b = rw e here in
              absurd (n (sym (ap (λ (c : Sub). c.course.stage) q) ∙ f) (sym (ap (λ (c : Sub). coordinator_of c.tx) q) ∙ g)))
              (λ o. let q = there j o in
              rw q (a.each j h (sym (ap (λ (c : Sub). c.course.stage) q) ∙ f) (sym (ap (λ (c : Sub). coordinator_of c.tx) q) ∙ g)));
        }
