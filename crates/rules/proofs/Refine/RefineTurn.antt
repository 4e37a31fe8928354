-- A part held at a place, and its site with another course there, or without it.
use Prim.Native.Nat.{ℕ, ◌<◌}
use mathlib.Core.Path.{◌≡◌, refl, sym, ap, ◌∙◌}
use mathlib.Core.List.{List}
use mathlib.Core.Bool.{true, false}
use native.Mathlib.Omega.{arith}
use borrow.Author.Tests.{ltb-true, ltb-false}
use lib.Dec.{ltb}
use Rattle.laws.specs.Choice.{by_test}
use Rattle.kinds.specs.Sizes as sizes
use Rattle.kinds.specs.declared.House.{House}
use Rattle.kinds.specs.Stage as stage
use Rattle.kinds.specs.declared.Course.{Course}
use Rattle.kinds.specs.declared.Sub.{Sub}
use Rattle.kinds.specs.declared.Site.{Site}
use Rattle.kinds.specs.State.{no_sub, sub_at, with_sub, with_course}
use Rattle.rules.specs.House.{coordinator_of}
use Rattle.rules.specs.Live.{place_of}
use Rattle.rules.specs.Course.{with_queue_mark, with_decision}
use Rattle.rules.proofs.Lists.Tables.{upd₂, row_same}
use Rattle.rules.proofs.Protocol.ProtocolTables.{Protocol}
use Rattle.rules.proofs.Protocol.Protocol.{course_at}
use Rattle.rules.proofs.Refine.Refines.{IsFree, Sized, LiveIs, Slice, SiteIs}
use Rattle.rules.proofs.Refine.RefineLive.{Spot, place_held, place_spot, place_none}
use Rattle.rules.proofs.Refine.RefineSite.{live_in, site_sub}

-- stages of a part freed, marked and decided
gone : no_sub.course.stage ≡ stage.free
unfolding no_sub
gone = refl

pub mark_stage : (c : Course) (n : ℕ) → (with_queue_mark c n).stage ≡ stage.queued
unfolding with_queue_mark
mark_stage c n = refl

pub decision_stage : (c : Course) (n : ℕ) → (with_decision c n).stage ≡ stage.decided
unfolding with_decision
decision_stage c n = refl

pub record AtPlace (x : Site) (p : Protocol) (s t place : ℕ) : Type 0 where
  pub part : sub_at x place ≡ p.live s t
  pub held : IsFree (p.live s t) → ⊥
  pub tx : (p.live s t).tx ≡ t
  pub spot : Spot x.live place t
  pub sized : Sized (p.live s t).keys

pub at_place : (x : Site) (p : Protocol) (s t : ℕ) → LiveIs x.live (p.live s) → place_of x.live t < sizes.live
    → AtPlace x p s t (place_of x.live t)
at_place x p s t l h =
    let (q, f, o) = place_held l t h in
    record { part = q; held = f; tx = o; spot = place_spot l t h; sized = l.sized t f }

-- held, or not
pub by_held : {P : Type 0} (x : Site) (p : Protocol) (s : ℕ) → LiveIs x.live (p.live s) → (t : ℕ)
    → (AtPlace x p s t (place_of x.live t) → ltb (place_of x.live t) sizes.live ≡ true → P)
    → (IsFree (p.live s t) → ltb (place_of x.live t) sizes.live ≡ false → P) → P
by_held x p s l t f g =
    by_test (ltb (place_of x.live t) sizes.live)
    (λ e. f (at_place x p s t l (ltb-true _ _ e)) e)
    (λ e. g (place_none l t (ltb-false _ _ e)) e)

-- of the part at any place that is not free
pub part_place : (x : Site) (p : Protocol) (s i : ℕ) → LiveIs x.live (p.live s) → i < sizes.live → (IsFree (sub_at x i) → ⊥)
    → AtPlace x p s (sub_at x i).tx i
part_place x p s i l h f =
    let q = l.holds i h f in
    let g : (IsFree (p.live s (sub_at x i).tx) → ⊥) = λ z. f (ap (λ (b : Sub). b.course.stage) q ∙ z) in
    record {
      part = q;
      held = g;
      tx = sym (ap (λ (b : Sub). b.tx) q);
      spot = record { low = h; alone = λ j m k e. l.apart j i m h k f e; own = λ k. refl };
      sized = l.sized (sub_at x i).tx g;
    }

-- the part's transaction and course, as the site has them
pub tx_of_lem : {x : Site} {p : Protocol} {s t place : ℕ} → AtPlace x p s t place → (sub_at x place).tx ≡ t
tx_of_lem a = ap (λ (b : Sub). b.tx) a.part ∙ a.tx

pub course_is : {x : Site} {p : Protocol} {s t place : ℕ} → AtPlace x p s t place → (sub_at x place).course ≡ course_at p s t
course_is a = ap (λ (b : Sub). b.course) a.part

module _ {house : House} {s : ℕ} {x : Site} {base words : List ℕ} {p : Protocol} {v : Slice} {t place : ℕ}
    (y : SiteIs house s x base words v) (row : v.live ≡ p.live s) (a : AtPlace x p s t place) where
  pub site_course : (c d : Course) → d ≡ c → (c.stage ≡ stage.prepared → coordinator_of t ≡ s → ⊥)
      → SiteIs house s (with_sub x place (with_course (sub_at x place) d)) base words
      (live_in v (upd₂ p.live s t (with_course (p.live s t) c) s))
  site_course c d e n =
      let q : with_course (sub_at x place) d ≡ with_course (p.live s t) c = rw (a.part, e) in
      rw q
      (site_sub y place t (with_course (p.live s t) c) a.spot (λ f. (a.tx, a.sized)) (λ f g. n f (sym (ap coordinator_of a.tx) ∙ g))
      (rw row (row_same p.live s t (with_course (p.live s t) c))))

  pub site_gone : SiteIs house s (with_sub x place no_sub) base words (live_in v (upd₂ p.live s t no_sub s))
  site_gone =
      site_sub y place t no_sub a.spot (λ f. absurd (f gone)) (λ f g. absurd (omega (arith, gone)))
      (rw row (row_same p.live s t no_sub))
