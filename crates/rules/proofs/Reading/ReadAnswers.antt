-- An accepted read: by the machine's tables it answers the own write, else what the installs within the snapshot leave; and so it does by
-- the book.
use Prim.Native.Nat.{ℕ, ◌≤◌, ◌<◌}
use mathlib.Core.Path.{◌≡◌, sym, ap, ◌∙◌}
use mathlib.Core.Bool.{true, false}
use mathlib.Core.Logic.{◌⊎◌, inl, inr}
use mathlib.Core.List.{List, []}
use native.Mathlib.Omega.{arith}
use lib.ListN.{length}
use Rattle.laws.specs.Choice.{by_test, set_not}
use Rattle.kinds.specs.declared.House.{House}
use Rattle.kinds.specs.declared.Sub.{Sub}
use Rattle.kinds.specs.declared.Site.{Site}
use Rattle.kinds.specs.declared.Answer.TheVariants.{Refused, Found}
use Rattle.kinds.specs.State.{sub_at}
use Rattle.kinds.specs.declared.Value.{Value}
use Rattle.rules.specs.HouseLaws.{key_low}
use Rattle.rules.specs.Keys.{wrote_key, wrote_value, read_key}
use Rattle.rules.specs.Live.{stage_at, place_of}
use Rattle.rules.specs.History.{is_forgotten, version_of}
use Rattle.rules.proofs.SearchLaws.{search_same}
use Rattle.rules.specs.Valid.{site_ok}
use Rattle.rules.specs.Effect.{Effect}
use Rattle.rules.specs.Access.{access_code, read_code, read_version, read_at, read_of}
use Rattle.rules.specs.Answers.{on_found}
use Rattle.rules.specs.CallLaws.{read_clear}
use Rattle.rules.specs.World.{World, step, site_step}
use Rattle.rules.specs.World as world
use Rattle.rules.specs.Book.{Fact}
use Rattle.rules.specs.Reads.{SeenBy, ReadLeft, own as own-write, seen as seen-write}
use Rattle.rules.proofs.Protocol.ProtocolTables.{Protocol, inst}
use Rattle.rules.proofs.Protocol.Invariants.{Held, at, Invariant}
use Rattle.rules.proofs.Refine.Refines.{Refines}
use Rattle.rules.proofs.Refine.RefineStep.{by_code}
use Rattle.rules.proofs.Refine.RefineAccess.{Reaches, reaches}
use Rattle.rules.proofs.Book.Booked.{home, Booked}
use Rattle.rules.proofs.Demand.Demand.{pair_of}
use Rattle.rules.proofs.Reading.Versions.{left_below, LastSince, left_since, version_left}
use Rattle.rules.proofs.Reading.BasesKept.{BasesAre}
use Rattle.rules.proofs.Reading.LeftInstalls.{Counted, wrote_here, left_of}

pub record ReadIs (house : House) (p : Protocol) (s t k : ℕ) (v : Value) : Type 0 where
  pub has : p.has s t ≡ true
  pub lives : home house k ≡ s
  pub value : ((wrote_key (p.keys s t) k ≡ true) × (wrote_value (p.keys s t) k ≡ v))
      ⊎ ((wrote_key (p.keys s t) k ≡ false) × LastSince (at p s) k 0 (p.snap s t) v)

-- The call.
pub found : (a v : Value) → Found a ≡ Found v → a ≡ v
found a v e = ap (on_found a (λ u. u)) e

pub not_found : (n : ℕ) (v : Value) → Refused n ≡ Found v → ⊥
not_found n v e = let z : ◌≡◌ {A = ℕ} 0 1 = ap (on_found 0 (λ u. 1)) e in omega arith

module _ {house : House} {w : World} {p : Protocol} (r : Refines house w p) (i : Invariant house p) (b : BasesAre house w p) (s t k : ℕ)
    (v : Value) where
  abbrev site : Site
  site = w.site s

  abbrev spot : ℕ
  spot = place_of site.live t

  held : Reaches r s t k → Held p s t
  held a f = omega (arith, a.active)

  -- the keys of the part
  own : (a : Reaches r s t k) → (sub_at site spot).keys ≡ p.keys s t
  own a = ap (λ (b : Sub). b.keys) a.part ∙ i.parts.keys s t (held a)

  reads_own : Reaches r s t k → wrote_key (sub_at site spot).keys k ≡ true → wrote_value (sub_at site spot).keys k ≡ v
      → ReadIs house p s t k v
  reads_own a f e = record { has = i.parts.has s t (held a); lives = a.home; value = inl (rw (← own a) f, rw (← own a) e) }

  -- the version is what the installs within the snapshot leave
  left : (a : Reaches r s t k) → is_forgotten site.counters.installs (sub_at site spot).snapshot ≡ false
      → version_of site.history site.counters.installs (w.base s) (sub_at site spot).snapshot k ≡ left_below (at p s) k (p.snap s t)
  left a f =
      let h = held a in
      let e = i.parts.snap s t h in
      let kept : is_forgotten (length (inst p s)) (p.live s t).snapshot ≡ false = rw (← a.part, ← a.installs) f in
      let size : (p.live s t).snapshot.installs ≤ length (inst p s) = omega (arith, i.parts.low s t (i.parts.has s t h)) in
      rw (a.part, a.installs, ← e)
      (version_left site.history (inst p s) (w.base s) (p.live s t).snapshot k a.history size kept
      (b s k a.low a.high (key_low house s k (omega (arith, r.few, a.high)) a.home)))

  reads_seen : Reaches r s t k → wrote_key (sub_at site spot).keys k ≡ false
      → read_code (is_forgotten site.counters.installs (sub_at site spot).snapshot) (read_key (sub_at site spot).keys k)
      (sub_at site spot).keys.read ≡ 0
      → (read_version site (w.base s) spot k).answer ≡ Found v → ReadIs house p s t k v
  unfolding read_version
  reads_seen a f c e =
      let d = sub_at site spot in
      let same = search_same site.history site.counters.installs (w.base s) d.snapshot k in
      let q = left a (read_clear (is_forgotten site.counters.installs d.snapshot) (read_key d.keys k) d.keys.read c).kept in
      record {
        has = i.parts.has s t (held a);
        lives = a.home;
        value = inr (rw (← own a) f, rw (sym (found _ v e) ∙ same ∙ q) (left_since (at p s) k 0 (p.snap s t) (omega arith)));
      }

  abbrev Goal : Effect → Type 0
  Goal e = e.answer ≡ Found v → ReadIs house p s t k v

  pub read_is : (step w (world.read s t k)).answer ≡ Found v → ReadIs house p s t k v
  unfolding step site_step read_of read_at
  read_is =
      let d = sub_at site spot in
      let code = access_code (site_ok site) (length (w.base s)) site.house site.counters.own k spot (stage_at site.live spot) in
      let late = read_code (is_forgotten site.counters.installs d.snapshot) (read_key d.keys k) d.keys.read in
      by_code Goal code site [] (read_at site (w.base s) spot k)
      (λ e. let a = reaches r s t k (length (w.base s)) e in
      by_test (wrote_key d.keys k)
      (λ f. rw f (λ q. reads_own a f (found _ v q)))
      (λ f. rw f (by_code Goal late site [] (read_version site (w.base s) spot k) (reads_seen a f) (λ q. absurd (not_found late v q)))))
      (λ q. absurd (not_found code v q))

-- By the book.
pub read_left : {house : House} {p : Protocol} {b : List Fact} → house.sites ≤ 8 → Invariant house p → Booked house b p
    → (s t k : ℕ) (v : Value)
    → ReadIs house p s t k v → ReadLeft b s t k v
read_left {house} {p} {b} few i x s t k v r = go r.value
  where
    inside : (j : ℕ) → j < p.snap s t → j < length (inst p s)
    inside j l = omega (arith, i.parts.low s t r.has)

    -- what it saw are the installs within its snapshot
    seen : Counted b p s (p.snap s t) (SeenBy b s t)
    seen =
        record {
          few = i.parts.low s t r.has;
          place = λ u n c y z. let (j, l, q) = x.sees.seen s t n c z in (j, l, pair_of few i x s j u n c (inside j l) q y);
          pair = λ j n c l q. x.sees.before s t j n c r.has l q;
        }

    go : ((wrote_key (p.keys s t) k ≡ true) × (wrote_value (p.keys s t) k ≡ v))
        ⊎ ((wrote_key (p.keys s t) k ≡ false) × LastSince (at p s) k 0 (p.snap s t) v) → ReadLeft b s t k v
    go (inl (w, e)) = own-write (rw e at (x.writes.last s t k r.has w).1)
    go (inr (f, l)) =
        seen-write (λ w. set_not _ (wrote_here x s k r.lives t w) f) (left_of few i x s k r.lives seen v l)
