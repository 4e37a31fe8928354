-- A read and a write leave each key once among the writes of every part of their site's table.
use Prim.Native.Nat.{ℕ, ◌≤◌, ◌<◌}
use mathlib.Core.Path.{◌≡◌}
use mathlib.Core.Bool.{true, false}
use mathlib.Core.List.{List, []}
use native.Mathlib.Omega.{arith}
use lib.ListN.{length, set}
use lib.Seq.{get_or-set_same, get_or-set_other}
use Rattle.laws.specs.Choice.{by_test, by_same}
use Rattle.kinds.specs.Sizes as sizes
use Rattle.kinds.specs.declared.House.{House}
use Rattle.kinds.specs.declared.Keys.{Keys}
use Rattle.kinds.specs.declared.Sub.{Sub}
use Rattle.kinds.specs.declared.Site.{Site}
use Rattle.kinds.specs.State.{sub_at, past_sub, with_keys}
use Rattle.kinds.specs.declared.Value.{Value}
use Rattle.rules.specs.Keys.{wrote_key, read_key, with_read, with_write}
use Rattle.rules.specs.Live.{part_at, stage_at, place_of}
use Rattle.rules.specs.History.{is_forgotten}
use Rattle.rules.specs.Desk.{write_limit, limit_most}
use Rattle.rules.specs.Valid.{site_ok}
use Rattle.rules.specs.Effect.{Effect, turn_at, settle}
use Rattle.rules.specs.Course.{quietly}
use Rattle.rules.specs.Access.{access_code, read_code, read_version, read_at, read_of, late_code, written, write_at, write_of}
use Rattle.rules.specs.CallLaws.{LateClear, late_clear}
use Rattle.rules.specs.World.{World, step, site_step}
use Rattle.rules.specs.World as world
use Rattle.rules.proofs.Lists.Tables.{upd_cases}
use Rattle.rules.proofs.Protocol.ProtocolTables.{Protocol}
use Rattle.rules.proofs.Protocol.Invariants.{Held, Invariant}
use Rattle.rules.proofs.Refine.Refines.{IsFree, Refines}
use Rattle.rules.proofs.Refine.RefineStep.{by_code}
use Rattle.rules.proofs.Refine.RefineAccess.{Reaches, reaches}
use Rattle.rules.proofs.Reading.KeysOnce.{EachOnce, once_read, once_again, once_first}
use Rattle.rules.proofs.Reading.MovesTold.{WritesOnce}

abbrev pub LiveOnce : List Sub → Type 0
LiveOnce live = (i : ℕ) → i < sizes.live → (IsFree (part_at live i) → ⊥) → EachOnce (part_at live i).keys

-- The tables against the protocol's.
pub live_once : {house : House} {w : World} {p : Protocol} → Refines house w p → Invariant house p → WritesOnce p → (s : ℕ) → 1 ≤ s
    → s ≤ house.sites
    → LiveOnce (w.site s).live
live_once {w = w} {p = p} r i o s l h j m f =
    let q = (r.site s l h).live.holds j m f in
    let t = (part_at (w.site s).live j).tx in
    let g : Held p s t = rw q at f in
    rw (q, i.parts.keys s t g) (o.held s t g)

pub once_held : {house : House} {w : World} {p : Protocol} → Refines house w p → Invariant house p
    → ((s : ℕ) → 1 ≤ s → s ≤ house.sites → LiveOnce (w.site s).live)
    → (s t : ℕ) → Held p s t → EachOnce (p.keys s t)
once_held r i o s t g =
    let (l, h) = i.parts.site s t (i.parts.has s t g) in
    let (j, m, q, x) = (r.site s l h).live.found t g in
    rw (← i.parts.keys s t g, ← q) (o s l h j m (rw q g))

-- One place changed.
put_once : (live : List Sub) (i : ℕ) (b : Sub) → i < length live → EachOnce b.keys → LiveOnce live → LiveOnce (set live i b)
put_once live i b h e o j m f =
    by_same j i
    (λ q. let z : part_at (set live i b) j ≡ b = rw q (get_or-set_same live i b past_sub h) in rw z e)
    (λ n. let z = get_or-set_other live i j b past_sub n in rw z (o j m (rw z at f)))

module _ {house : House} {w : World} {p : Protocol} (r : Refines house w p) (i : Invariant house p) (o : WritesOnce p) (s t k : ℕ) where
  abbrev site : Site
  site = w.site s

  abbrev spot : ℕ
  spot = place_of site.live t

  old : (j : ℕ) → 1 ≤ j → j ≤ house.sites → LiveOnce (w.site j).live
  old = live_once r i o

  -- the part has other keys
  keeps : (a : Reaches r s t k) (b : Keys) → EachOnce b → LiveOnce (set site.live spot (with_keys (sub_at site spot) b))
  keeps a b e =
      put_once site.live spot (with_keys (sub_at site spot) b) (omega (arith, a.held, a.live.size)) e (old s a.low a.high)

  own : (a : Reaches r s t k) → EachOnce (p.live s t).keys
  own a = let h : Held p s t = λ f. omega (arith, a.active) in rw (i.parts.keys s t h) (o.held s t h)

  abbrev Goal : Effect → Type 0
  Goal e = 1 ≤ s → s ≤ house.sites → LiveOnce e.site.live

  reads : (a : Reaches r s t k) → Goal (read_version site (w.base s) spot k)
  unfolding read_version settle turn_at
  reads a l h = keeps a (with_read (sub_at site spot).keys k) (rw a.part (once_read (p.live s t).keys k (own a)))

  pub read_once : (j : ℕ) → 1 ≤ j → j ≤ house.sites → LiveOnce ((step w (world.read s t k)).world.site j).live
  unfolding step site_step read_of read_at
  read_once =
      let b = sub_at site spot in
      let code = access_code (site_ok site) (length (w.base s)) site.house site.counters.own k spot (stage_at site.live spot) in
      let late = read_code (is_forgotten site.counters.installs b.snapshot) (read_key b.keys k) b.keys.read in
      upd_cases (λ j x. 1 ≤ j → j ≤ house.sites → LiveOnce x.live) w.site s (read_of site (w.base s) t k).site
      (by_code Goal code site [] (read_at site (w.base s) spot k)
      (λ e. let a = reaches r s t k (length (w.base s)) e in
      by_test (wrote_key b.keys k)
      (λ f. rw f (old s))
      (λ f. rw f (by_code Goal late site [] (read_version site (w.base s) spot k) (λ g. reads a) (old s))))
      (old s))
      (λ j n. old j)

  writes : (v : Value) (a : Reaches r s t k) → EachOnce (with_write (p.live s t).keys k v) → Goal (written site spot k v)
  unfolding written settle turn_at quietly
  writes v a e l h = keeps a (with_write (sub_at site spot).keys k v) (rw a.part e)

  again : (v : Value) → Reaches r s t k → wrote_key (sub_at site spot).keys k ≡ true → Goal (written site spot k v)
  again v a f = writes v a (once_again (p.live s t).keys k v (rw a.part at f) (own a))

  first : (v : Value) → Reaches r s t k → wrote_key (sub_at site spot).keys k ≡ false → LateClear site spot k v
      → Goal (written site spot k v)
  first v a f c =
      let below : (p.live s t).keys.wrote < write_limit (p.live s t).desk = rw a.part at (c.new f).room in
      let room : (p.live s t).keys.wrote < sizes.writes = omega (arith, limit_most (p.live s t).desk) in
      writes v a (once_first (p.live s t).keys k a.sized room (rw a.part at f) v (own a))

  pub write_once : (v : Value) (j : ℕ) → 1 ≤ j → j ≤ house.sites → LiveOnce ((step w (world.write s t k v)).world.site j).live
  unfolding step site_step write_of write_at
  write_once v =
      let code = access_code (site_ok site) sizes.base site.house site.counters.own k spot (stage_at site.live spot) in
      let late = late_code site spot k v in
      upd_cases (λ j x. 1 ≤ j → j ≤ house.sites → LiveOnce x.live) w.site s (write_of site t k v).site
      (by_code Goal code site [] (write_at site spot k v)
      (λ e. let a = reaches r s t k sizes.base e in
      by_code Goal late site [] (written site spot k v)
      (λ c. by_test (wrote_key (sub_at site spot).keys k) (again v a) (λ f. first v a f (late_clear site spot k v c))) (old s))
      (old s))
      (λ j n. old j)
