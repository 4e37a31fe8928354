-- A search answers what the installs within its snapshot leave by the machine's tables. What is installed stays in its place, so after more
-- calls the same installs are within the snapshot.
use Prim.Native.Nat.{ℕ, ◌+◌, ◌-◌, ◌≤◌}
use mathlib.Core.Path.{◌≡◌, refl, sym, ap, ◌∙◌}
use mathlib.Core.Bool.{false}
use mathlib.Core.List.{List}
use native.Mathlib.Omega.{arith}
use borrow.Author.Tests.{eqb-true, le-ltb}
use lib.Dec.{eqb}
use lib.ListN.{length}
use Rattle.laws.specs.Choice.{by_test}
use Rattle.kinds.specs.Sizes as sizes
use Rattle.kinds.specs.declared.House.{House}
use Rattle.kinds.specs.declared.Site.{Site}
use Rattle.kinds.specs.declared.Snapshot.{Snapshot}
use Rattle.kinds.specs.declared.Answer.TheVariants.{Refused, Searched}
use Rattle.kinds.specs.declared.Value.{Value}
use Rattle.rules.specs.House.{home_of}
use Rattle.rules.specs.HouseLaws.{key_low}
use Rattle.rules.specs.KeysLaws.{by_order}
use Rattle.rules.specs.History.{forgotten, is_forgotten, search_in}
use Rattle.rules.proofs.SearchLaws.{search_same}
use Rattle.rules.specs.Valid.{site_ok}
use Rattle.rules.specs.Access.{key_code, search_of}
use Rattle.rules.specs.CallLaws.{key_clear}
use Rattle.rules.specs.World.{World, fresh_world, step, run}
use Rattle.rules.specs.World as world
use Rattle.rules.specs.Book.{Fact, book_from}
use Rattle.rules.specs.Left.{LeftOf}
use Rattle.rules.specs.Snapshots.{InstalledAt, installs_in, SnapshotsStay}
use Rattle.rules.proofs.Protocol.ProtocolTables.{Protocol, inst}
use Rattle.rules.proofs.Protocol.Invariants.{at, Invariant}
use Rattle.rules.proofs.Refine.Refines.{Refines}
use Rattle.rules.proofs.Refine.RefineStep.{inside}
use Rattle.rules.proofs.Stream.Stream.{Stream}
use Rattle.rules.proofs.Book.BookLists.{installs_append}
use Rattle.rules.proofs.Book.Booked.{home, Booked}
use Rattle.rules.proofs.Demand.Demand.{pair_of}
use Rattle.rules.proofs.Demand.Stands.{Stands, Keeps, list_stands, run_stands}
use Rattle.rules.proofs.Reading.Versions.{left_below, left_same, left_since, version_left}
use Rattle.rules.proofs.Reading.MovesTold.{Stays, stays_steps}
use Rattle.rules.proofs.Reading.BasesKept.{BasesAre}
use Rattle.rules.proofs.Reading.LeftInstalls.{Counted, left_of}
use Rattle.rules.proofs.Reading.ReadsRight.{Reads, call_reads, fresh_reads}

-- The call.
pub searched : (a v : Value) (n m : ℕ) → Searched a n ≡ Searched v m → a ≡ v
searched a v n m e = cc

pub not_searched : (n m : ℕ) (v : Value) → Refused n ≡ Searched v m → ⊥
not_searched n m v e = let z : ◌≡◌ {A = ℕ} 0 1 = cc in omega arith

record SearchIs (house : House) (p : Protocol) (s n k : ℕ) (v : Value) : Type 0 where
  lives : home house k ≡ s
  value : n ≤ length (inst p s) → v ≡ left_below (at p s) k n

module _ {house : House} {w : World} {p : Protocol} (r : Refines house w p) (b : BasesAre house w p) (s n k looked : ℕ) (v : Value)
    (kept : is_forgotten (length (inst p s)) (record { installs = n }) ≡ false) where
  abbrev site : Site
  site = w.site s

  abbrev snapshot : Snapshot
  snapshot = record { installs = n }

  abbrev code : ℕ
  code = key_code (site_ok site) (length (w.base s)) site.house site.counters.own k

  finds : code ≡ 0 → (search_in site.history site.counters.installs (w.base s) snapshot k).value ≡ v → SearchIs house p s n k v
  finds z e =
      let c = key_clear (site_ok site) (length (w.base s)) site.house site.counters.own k z in
      let (l, h) = inside r s c.valid in
      let y = r.site s l h in
      let lives = ap (λ (h : House). home_of h k) (sym y.house_is) ∙ c.here ∙ y.counters.own_is in
      let many = y.counters.installs_are in
      let base = b s k l h (key_low house s k (omega (arith, r.few)) lives) in
      record {
        lives = lives;
        value = λ few.
            sym e ∙ search_same site.history site.counters.installs (w.base s) snapshot k
            ∙ rw many (version_left site.history (inst p s) (w.base s) snapshot k y.history few kept base);
      }

  search_is : (step w (world.search s n k)).answer ≡ Searched v looked → SearchIs house p s n k v
  unfolding step search_of
  search_is =
      by_test (eqb code 0)
      (λ z. rw z (λ e. finds (eqb-true code 0 z) (searched _ v _ looked e)))
      (λ z. rw z (λ e. absurd (not_searched code looked v e)))

-- what at most 32 installs came after is not forgotten
not_lost : (n m : ℕ) → m ≤ n + sizes.history → is_forgotten m (record { installs = n }) ≡ false
unfolding is_forgotten forgotten
not_lost n m h = le-ltb n (m - sizes.history) (omega arith)

-- After more calls.
record Since (house : House) (v : Stream) (w : World) (u : Stream) : Type 0 where
  reads : Reads house w u
  stays : Stays v u

call_since : {house : House} → house.sites ≤ 8 → (v : Stream) → Keeps (Since house v) house
call_since few v w u t c h i z ss e j m =
    record {
      reads = call_reads few w u t c h i z ss e j m.reads;
      stays = λ s k l. let (a, q) = m.stays s k l in let (d, f) = stays_steps few z ss s k a in (d, f ∙ q);
    }

-- the pairs installed at s are those of all installs there
all_counted : {house : House} {b : List Fact} {p : Protocol} → house.sites ≤ 8 → Invariant house p → Booked house b p → (s : ℕ)
    → Counted b p s (length (inst p s)) (InstalledAt b s)
all_counted few i x s =
    record {
      few = omega arith;
      place = λ t m c y z. let (j, l, q) = x.installs.installed s m c z in (j, l, pair_of few i x s j t m c l q y);
      pair = λ j m c l q. x.installs.installs s j m c l q;
    }

-- After the first calls, and after more of them.
module _ {house : House} (few : house.sites ≤ 8) {w x : World} {b c : List Fact} (first : Stands (Reads house) house w b)
    (end : Stands (Since house first.stream) house x c) (s k : ℕ) (v : Value) where
  abbrev p : Protocol
  p = first.stream.protocol

  abbrev q : Protocol
  q = end.stream.protocol

  longer : length (inst p s) ≤ length (inst q s)
  longer =
      by_order (length (inst q s)) (length (inst p s))
      (λ z. absurd (omega (arith, (end.more.stays s (length (inst q s)) z).0)))
      (λ z. z)

  left_then : SearchIs house q s (installs_in s b) k v → LeftOf b (InstalledAt b s) k v
  left_then found =
      let i = first.standing.invariant in
      let many = first.booked.installs.many s in
      let same = left_same (at q s) (at p s) k (length (inst p s)) (λ j l. (end.more.stays s j l).1) in
      let value : v ≡ left_below (at p s) k (length (inst p s)) = rw many at found.value longer ∙ same in
      left_of few i first.booked s k found.lives (all_counted few i first.booked s) v
      (rw value (left_since (at p s) k 0 (length (inst p s)) (omega arith)))

-- the first calls leave what they leave, and nothing is installed since
begun : {house : House} {w : World} {b : List Fact} (first : Stands (Reads house) house w b)
    → Stands (Since house first.stream) house w b
begun first =
    record {
      stream = first.stream;
      standing = first.standing;
      is = first.is;
      booked = first.booked;
      more = record { reads = first.more; stays = λ j m l. (l, refl) };
    }

pub snapshots_stay : SnapshotsStay
unfolding SnapshotsStay
snapshots_stay house calls more good lawful then s k looked v late e =
    let few = good.few in
    let w = run (fresh_world house) calls in
    let b = book_from (fresh_world house) calls in
    let first = list_stands (Reads house) few (call_reads few) good (fresh_reads house) calls lawful in
    let v₀ = first.stream in
    let end = run_stands (Since house v₀) few (call_since few v₀) more w b then (begun first) in
    let kept = not_lost (installs_in s b) (length (inst end.stream.protocol s))
    (omega (arith, end.booked.installs.many s, installs_append s b (book_from w more))) in
    left_then few first end s k v (search_is end.is.refines end.more.reads.bases s (installs_in s b) k looked v kept e)
