-- A fresh house is that of the fresh protocol.
use Prim.Native.Nat.{ℕ, ◌+◌, ◌-◌, ◌≤◌, ◌<◌}
use mathlib.Core.Path.{◌≡◌, refl, sym, ◌∙◌}
use mathlib.Core.Bool.{true, false}
use mathlib.Core.List.{[], ◌∷◌}
use native.Mathlib.Omega.{arith}
use borrow.Author.Tests.{leb-true, le-leb, eq-eqb, ne_eqb, not-false}
use lib.Dec.{leb, eqb}
use lib.ListN.{get_or, length, replicate, length-replicate, get_or-replicate}
use lib.Seq.{length-take-le, get_or-take}
use Rattle.laws.specs.Choice.{every_at, pick_same}
use Rattle.laws.specs.Cause.{clear_at}
use Rattle.kinds.specs.Sizes as sizes
use Rattle.kinds.specs.declared.House.{House}
use Rattle.kinds.specs.State.{no_sub, past_sub, no_entry}
use Rattle.rules.specs.House.{count_ok, table_ok, house_ok, is_site, GoodHouse}
use Rattle.rules.specs.HouseLaws.{clear_count, good_table, house_again}
use Rattle.rules.specs.Live.{part_at}
use Rattle.rules.specs.History.{remembered}
use Rattle.rules.specs.Install.{fresh_site, start_causes, start_code, start_of, start_table}
use Rattle.rules.specs.Valid.{site_ok}
use Rattle.rules.specs.Merger.{fresh_merger, merger_start_code, merger_start_of}
use Rattle.rules.specs.World.{firsts_of, fresh_world}
use Rattle.rules.proofs.Lists.Tables.{a_nil}
use Rattle.rules.proofs.Protocol.Protocol.{fresh_protocol}
use Rattle.rules.proofs.Refine.Refines.{IsFree, slice_of, SiteIs, Refines}

-- the table of a good house is as long as its sites, and good
firsts_long : (house : House) → GoodHouse house → length (firsts_of house) ≡ house.sites
firsts_long house good = length-take-le house.sites house.firsts (omega (arith, good.few, good.size))

firsts_good : (house : House) → GoodHouse house → table_ok house.sites (firsts_of house) ≡ true
firsts_good house good =
    let at : (i : ℕ) → i < house.sites → get_or (firsts_of house) i 0 ≡ get_or house.firsts i 0 = λ i h.
    get_or-take house.sites house.firsts i 0 h in
    let table = good.table in
    good_table house.sites (firsts_of house) (record {
      zero = at 0 good.some ∙ table.zero;
      rising = λ i h. rw (at i (omega arith), at (i + 1) h) (table.rising i h);
      low = λ i h. rw (at i h) (table.low i h);
    })

-- a site of the house starts fresh, and so does the merger,
pub started : (house : House) (s : ℕ) → GoodHouse house → 1 ≤ s → s ≤ house.sites
    → (start_of house.sites (firsts_of house) s sizes.base sizes.lists).site ≡ fresh_site house s
unfolding start_of start_code is_site
started house s good l h =
    rw (
      clear_count house.sites good.some good.few,
      eq-eqb _ _ (firsts_long house good),
      le-leb 1 s l,
      le-leb s house.sites h,
      firsts_good house good,
      house_again house good,
    )

pub merger_started : (house : House) → GoodHouse house
    → (let g = merger_start_of house.sites (firsts_of house) (replicate sizes.queues 0) in
    (g.merger ≡ fresh_merger house) × (g.queues ≡ replicate sizes.queues 0))
unfolding merger_start_of merger_start_code
merger_started house good =
    rw (
      clear_count house.sites good.some good.few,
      eq-eqb _ _ (firsts_long house good),
      firsts_good house good,
      house_again house good,
    ) (refl, refl)

-- another is not valid
not_started : (house : House) (s : ℕ) → ((1 ≤ s) × (s ≤ house.sites) → ⊥)
    → site_ok (start_of house.sites (firsts_of house) s sizes.base sizes.lists).site ≡ false
unfolding start_of start_code is_site site_ok house_ok count_ok fresh_site
not_started house s n =
    let code = start_code house.sites (firsts_of house) s sizes.base sizes.lists in
    let none : (code ≡ 0) → ⊥ = λ e.
    let l = leb 1 s ∷ leb s house.sites ∷ [] in
    let here = not-false _ (clear_at (start_causes house.sites (firsts_of house) s sizes.base sizes.lists) 2 refl e) in
    n (leb-true 1 s (every_at l 0 here), leb-true s house.sites (every_at l 1 here)) in
    rw (ne_eqb code 0 none)

free_place_lem : (i : ℕ) → i < sizes.live → IsFree (part_at (replicate sizes.live no_sub) i)
unfolding no_sub
free_place_lem i h = rw (get_or-replicate sizes.live i no_sub past_sub h)

fresh_site_lem : (house : House) (s : ℕ) → GoodHouse house
    → SiteIs house s (fresh_site house s) (replicate sizes.base 0) (replicate sizes.lists 0) (slice_of fresh_protocol s)
unfolding fresh_site fresh_protocol remembered no_sub
fresh_site_lem house s good =
    let few = good.few in
    record {
      house_is = refl;
      counters = record { own_is = refl; clock_is = refl; serial_is = refl; installs_are = refl };
      channels =
          record {
            sent_size = length-replicate {A = ℕ} sizes.sites 0;
            taken_size = length-replicate {A = ℕ} sizes.sites 0;
            sent_is = λ r l h. get_or-replicate {A = ℕ} sizes.sites (r - 1) 0 0 (omega arith);
            taken_is = λ r l h. get_or-replicate {A = ℕ} sizes.sites (r - 1) 0 0 (omega arith);
          };
      live =
          record {
            size = length-replicate sizes.live no_sub;
            holds = λ i h f. absurd (f (free_place_lem i h));
            apart = λ i j h m f g q. absurd (f (free_place_lem i h));
            found = λ t f. absurd (f refl);
            sized = λ t f. absurd (f refl);
          };
      history = record { size = length-replicate sizes.history no_entry; recalls = λ i h. absurd (omega arith) };
      lists =
          record {
            size = length-replicate {A = ℕ} sizes.lists 0;
            each = λ i h f c. absurd (let z = free_place_lem i h in let y : ◌≡◌ {A = ℕ} 0 2 = sym z ∙ f in omega arith);
          };
      base_size = length-replicate {A = ℕ} sizes.base 0;
    }

-- a start that is handed zeros leaves zeros, refused or not
pub fresh_table : (code n : ℕ) → start_table code (replicate n 0) ≡ replicate n 0
unfolding start_table
fresh_table code n = rw (length-replicate {A = ℕ} n 0) (pick_same (eqb code 0) (replicate n 0))

pub refines_fresh : (house : House) → GoodHouse house → Refines house (fresh_world house) fresh_protocol
unfolding fresh_world fresh_protocol
refines_fresh house good =
    record {
      few = good.few;
      site = λ s l h. rw (
        started house s good l h,
        fresh_table (start_code house.sites (firsts_of house) s sizes.base sizes.lists) sizes.base,
        fresh_table (start_code house.sites (firsts_of house) s sizes.base sizes.lists) sizes.lists,
      ) (fresh_site_lem house s good);
      outside = not_started house;
      sent = a_nil;
      log = λ s. refl;
      stream = a_nil;
    }
