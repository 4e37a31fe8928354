-- The search ends at the last entry within the snapshot that has the key, or has looked at all: by cases.
use Prim.Native.Nat.{ℕ, ◌-◌, ◌<◌}
use mathlib.Core.Path.{◌≡◌, refl, ap, ◌∙◌}
use mathlib.Core.List.{List, []}
use mathlib.Core.Logic.{⊎_elim}
use mathlib.Core.Bool.{Bool, false}
use native.Mathlib.Omega.{arith}
use lib.ListN.{length}
use Rattle.laws.specs.Choice.{set_not}
use Rattle.laws.specs.Scan.{NoneBelow, LastBelow, last_below}
use Rattle.kinds.specs.declared.Answer.TheVariants.{Found, Searched}
use Rattle.kinds.specs.declared.Entry.{Entry}
use Rattle.kinds.specs.declared.Search.{Search}
use Rattle.kinds.specs.declared.Snapshot.{Snapshot}
use Rattle.kinds.specs.State.{sub_at}
use Rattle.rules.specs.Keys.{wrote_key, read_key}
use Rattle.rules.specs.KeysLaws.{by_order}
use Rattle.rules.specs.Live.{place_of, stage_at}
use Rattle.rules.specs.History.{recall, within, backwards, is_forgotten, search_in}
use Rattle.rules.proofs.SearchLaws.{search_last, search_none, search_same}
use Rattle.rules.specs.Valid.{site_ok}
use Rattle.rules.specs.Effect.{Effect}
use Rattle.rules.specs.Access.{access_code, read_code, read_version, read_at, read_of, search_of}
use Rattle.rules.specs.CallLaws.{key_passed}
use Rattle.rules.specs.Searches.{Exact, ReadRuns, SearchesRight}
use Rattle.rules.proofs.Refine.RefineStep.{by_code}
use Rattle.rules.proofs.Reading.ReadAnswers.{found, not_found}

module _ (history : List Entry) (installs : ℕ) (base : List ℕ) (p : Snapshot) (k : ℕ) where
  abbrev visible : ℕ
  visible = within installs p

  abbrev search : Search
  search = search_in history installs base p k

  -- the entries oldest first, and from the newest backwards
  abbrev has : ℕ → Bool
  has i = wrote_key (recall history installs i).keys k

  abbrev has_key : ℕ → Bool
  has_key j = wrote_key (backwards history installs visible j).keys k

  turned : (i j : ℕ) → visible - 1 - j ≡ i → has_key j ≡ has i
  unfolding backwards
  turned i j e = rw e

  abbrev Right : Type 0
  Right = Exact history installs base p k

  -- none has the key
  all_lack : NoneBelow has visible → Right
  all_lack none =
      let e = search_none history installs base p k none in
      let n : search.looked ≡ visible = ap (λ (a : Search). a.looked) e in
      let lacks : (j : ℕ) → j < visible → has_key j ≡ false =
      λ j a. turned (visible - 1 - j) j refl ∙ none (visible - 1 - j) (omega arith) in
      record {
        same = search_same history installs base p k;
        hit = λ j a b t. absurd (set_not (has_key j) t (lacks j a));
        none = λ b. n;
        few = omega (arith, n);
        passed = λ j a. lacks j (omega (arith, n));
        last = λ a. absurd (omega (arith, n));
      }

  -- the last that has the key is the first from the newest backwards
  one_has : (i : ℕ) → LastBelow has visible i → Right
  one_has i l =
      let e = search_last history installs base p k i l in
      let low = l.low in
      let n : search.looked ≡ visible - i = ap (λ (a : Search). a.looked) e in
      let first = turned i (visible - 1 - i) (omega arith) ∙ l.holds in
      let newer : (j : ℕ) → j < visible - 1 - i → has_key j ≡ false =
      λ j a. turned (visible - 1 - j) j refl ∙ l.later (visible - 1 - j) (omega arith) (omega arith) in
      record {
        same = search_same history installs base p k;
        hit = λ j a b t.
            by_order (visible - 1 - i) j
            (λ z. absurd (set_not _ first (b (visible - 1 - i) z)))
            (λ z. by_order j (visible - 1 - i) (λ y. absurd (set_not _ t (newer j y))) (λ y. omega (arith, n)));
        none = λ b. absurd (set_not (has_key (visible - 1 - i)) first (b (visible - 1 - i) (omega arith)));
        few = omega (arith, n);
        passed = λ j a. newer j (omega (arith, n));
        last = λ a. let q : search.looked - 1 ≡ visible - 1 - i = omega (arith, n) in rw q first;
      }

read_runs : ReadRuns
unfolding ReadRuns read_of read_at read_version search_of
read_runs s base tx k v other =
    let place = place_of s.live tx in
    let b = sub_at s place in
    let code = access_code (site_ok s) (length base) s.house s.counters.own k place (stage_at s.live place) in
    let late = read_code (is_forgotten s.counters.installs b.snapshot) (read_key b.keys k) b.keys.read in
    let search = search_in s.history s.counters.installs base b.snapshot k in
    let Goal : Effect → Type 0 = λ e. e.answer ≡ Found v → (n : ℕ) × (search_of s base b.snapshot k ≡ Searched v n) in
    by_code Goal code s [] (read_at s base place k)
    (λ e. rw other
    (by_code Goal late s [] (read_version s base place k)
    (λ f q. (
      search.looked,
      rw (
        key_passed (site_ok s) (length base) s.house s.counters.own k place (stage_at s.live place) e,
        found search.value v q,
      ),
    ))
    (λ q. absurd (not_found late v q))))
    (λ q. absurd (not_found code v q))

pub searches_right : SearchesRight
searches_right =
    record {
      exact = λ history installs base p k.
          ⊎_elim (all_lack history installs base p k)
          (λ ((i, l) : (i : ℕ) × LastBelow (has history installs base p k) (within installs p) i). one_has history installs base p k i l)
          (last_below (has history installs base p k) (within installs p));
      read = read_runs;
    }
