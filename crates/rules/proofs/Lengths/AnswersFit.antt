-- A read, a search and a copy answer values that fit: those of a possible site, of its base values, or of the copy.
use Prim.Native.Nat.{ℕ, zero, suc, ◌+◌}
use mathlib.Core.Path.{◌≡◌}
use mathlib.Core.Bool.{true}
use mathlib.Core.List.{List, []}
use native.Mathlib.Omega.{arith}
use borrow.Author.Tests.{eqb-true}
use lib.Dec.{eqb}
use lib.ListN.{length}
use Rattle.laws.specs.Choice.{by_test}
use Rattle.kinds.specs.State.{sub_at}
use Rattle.kinds.specs.declared.Entry.{Entry}
use Rattle.kinds.specs.declared.Site.{Site}
use Rattle.kinds.specs.declared.Snapshot.{Snapshot}
use Rattle.kinds.specs.declared.Value.{Value}
use Rattle.kinds.specs.declared.Answer.TheVariants.{Refused, Found, Searched, Standing}
use Rattle.rules.specs.Value.{base_value, Fits}
use Rattle.rules.specs.ValueLaws.{fits_fit}
use Rattle.rules.specs.Keys.{wrote_key, wrote_value, read_key}
use Rattle.rules.specs.Live.{place_of, stage_at}
use Rattle.rules.specs.History.{forgotten, slot_of, recall, is_forgotten, walk, search_in, within}
use Rattle.rules.specs.HistoryLaws.{slot_low}
use Rattle.rules.specs.InstallLaws.{wrote_fits}
use Rattle.rules.specs.Valid.{site_ok}
use Rattle.rules.specs.ValidLaws.{valid_site}
use Rattle.rules.specs.Access.{key_code, access_code, read_code, read_version, read_at, read_of, search_of}
use Rattle.rules.specs.CallLaws.{key_clear, access_clear}
use Rattle.rules.specs.Copy.{value_code, value_of}
use Rattle.rules.specs.World.{fresh_world, site_step, step}
use Rattle.rules.specs.Lengths as lengths
use Rattle.rules.proofs.Refine.RefineStep.{by_code}
use Rattle.rules.proofs.Reading.ReadAnswers.{found, not_found}
use Rattle.rules.proofs.Reading.SnapshotsStay.{searched, not_searched}
use Rattle.rules.proofs.Lengths.TablesFit.{BaseFits, CopyFits, fresh_fits, run_fits}

-- The search ends at a version that fits, or at the base value.
walk_fits : (entry : ℕ → Entry) (k : ℕ) (v : Value) → Fits v
    → ((i : ℕ) → wrote_key (entry i).keys k ≡ true → Fits (wrote_value (entry i).keys k))
    → (left looked : ℕ) → Fits (walk entry k v left looked).value
unfolding walk
walk_fits entry k v base each zero looked = base
walk_fits entry k v base each (suc left) looked =
    by_test (wrote_key (entry left).keys k)
    (λ t. rw t (each left t))
    (λ t. rw t (walk_fits entry k v base each left (looked + 1)))

module _ (s : Site) (ok : site_ok s ≡ true) where
  -- a remembered install
  entry_fits : (i k : ℕ) → wrote_key (recall s.history s.counters.installs i).keys k ≡ true
      → Fits (wrote_value (recall s.history s.counters.installs i).keys k)
  entry_fits i k t =
      let n = forgotten s.counters.installs + i in
      fits_fit _ (wrote_fits _ k ((valid_site s ok).entry (slot_of n) (slot_low n)).keys.values_fit_lem t)

  search_fits : (base : List ℕ) (p : Snapshot) (k : ℕ) → BaseFits base
      → Fits (search_in s.history s.counters.installs base p k).value
  unfolding search_in
  search_fits base p k old =
      walk_fits (recall s.history s.counters.installs) k (base_value base k) (old k) (λ i t. entry_fits i k t)
      (within s.counters.installs p) 0

-- What an answer says of its value.
standing : (a b : Value) (n m c d : ℕ) → Standing a n c ≡ Standing b m d → a ≡ b
standing a b n m c d e = cc

standing_refused : (n m c : ℕ) (v : Value) → Refused n ≡ Standing v m c → ⊥
standing_refused n m c v e = let z : ◌≡◌ {A = ℕ} 0 1 = cc in omega arith

read_answers : (s : Site) (base : List ℕ) (tx k : ℕ) → BaseFits base → (v : Value) → (read_of s base tx k).answer ≡ Found v → Fits v
unfolding read_of read_at read_version
read_answers s base tx k old v =
    let place = place_of s.live tx in
    let b = sub_at s place in
    let late = read_code (is_forgotten s.counters.installs b.snapshot) (read_key b.keys k) b.keys.read in
    by_code (λ x. x.answer ≡ Found v → Fits v)
    (access_code (site_ok s) (length base) s.house s.counters.own k place (stage_at s.live place)) s [] (read_at s base place k)
    (λ e. let c = access_clear _ _ _ _ _ _ _ e in
    let ok = c.key.valid in
    by_test (wrote_key b.keys k)
    (λ t. rw t
    (λ z. rw (← found _ _ z) (fits_fit _ (wrote_fits b.keys k ((valid_site s ok).part place c.held).keys.values_fit_lem t))))
    (λ t. rw t
    (by_code (λ x. x.answer ≡ Found v → Fits v) late s [] (read_version s base place k)
    (λ g z. rw (← found _ _ z) (search_fits s ok base b.snapshot k old))
    (λ z. absurd (not_found _ v z)))))
    (λ z. absurd (not_found _ v z))

search_answers : (s : Site) (base : List ℕ) (p : Snapshot) (k n : ℕ) → BaseFits base → (v : Value)
    → search_of s base p k ≡ Searched v n → Fits v
unfolding search_of
search_answers s base p k n old v =
    let code = key_code (site_ok s) (length base) s.house s.counters.own k in
    by_test (eqb code 0)
    (λ t. rw t
    (λ z. rw (← searched _ _ _ _ z) (search_fits s (key_clear _ _ _ _ _ (eqb-true code 0 t)).valid base p k old)))
    (λ t. rw t (λ z. absurd (not_searched _ n v z)))

value_answers : (copy : List ℕ) (k n c : ℕ) → CopyFits copy → (v : Value) → value_of copy k ≡ Standing v n c → Fits v
unfolding value_of
value_answers copy k n c old v =
    by_test (eqb (value_code copy k) 0)
    (λ t. rw t (λ z. rw (← standing _ _ _ _ _ _ z) (old k)))
    (λ t. rw t (λ z. absurd (standing_refused _ n c v z)))

pub answers_fit : lengths.AnswersFit
unfolding step site_step
answers_fit =
    record {
      read = λ o calls s tx key v. let f = run_fits calls (fresh_world o) (fresh_fits o) in read_answers _ _ tx key (f.bases s) v;
      search = λ o calls s p key n v. let f = run_fits calls (fresh_world o) (fresh_fits o) in search_answers _ _ _ key n (f.bases s) v;
      value = λ o calls copy key n c v. let f = run_fits calls (fresh_world o) (fresh_fits o) in value_answers _ key n c (f.copies copy) v;
    }
