-- C21 to C41: a part's list has every other prepared part and every remembered install after its snapshot, with their
-- participants, marked where dependent; it ascends and has at most 47 entries. And what a vote of yes says of each entry.
use Rattle.std.specs.Prelude.{ℕ, zero, suc, ◌+◌, ◌-◌, ◌*◌, ◌≤◌, ◌<◌, ◌≡◌, List, [], ◌∷◌, ◌++◌, Bool, true, false, not, ◌⊎◌, length, get_or, ltb, eqb}
use Rattle.std.proofs.Math.Path.{refl}
use Rattle.std.proofs.Common.{ap, sym, ◌∙◌, inl, ⊎_elim, add-one, ltb-true, eqb-true, lt-ltb, eq-eqb, ne_eqb}
use Rattle.std.proofs.Math.Logic.{inr}
use native.Mathlib.Omega.{arith}
use Rattle.std.proofs.lemmas.Bool.{eqb-false, not-true}
use Rattle.std.proofs.Math.ListN.{length-append, get_or-eq_default}
use Rattle.laws.specs.Choice.{every, some, by_test, picked_left, picked_right, every_at, some_two, set_not}
use Rattle.laws.specs.Scan.{any_below, fold_below, fold_more, split_last, any_below_lem, any_below_at, first_below, at_first}
use Rattle.kinds.specs.Sizes as sizes
use Rattle.kinds.specs.Reason as reason
use Rattle.kinds.specs.declared.Keys.{Keys}
use Rattle.kinds.specs.declared.Sub.{Sub}
use Rattle.kinds.specs.declared.Entry.{Entry}
use Rattle.kinds.specs.declared.Site.{Site}
use Rattle.kinds.specs.State.{sub_at}
use Rattle.rules.specs.House.{in_mask}
use Rattle.rules.specs.Message.{entry_tx, entry_mask, entry_mark, entry_count, entry_before}
use Rattle.rules.specs.Keys.{dependent}
use Rattle.rules.specs.Live.{part_at, is_prepared, is_part_of, place_of, is_held}
use Rattle.rules.specs.History.{recall, remembered, forgotten, within, recall_place}
use Rattle.rules.specs.HistoryLaws.{remembered_few}
use Rattle.rules.proofs.JoinLaws.{count_le, count_joined, join_whole}
use Rattle.rules.specs.Certify.{mark_of, concurrent_words, prepared_words, installed_words, prepared_list, installed_list, candidates}
use Rattle.rules.specs.Certify.{concurrent, conflicts_at, conflicts_with, is_recorded, uncertain_of, vote_of}
use Rattle.rules.proofs.EntryLaws.{gathered, Entries, gathered_at, gathered_marks, Holds, Listing, Marks, joined_lists, joined_ascends}
use Rattle.rules.proofs.EntryLaws.{append_left, append_right, append_marks}

-- The candidates.

mark_low : (b : Bool) → mark_of b ≤ 1
mark_low true = omega arith
mark_low false = omega arith

words_marks : (own : Keys) (tx mask : ℕ) (other : Keys) → Marks (concurrent_words own tx mask other)
words_marks own tx mask other zero = mark_low (dependent own other)
words_marks own tx mask other (suc k) = let z =
    get_or-eq_default (concurrent_words own tx mask other) 0 {n = sizes.entry * suc k + 2} (omega arith) in omega arith

none_marks : Marks []
none_marks k = omega arith

-- another prepared part has an entry, the others none
pub prepared_is : {P : Type 0} (place : ℕ) (own : Keys) (i : ℕ) (b : Sub)
    → ((i ≡ place → ⊥) → is_prepared b ≡ true → prepared_words place own i b ≡ concurrent_words own b.tx b.course.mask b.keys → P)
    → (prepared_words place own i b ≡ [] → P) → P
unfolding prepared_words
prepared_is place own i b f g =
    by_test (eqb i place)
    (λ t. g (rw t))
    (λ t. by_test (is_prepared b)
    (λ u. f (eqb-false i place t) u (rw (t, u)))
    (λ u. g (rw (t, u))))

pub prepared_each : (place : ℕ) (own : Keys) (i : ℕ) (b : Sub)
    → (length (prepared_words place own i b) ≡ 0) ⊎ (length (prepared_words place own i b) ≡ sizes.entry)
prepared_each place own i b = prepared_is place own i b (λ n p e. inr (ap length e)) (λ e. inl (ap length e))

prepared_marks : (place : ℕ) (own : Keys) (i : ℕ) (b : Sub) → Marks (prepared_words place own i b)
prepared_marks place own i b =
    prepared_is place own i b
    (λ n p e. rw e (words_marks own b.tx b.course.mask b.keys))
    (λ e. rw e none_marks)

-- steps of the loops
pub prepared_none : (live : List Sub) (place : ℕ) → prepared_list live place 0 ≡ []
unfolding prepared_list fold_below
prepared_none live place = refl

pub prepared_more : (live : List Sub) (place i : ℕ)
    → prepared_list live place (i + 1) ≡ prepared_list live place i ++ prepared_words place (part_at live place).keys i (part_at live i)
unfolding prepared_list
prepared_more live place i = fold_more (λ i ws. ws ++ prepared_words place (part_at live place).keys i (part_at live i)) i []

pub installed_none : (history : List Entry) (installs : ℕ) (own : Keys) (seen : ℕ) → installed_list history installs own seen 0 ≡ []
unfolding installed_list fold_below
installed_none history installs own seen = refl

pub installed_more : (history : List Entry) (installs : ℕ) (own : Keys) (seen i : ℕ)
    → installed_list history installs own seen (i + 1)
    ≡ installed_list history installs own seen i ++ installed_words own (recall history installs (seen + i))
unfolding installed_list
installed_more history installs own seen i = fold_more (λ i ws. ws ++ installed_words own (recall history installs (seen + i))) i []

pub length_installed : (history : List Entry) (installs : ℕ) (own : Keys) (seen n : ℕ)
    → length (installed_list history installs own seen n) ≡ sizes.entry * n
unfolding installed_words
length_installed history installs own seen zero = ap length (installed_none history installs own seen)
length_installed history installs own seen (suc n) =
    let e = rw add-one at (installed_more history installs own seen n) in
    ap length e ∙ length-append (installed_list history installs own seen n) (installed_words own (recall history installs (seen + n)))
    ∙ omega (arith, length_installed history installs own seen n)

-- one entry for a place at most, and none for the own
pub prepared_few : (live : List Sub) (place n : ℕ)
    → (k : ℕ) × (length (prepared_list live place n) ≡ sizes.entry * k) × (k ≤ n) × (place < n → k + 1 ≤ n)
prepared_few live place zero = (0, ap length (prepared_none live place), omega arith, λ h. absurd (omega arith))
prepared_few live place (suc n) =
    let (k, e, l, f) = prepared_few live place n in
    let own = (part_at live place).keys in
    let m = rw add-one at (prepared_more live place n) in
    let q = ap length m ∙ length-append (prepared_list live place n) (prepared_words place own n (part_at live n)) in
    prepared_is place own n (part_at live n)
    (λ a b z. let w = ap length z in (
      k + 1,
      omega arith,
      omega arith,
      λ h. split_last h (λ (x : place ≡ n). absurd (a (sym x))) (λ (x : place < n). omega (arith, f x)),
    ))
    (λ z. let w = ap length z in (k, omega arith, omega arith, λ h. omega arith))

gathered_holds : (f : ℕ → List ℕ) → Entries f → (n i : ℕ) (own : Keys) (t m : ℕ) (other : Keys) → i < n
    → f i ≡ concurrent_words own t m other
    → Holds (gathered f n) t m (mark_of (dependent own other))
unfolding entry_count
gathered_holds f each n i own t m other h e =
    let (k, l, w) = gathered_at f each n i h (ap length e) in
    let at : (r : ℕ) → r < sizes.entry → get_or (gathered f n) (sizes.entry * k + r) 0 ≡ get_or (concurrent_words own t m other) r 0 =
    λ r s. w r s ∙ ap (λ (x : List ℕ). get_or x r 0) e in
    (k, omega arith, at 0 (omega arith), at 1 (omega arith), at 2 (omega arith))

prepared_holds : (live : List Sub) (place i : ℕ) → i < sizes.live → (i ≡ place → ⊥) → is_prepared (part_at live i) ≡ true
    → Holds (prepared_list live place sizes.live) (part_at live i).tx (part_at live i).course.mask
    (mark_of (dependent (part_at live place).keys (part_at live i).keys))
unfolding prepared_list prepared_words
prepared_holds live place i h n p =
    let own = (part_at live place).keys in
    gathered_holds (λ i. prepared_words place own i (part_at live i)) (λ i. prepared_each place own i (part_at live i)) sizes.live i own
    (part_at live i).tx (part_at live i).course.mask (part_at live i).keys h (rw (ne_eqb i place n, p))

installed_holds : (history : List Entry) (installs : ℕ) (own : Keys) (seen n i : ℕ) → i < n
    → (let e = recall history installs (seen + i) in
    Holds (installed_list history installs own seen n) e.tx e.mask (mark_of (dependent own e.keys)))
unfolding installed_list installed_words
installed_holds history installs own seen n i h =
    let e = recall history installs (seen + i) in
    gathered_holds (λ i. installed_words own (recall history installs (seen + i))) (λ i. inr refl) n i own e.tx e.mask e.keys h refl

module _ (s : Site) (place : ℕ) where
  pub candidates_marks : Marks (candidates s place)
  unfolding candidates prepared_list installed_list installed_words
  candidates_marks =
      let n = s.counters.installs in
      let b = sub_at s place in
      let (k, e, l, _) = prepared_few s.live place sizes.live in
      append_marks (prepared_list s.live place sizes.live) _ k e
      (gathered_marks (λ i. prepared_words place b.keys i (sub_at s i)) (λ i. prepared_each place b.keys i (sub_at s i))
      (λ i. prepared_marks place b.keys i (sub_at s i)) sizes.live)
      (gathered_marks (λ i. installed_words b.keys (recall s.history n (within n b.snapshot + i))) (λ i. inr refl)
      (λ i. words_marks b.keys (recall s.history n (within n b.snapshot + i)).tx
      (recall s.history n (within n b.snapshot + i)).mask (recall s.history n (within n b.snapshot + i)).keys) _)

  -- at most 15 prepared ones and 32 installs
  pub candidates_few : place < sizes.live → (k : ℕ) × (length (candidates s place) ≡ sizes.entry * k) × (k ≤ sizes.conc_entries)
  unfolding candidates
  candidates_few h =
      let n = s.counters.installs in
      let b = sub_at s place in
      let seen = within n b.snapshot in
      let (k, e, l, f) = prepared_few s.live place sizes.live in
      let r = remembered_few n in
      let c = length-append (prepared_list s.live place sizes.live) (installed_list s.history n b.keys seen (remembered n - seen)) in
      (k + (remembered n - seen), omega (arith, length_installed s.history n b.keys seen (remembered n - seen)), omega (arith, f h))

  -- The list is of whole entries, at most 47,
  pub concurrent_whole : length (concurrent s place) ≡ sizes.entry * entry_count (concurrent s place)
  unfolding concurrent
  concurrent_whole = join_whole (candidates s place) (entry_count (candidates s place))

  pub concurrent_few : place < sizes.live → entry_count (concurrent s place) ≤ sizes.conc_entries
  unfolding concurrent entry_count
  concurrent_few h =
      let es = candidates s place in
      let (k, e, l) = candidates_few h in
      omega (arith, count_joined es (entry_count es), count_le es (entry_count es))

  -- ascends by transaction,
  pub concurrent_ascends : (j : ℕ) → j < entry_count (concurrent s place)
      → entry_before (concurrent s place) j < entry_tx (concurrent s place) j
  unfolding concurrent
  concurrent_ascends j h =
      let es = candidates s place in
      joined_ascends es (entry_count es) j (omega (arith, count_joined es (entry_count es)))

  -- has every other prepared part,
  pub lists_prepared : (i : ℕ) → i < sizes.live → (i ≡ place → ⊥) → is_prepared (sub_at s i) ≡ true → 0 < (sub_at s i).tx
      → Listing (concurrent s place) (sub_at s i).tx (sub_at s i).course.mask (dependent (sub_at s place).keys (sub_at s i).keys)
  unfolding concurrent candidates
  lists_prepared i h n p t =
      let (k, e, l, _) = prepared_few s.live place sizes.live in
      let es = candidates s place in
      joined_lists es (entry_count es) (sub_at s i).tx (sub_at s i).course.mask (dependent (sub_at s place).keys (sub_at s i).keys) refl
      candidates_marks t
      (append_left (prepared_list s.live place sizes.live) _ k e _ _ _ (prepared_holds s.live place i h n p))

  -- and every remembered install after the snapshot.
  pub lists_installed : (i : ℕ) → within s.counters.installs (sub_at s place).snapshot ≤ i → i < remembered s.counters.installs
      → (let e = recall s.history s.counters.installs i in 0 < e.tx
      → Listing (concurrent s place) e.tx e.mask (dependent (sub_at s place).keys e.keys))
  unfolding concurrent candidates
  lists_installed i h l t =
      let (k, e, m, _) = prepared_few s.live place sizes.live in
      let n = s.counters.installs in
      let seen = within n (sub_at s place).snapshot in
      let es = candidates s place in
      let q : seen + (i - seen) ≡ i = omega arith in
      let w = installed_holds s.history n (sub_at s place).keys seen (remembered n - seen) (i - seen) (omega arith) in
      joined_lists es (entry_count es) _ _ _ refl candidates_marks t
      (append_right (prepared_list s.live place sizes.live) _ k e _ _ _ (rw q at w))

-- The vote.

-- entry `entry` of the n is for the install `install` within the snapshot, and is marked or dependent here
pub record Conflict (s : Site) (place : ℕ) (es : List ℕ) (n : ℕ) : Type 0 where
  pub entry : ℕ
  pub install : ℕ
  pub listed : entry < n
  pub seen : install < within s.counters.installs (sub_at s place).snapshot
  pub same : entry_tx es entry ≡ (recall s.history s.counters.installs install).tx
  pub how : (entry_mark es entry ≡ 1) ⊎ (dependent (sub_at s place).keys (recall s.history s.counters.installs install).keys ≡ true)

-- entry `entry` of the n names this site and has no record here, and something has been forgotten here
pub record Doubt (s : Site) (es : List ℕ) (n : ℕ) : Type 0 where
  pub entry : ℕ
  pub listed : entry < n
  pub lost : 0 < forgotten s.counters.installs
  pub names : in_mask (entry_mask es entry) s.counters.own ≡ true
  pub none : is_recorded s (entry_tx es entry) ≡ false

second : (x : Bool) → some (x ∷ true ∷ []) ≡ true
second true = refl
second false = refl

conflict_any : (s : Site) (place : ℕ) (es : List ℕ) (n : ℕ) → Conflict s place es n → any_below (conflicts_with s place es) n ≡ true
unfolding conflicts_with conflicts_at
conflict_any s place es n c =
    let e = recall s.history s.counters.installs c.install in
    let own = (sub_at s place).keys in
    let t : some (eqb (entry_mark es c.entry) 1 ∷ dependent own e.keys ∷ []) ≡ true =
    ⊎_elim (λ (m : entry_mark es c.entry ≡ 1). rw (eq-eqb (entry_mark es c.entry) 1 m))
    (λ (d : dependent own e.keys ≡ true). rw d (second (eqb (entry_mark es c.entry) 1))) c.how in
    sym (any_below_lem (conflicts_with s place es) n c.entry c.listed
    (sym (any_below_lem (λ k. conflicts_at own es c.entry (recall s.history s.counters.installs k)) _ c.install c.seen
    (rw (eq-eqb (entry_tx es c.entry) e.tx c.same, t)))))

any_conflict : (s : Site) (place : ℕ) (es : List ℕ) (n : ℕ) → any_below (conflicts_with s place es) n ≡ true → Conflict s place es n
unfolding conflicts_with conflicts_at
any_conflict s place es n t =
    let own = (sub_at s place).keys in
    let (i, l, w) = any_below_at (conflicts_with s place es) n t in
    let (k, m, v) = any_below_at (λ k. conflicts_at own es i (recall s.history s.counters.installs k)) _ w in
    let e = recall s.history s.counters.installs k in
    let y = some (eqb (entry_mark es i) 1 ∷ dependent own e.keys ∷ []) in
    record {
      entry = i;
      install = k;
      listed = l;
      seen = m;
      same = eqb-true (entry_tx es i) e.tx (picked_left (eqb (entry_tx es i) e.tx) (every (y ∷ [])) v);
      how =
          ⊎_elim
          (λ (q : eqb (entry_mark es i) 1 ≡ true). inl (eqb-true (entry_mark es i) 1 q))
          (λ (q : dependent own e.keys ≡ true). inr q)
          (some_two (eqb (entry_mark es i) 1) (dependent own e.keys)
          (picked_left y true (picked_right (eqb (entry_tx es i) e.tx) (every (y ∷ [])) v)));
    }

doubt_any : (s : Site) (es : List ℕ) (n : ℕ) → Doubt s es n → any_below (uncertain_of s es) n ≡ true
unfolding uncertain_of
doubt_any s es n d =
    sym (any_below_lem (uncertain_of s es) n d.entry d.listed
    (rw (lt-ltb 0 (forgotten s.counters.installs) d.lost, d.names, d.none)))

any_doubt : (s : Site) (es : List ℕ) (n : ℕ) → any_below (uncertain_of s es) n ≡ true → Doubt s es n
unfolding uncertain_of
any_doubt s es n t =
    let (i, l, w) = any_below_at (uncertain_of s es) n t in
    let tests = ltb 0 (forgotten s.counters.installs) ∷ in_mask (entry_mask es i) s.counters.own
    ∷ not (is_recorded s (entry_tx es i)) ∷ [] in
    record {
      entry = i;
      listed = l;
      lost = ltb-true 0 (forgotten s.counters.installs) (every_at tests 0 w);
      names = every_at tests 1 w;
      none = not-true (is_recorded s (entry_tx es i)) (every_at tests 2 w);
    }

-- It is 18 where there is a conflict, else 19 where there is a doubt, else yes.
pub conflict_voted : (s : Site) (place : ℕ) (es : List ℕ) (n : ℕ) → Conflict s place es n → vote_of s place es n ≡ reason.conflict
unfolding vote_of
conflict_voted s place es n c = rw (conflict_any s place es n c)

pub doubt_voted : (s : Site) (place : ℕ) (es : List ℕ) (n : ℕ) → (Conflict s place es n → ⊥) → Doubt s es n
    → vote_of s place es n ≡ reason.uncertain
unfolding vote_of
doubt_voted s place es n f d =
    by_test (any_below (conflicts_with s place es) n)
    (λ t. absurd (f (any_conflict s place es n t)))
    (λ t. rw (t, doubt_any s es n d))

pub by_vote : {P : Type 0} (s : Site) (place : ℕ) (es : List ℕ) (n : ℕ)
    → (vote_of s place es n ≡ 0 → (Conflict s place es n → ⊥) → (Doubt s es n → ⊥) → P)
    → (vote_of s place es n ≡ reason.conflict → Conflict s place es n → P)
    → (vote_of s place es n ≡ reason.uncertain → (Conflict s place es n → ⊥) → Doubt s es n → P) → P
unfolding vote_of
by_vote s place es n f g h =
    by_test (any_below (conflicts_with s place es) n)
    (λ t. g (rw t) (any_conflict s place es n t))
    (λ t. by_test (any_below (uncertain_of s es) n)
    (λ u. h (rw (t, u)) (λ c. set_not _ (conflict_any s place es n c) t) (any_doubt s es n u))
    (λ u. f (rw (t, u)) (λ c. set_not _ (conflict_any s place es n c) t) (λ d. set_not _ (doubt_any s es n d) u)))

-- Yes: no entry is for an install within the snapshot that is marked or dependent here,
pub yes_clear : (s : Site) (place : ℕ) (es : List ℕ) (n : ℕ) → vote_of s place es n ≡ 0 → (j k : ℕ) → j < n
    → k < within s.counters.installs (sub_at s place).snapshot → entry_tx es j ≡ (recall s.history s.counters.installs k).tx
    → (entry_mark es j ≡ 1 → ⊥) × (dependent (sub_at s place).keys (recall s.history s.counters.installs k).keys ≡ false)
yes_clear s place es n v j k h l e =
    let no : ((entry_mark es j ≡ 1) ⊎ (dependent (sub_at s place).keys (recall s.history s.counters.installs k).keys ≡ true)) → ⊥ =
    λ w. (let c = conflict_voted s place es n (record { entry = j; install = k; listed = h; seen = l; same = e; how = w }) in
    omega arith) in (
      λ m. no (inl m),
      by_test (dependent (sub_at s place).keys (recall s.history s.counters.installs k).keys) (λ t. absurd (no (inr t))) (λ t. t),
    )

-- and each that names this site is on record, where something has been forgotten.
pub yes_recorded : (s : Site) (place : ℕ) (es : List ℕ) (n : ℕ) → vote_of s place es n ≡ 0 → (j : ℕ) → j < n
    → 0 < forgotten s.counters.installs → in_mask (entry_mask es j) s.counters.own ≡ true → is_recorded s (entry_tx es j) ≡ true
yes_recorded s place es n v j h l i =
    by_vote s place es n
    (λ e c d. by_test (is_recorded s (entry_tx es j)) (λ t. t)
    (λ t. absurd (d (record { entry = j; listed = h; lost = l; names = i; none = t }))))
    (λ e c. absurd (omega arith))
    (λ e c d. absurd (omega arith))

-- On record: live here, or remembered.
pub recorded_is : (s : Site) (tx : ℕ) → is_recorded s tx ≡ true
    → ((i : ℕ) × (i < sizes.live) × (is_part_of (sub_at s i) tx ≡ true))
    ⊎ ((k : ℕ) × (k < remembered s.counters.installs) × ((recall s.history s.counters.installs k).tx ≡ tx))
unfolding is_recorded is_held place_of recall_place
recorded_is s tx t =
    let held : ℕ → Bool = λ i. is_part_of (sub_at s i) tx in
    let kept : ℕ → Bool = λ k. eqb (recall s.history s.counters.installs k).tx tx in
    let m = remembered s.counters.installs in
    ⊎_elim
    (λ (h : ltb (first_below held sizes.live) sizes.live ≡ true). inl
    (first_below held sizes.live, ltb-true _ _ h, at_first held sizes.live (ltb-true _ _ h)))
    (λ (h : ltb (first_below kept m) m ≡ true). inr (first_below kept m, ltb-true _ _ h, eqb-true _ _ (at_first kept m (ltb-true _ _ h))))
    (some_two (ltb (first_below held sizes.live) sizes.live) (ltb (first_below kept m) m) t)
