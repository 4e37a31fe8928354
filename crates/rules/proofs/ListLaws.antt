-- C21 to C27: a part's list has nothing but the other prepared parts and the remembered installs after its snapshot.
use Rattle.std.specs.Prelude.{ℕ, suc, ◌+◌, ◌-◌, ◌*◌, ◌≤◌, ◌<◌, ◌≡◌, List, ◌++◌, true, ◌⊎◌}
use Rattle.std.proofs.Math.Path.{refl, ap, sym}
use Rattle.std.proofs.Common.{◌∙◌}
use Rattle.std.proofs.Math.Logic.{inl, inr}
use native.Mathlib.Omega.{arith}
use Rattle.std.proofs.Math.ListN.{length, get_or, length-append, get_or-append}
use Rattle.std.proofs.Math.Seq.{get_or-append-add}
use Rattle.laws.specs.Digits.{digit}
use Rattle.kinds.specs.Sizes as sizes
use Rattle.kinds.specs.declared.Site.{Site}
use Rattle.kinds.specs.State.{sub_at}
use Rattle.rules.specs.House.{in_mask}
use Rattle.rules.specs.Message.{entry_tx, entry_mask, entry_mark, entry_count}
use Rattle.rules.specs.Keys.{dependent}
use Rattle.rules.specs.Live.{is_prepared}
use Rattle.rules.specs.History.{recall, remembered, within}
use Rattle.rules.proofs.JoinLaws.{count_joined, of_site, of_mark, listed_from, joined_member}
use Rattle.rules.specs.Certify.{mark_of, concurrent_words, prepared_words, installed_words, prepared_list, installed_list, candidates}
use Rattle.rules.specs.Certify.{concurrent}
use Rattle.rules.proofs.EntryLaws.{gathered_from, joined_tx, joined_mask, joined_mark, in_digit, digit_in}
use Rattle.rules.specs.KeysLaws.{by_order}
use Rattle.rules.specs.Join.{join_tx, join_count}
use Rattle.rules.proofs.CertifyLaws.{prepared_is, prepared_each, prepared_few}

-- another prepared part of transaction t, with participants m and mark d
pub record OtherPrepared (s : Site) (own t m d : ℕ) : Type 0 where
  pub place : ℕ
  pub low : place < sizes.live
  pub other : place ≡ own → ⊥
  pub prepared : is_prepared (sub_at s place) ≡ true
  pub tx : t ≡ (sub_at s place).tx
  pub mask : m ≡ (sub_at s place).course.mask
  pub mark : d ≡ mark_of (dependent (sub_at s own).keys (sub_at s place).keys)

-- a remembered install after the snapshot, of transaction t, with participants m and mark d
pub record LaterInstall (s : Site) (own t m d : ℕ) : Type 0 where
  pub install : ℕ
  pub after : within s.counters.installs (sub_at s own).snapshot ≤ install
  pub kept : install < remembered s.counters.installs
  pub tx : t ≡ (recall s.history s.counters.installs install).tx
  pub mask : m ≡ (recall s.history s.counters.installs install).mask
  pub mark : d ≡ mark_of (dependent (sub_at s own).keys (recall s.history s.counters.installs install).keys)

abbrev pub Candidate : Site → ℕ → ℕ → ℕ → ℕ → Type 0
Candidate s own t m d = OtherPrepared s own t m d ⊎ LaterInstall s own t m d

prepared_from : (s : Site) (place k : ℕ) → sizes.entry * k + sizes.entry ≤ length (prepared_list s.live place sizes.live)
    → (let es = prepared_list s.live place sizes.live in OtherPrepared s place (entry_tx es k) (entry_mask es k) (entry_mark es k))
unfolding prepared_list
prepared_from s place k h =
    let own = (sub_at s place).keys in
    let (i, l, e, at) =
    gathered_from (λ i. prepared_words place own i (sub_at s i)) (λ i. prepared_each place own i (sub_at s i)) sizes.live k h in
    prepared_is place own i (sub_at s i)
    (λ n p w.
    let word : (r : ℕ) → r < sizes.entry
    → get_or (prepared_list s.live place sizes.live) (sizes.entry * k + r) 0
    ≡ get_or (concurrent_words own (sub_at s i).tx (sub_at s i).course.mask (sub_at s i).keys) r 0 =
    λ r z. at r z ∙ ap (λ (x : List ℕ). get_or x r 0) w in
    record {
      place = i;
      low = l;
      other = n;
      prepared = p;
      tx = word 0 (omega arith);
      mask = word 1 (omega arith);
      mark = word 2 (omega arith);
    })
    (λ w. absurd (omega (arith, ap length w)))

module _ (s : Site) (place : ℕ) where
  abbrev after : List ℕ
  after =
      let n = s.counters.installs in
      let seen = within n (sub_at s place).snapshot in
      installed_list s.history n (sub_at s place).keys seen (remembered n - seen)

  installed_from : (k : ℕ) → sizes.entry * k + sizes.entry ≤ length after
      → LaterInstall s place (entry_tx after k) (entry_mask after k) (entry_mark after k)
  unfolding installed_list installed_words
  installed_from k h =
      let n = s.counters.installs in
      let seen = within n (sub_at s place).snapshot in
      let own = (sub_at s place).keys in
      let (i, l, e, at) =
      gathered_from (λ i. installed_words own (recall s.history n (seen + i))) (λ i. inr refl) (remembered n - seen) k h in
      record {
        install = seen + i;
        after = omega arith;
        kept = omega arith;
        tx = at 0 (omega arith);
        mask = at 1 (omega arith);
        mark = at 2 (omega arith);
      }

  pub candidate_from : (k : ℕ) → k < entry_count (candidates s place)
      → (let es = candidates s place in Candidate s place (entry_tx es k) (entry_mask es k) (entry_mark es k))
  unfolding candidates entry_count
  candidate_from k h =
      let ws = prepared_list s.live place sizes.live in
      let (a, e, l, _) = prepared_few s.live place sizes.live in
      let q = length-append ws after in
      by_order (sizes.entry * k) (length ws)
      (λ z.
      let at : (r : ℕ) → r < sizes.entry
      → get_or (ws ++ after) (sizes.entry * k + r) 0 ≡ get_or ws (sizes.entry * k + r) 0 =
      λ r p. get_or-append ws after 0 (sizes.entry * k + r) (omega arith) in
      let c = prepared_from s place k (omega arith) in
      inl (record {
        place = c.place;
        low = c.low;
        other = c.other;
        prepared = c.prepared;
        tx = at 0 (omega arith)
            ∙ c.tx;
        mask = at 1 (omega arith) ∙ c.mask;
        mark = at 2 (omega arith) ∙ c.mark;
      }))
      (λ z.
      let at : (r : ℕ) → get_or (ws ++ after) (sizes.entry * k + r) 0 ≡ get_or after (sizes.entry * (k - a) + r) 0 =
      λ r. (let p : sizes.entry * k + r ≡ length ws + (sizes.entry * (k - a) + r) = omega arith in
      ap (λ (i : ℕ). get_or (ws ++ after) i 0) p ∙ get_or-append-add ws after (sizes.entry * (k - a) + r) 0) in
      let c = installed_from (k - a) (omega arith) in
      inr (record {
        install = c.install;
        after = c.after;
        kept = c.kept;
        tx = at 0 ∙ c.tx;
        mask = at 1 ∙ c.mask;
        mark = at 2
            ∙ c.mark;
      }))

  retold : {t u m d e : ℕ} → t ≡ u → d ≡ e → Candidate s place u m e → Candidate s place t m d
  retold p q c = rw (p, q) c

  abbrev list : List ℕ
  list = concurrent s place

  -- an entry is for one of these, names a site that one of them names, and is marked where one of them is dependent
  pub lists_only : (j : ℕ) → j < entry_count list → (m d : ℕ) × Candidate s place (entry_tx list j) m d
  unfolding concurrent
  lists_only j h =
      let es = candidates s place in
      let n = entry_count es in
      let l : j < join_count es n = omega (arith, count_joined es n) in
      let (i, p, e) = joined_member es n j l in
      (entry_mask es i, entry_mark es i, retold (joined_tx es n j l ∙ sym e) refl (candidate_from i p))

  pub names_only : (j r : ℕ) → j < entry_count list → in_mask (entry_mask list j) r ≡ true
      → (m d : ℕ) × Candidate s place (entry_tx list j) m d × (in_mask m r ≡ true)
  unfolding concurrent
  names_only j r h t =
      let es = candidates s place in
      let n = entry_count es in
      let l : j < join_count es n = omega (arith, count_joined es n) in
      let y = ap (λ (v : ℕ). digit v (r - 1)) (joined_mask es n j l) in
      let (i, p, e, w) = listed_from _ _ (of_site (r - 1)) es (join_tx es n (suc j)) n (omega (arith, in_digit (entry_mask list j) r t)) in (
        entry_mask es i,
        entry_mark es i,
        retold (joined_tx es n j l ∙ sym e) refl (candidate_from i p),
        digit_in (entry_mask es i) r (omega (arith, in_digit (entry_mask list j) r t)),
      )

  pub marks_only : (j : ℕ) → j < entry_count list → entry_mark list j ≡ 1 → (m : ℕ) × Candidate s place (entry_tx list j) m 1
  unfolding concurrent
  marks_only j h t =
      let es = candidates s place in
      let n = entry_count es in
      let l : j < join_count es n = omega (arith, count_joined es n) in
      let (i, p, e, w) = listed_from _ _ of_mark es (join_tx es n (suc j)) n (omega (arith, joined_mark es n j l)) in
      let o : entry_mark es i ≡ 1 = omega (arith, joined_mark es n j l) in
      (entry_mask es i, retold (joined_tx es n j l ∙ sym e) (sym o) (candidate_from i p))
