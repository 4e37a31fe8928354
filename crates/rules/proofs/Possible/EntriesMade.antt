-- Entries that a site writes pass the check: those of its own list, those of a join, and those that stand in the gathered lists.
use Prim.Native.Nat.{ℕ, zero, suc, ◌+◌, ◌-◌, ◌*◌, ◌≤◌, ◌<◌}
use mathlib.Core.Path.{◌≡◌, refl, sym, ap, ◌∙◌}
use mathlib.Core.List.{List, [], ◌∷◌}
use mathlib.Core.Bool.{true}
use mathlib.Core.Logic.{inl, inr}
use native.Mathlib.Omega.{arith}
use borrow.Author.Tests.{leb-true, leb-false, le-leb, lt-ltb}
use lib.Dec.{leb, ltb, eqb}
use lib.ListN.{length, get_or, take, drop}
use lib.Seq.{get_or-take, get_or-drop}
use Rattle.laws.specs.Choice.{by_test, every_at}
use Rattle.laws.specs.Scan.{fold_below}
use Rattle.laws.specs.Overlay.{put_at}
use Rattle.kinds.specs.Sizes as sizes
use Rattle.kinds.specs.Stage as stage
use Rattle.kinds.specs.State.{sub_at}
use Rattle.kinds.specs.declared.House.{House}
use Rattle.kinds.specs.declared.Site.{Site}
use Rattle.rules.specs.House.{is_tx, is_mask}
use Rattle.rules.specs.Message.{entry_tx, entry_mask, entry_mark, entry_count, entry_before, entry_possible, entry_ok}
use Rattle.rules.specs.KeysLaws.{by_order}
use Rattle.rules.specs.Live.{is_prepared}
use Rattle.rules.specs.Join.{with_listed, listed_of, join_tx, join_count, joined}
use Rattle.rules.proofs.JoinLaws.{count_le, count_joined, join_whole, joined_member, of_mark, listed_from}
use Rattle.rules.proofs.EntryLaws.{joined_tx, joined_mask, joined_mark, joined_ascends}
use Rattle.rules.specs.Certify.{candidates, concurrent}
use Rattle.rules.proofs.CertifyLaws.{candidates_marks, concurrent_whole, concurrent_few}
use Rattle.rules.proofs.ListLaws.{Candidate, candidate_from}
use Rattle.rules.specs.Valid.{site_ok, list_at}
use Rattle.rules.specs.ValidLaws.{valid_site, valid_recall, recall_tx}
use Rattle.rules.specs.MergerWords.{above, put_before, put_behind, put_within}
use Rattle.rules.proofs.Possible.ValidMade.{none_mask, both_mask}

-- What a possible entry says.
pub record PossibleEntry (o : House) (es : List ℕ) (i : ℕ) : Type 0 where
  pub tx : is_tx o (entry_tx es i) ≡ true
  pub mask : is_mask o (entry_mask es i) ≡ true
  pub mark : entry_mark es i ≤ 1

entry_clear : (o : House) (es : List ℕ) (i : ℕ) → entry_possible o es i ≡ true → PossibleEntry o es i
unfolding entry_possible
entry_clear o es i e =
    let l = is_tx o (entry_tx es i) ∷ is_mask o (entry_mask es i) ∷ leb (entry_mark es i) 1 ∷ [] in
    record { tx = every_at l 0 e; mask = every_at l 1 e; mark = leb-true (entry_mark es i) 1 (every_at l 2 e) }

clear_entry : (o : House) (es : List ℕ) (i : ℕ) → PossibleEntry o es i → entry_possible o es i ≡ true
unfolding entry_possible
clear_entry o es i p = rw (p.tx, p.mask, le-leb (entry_mark es i) 1 p.mark)

-- the first n entries are possible
abbrev pub AllPossible : House → List ℕ → ℕ → Type 0
AllPossible o es n = (i : ℕ) → i < n → entry_possible o es i ≡ true

-- whole entries, at most `most`, each of which passes the check
pub record Carried (o : House) (most : ℕ) (es : List ℕ) : Type 0 where
  pub whole : length es ≡ sizes.entry * entry_count es
  pub few : entry_count es ≤ most
  pub each : (i : ℕ) → i < entry_count es → entry_ok o es i ≡ true

pub carried_none : (o : House) (most : ℕ) → Carried o most []
unfolding entry_count
carried_none o most = record { whole = refl; few = omega arith; each = λ i h. absurd (omega arith) }

-- each of them is possible
pub carried_possible : (o : House) (es : List ℕ) (i : ℕ) → entry_ok o es i ≡ true → entry_possible o es i ≡ true
unfolding entry_ok
carried_possible o es i e = every_at (ltb (entry_before es i) (entry_tx es i) ∷ entry_possible o es i ∷ []) 1 e

-- A join of possible entries.
module _ (o : House) (es : List ℕ) (n : ℕ) (all : AllPossible o es n) where
  join_mask : (t k : ℕ) → k ≤ n → is_mask o (listed_of es t k).mask ≡ true
  unfolding listed_of fold_below with_listed
  join_mask t zero h = none_mask o
  join_mask t (suc k) h =
      by_test (eqb (entry_tx es k) t)
      (λ e. rw e (both_mask o _ _ (join_mask t k (omega arith)) (entry_clear o es k (all k (omega arith))).mask))
      (λ e. rw e (join_mask t k (omega arith)))

  join_mark : (t : ℕ) → (listed_of es t n).mark ≤ 1
  join_mark t =
      by_test (leb (listed_of es t n).mark 1)
      (λ e. leb-true (listed_of es t n).mark 1 e)
      (λ e. let l = leb-false (listed_of es t n).mark 1 e in
      let (i, h, q, m) = listed_from _ _ of_mark es t n (omega arith) in
      omega (arith, (entry_clear o es i (all i h)).mark))

  join_entry : (j : ℕ) → j < join_count es n → entry_ok o (joined es n) j ≡ true
  unfolding entry_ok
  join_entry j h =
      let (i, l, e) = joined_member es n j h in
      let fs = joined es n in
      let possible = clear_entry o fs j (record {
        tx = rw (joined_tx es n j h, ← e) (entry_clear o es i (all i l)).tx;
        mask = rw (joined_mask es n j h) (join_mask (join_tx es n (suc j)) n (omega arith));
        mark = rw (joined_mark es n j h) (join_mark (join_tx es n (suc j)));
      }) in
      rw (lt-ltb (entry_before fs j) (entry_tx fs j) (joined_ascends es n j h), possible)

  pub join_carried : (most : ℕ) → n ≤ most → Carried o most (joined es n)
  join_carried most few =
      let c = count_joined es n in
      record {
        whole = join_whole es n;
        few = omega (arith, count_le es n);
        each = λ i h. join_entry i (omega arith);
      }

-- A site's own list.
module _ (s : Site) (ok : site_ok s ≡ true) (place : ℕ) where
  prepared_held : (i : ℕ) → is_prepared (sub_at s i) ≡ true → (sub_at s i).course.stage ≡ stage.free → ⊥
  unfolding is_prepared
  prepared_held i e z = omega (arith, leb-true stage.prepared (sub_at s i).course.stage e)

  candidate_possible : (t m d : ℕ) → Candidate s place t m d → (is_tx s.house t ≡ true) × (is_mask s.house m ≡ true)
  candidate_possible t m d (inl c) =
      let v = (valid_site s ok).part c.place c.low in
      (rw c.tx (v.tx (prepared_held c.place c.prepared)), rw c.mask v.course.mask_house)
  candidate_possible t m d (inr c) =
      (rw c.tx (recall_tx s ok c.install c.kept), rw c.mask (valid_recall s ok c.install).mask_house)

  candidates_possible : AllPossible s.house (candidates s place) (entry_count (candidates s place))
  candidates_possible i h =
      let (t, m) = candidate_possible _ _ _ (candidate_from s place i h) in
      clear_entry s.house (candidates s place) i (record { tx = t; mask = m; mark = candidates_marks s place i })

  pub list_carried : place < sizes.live → Carried s.house sizes.conc_entries (concurrent s place)
  unfolding concurrent
  list_carried h =
      let es = candidates s place in
      let c = join_carried s.house es (entry_count es) candidates_possible (entry_count es) (omega arith) in
      record { whole = concurrent_whole s place; few = concurrent_few s place h; each = c.each }

-- Words put into the gathered lists.
word_of : (l : List ℕ) (k : ℕ) → get_or l k 0 ≡ get_or (take 1 (drop k l)) 0 0
word_of l k =
    let z : k + 0 ≡ k = omega arith in
    sym (get_or-take 1 (drop k l) 0 0 (omega arith) ∙ get_or-drop k l 0 0 ∙ ap (λ (x : ℕ). get_or l x 0) z)

-- entry i of es has the words of entry j of fs
same_entry : (o : House) (es fs : List ℕ) (i j : ℕ)
    → ((r : ℕ) → r < sizes.entry → get_or es (sizes.entry * i + r) 0 ≡ get_or fs (sizes.entry * j + r) 0)
    → entry_possible o fs j ≡ true → entry_possible o es i ≡ true
unfolding entry_possible
same_entry o es fs i j f e = rw (f 0 (omega arith), f 1 (omega arith), f 2 (omega arith)) e

module _ (o : House) (lists ws : List ℕ) (at place : ℕ) (size : length lists ≡ sizes.lists) (held : place < sizes.live)
    (from : sizes.gathered * place ≤ at) (to : at + length ws ≤ sizes.gathered * place + sizes.gathered) where
  abbrev after : List ℕ
  after = put_at at lists ws

  word_before : (k : ℕ) → k < at → get_or after k 0 ≡ get_or lists k 0
  word_before k h =
      word_of after k ∙ ap (λ (l : List ℕ). get_or l 0 0) (put_before at lists ws k 1 (omega arith) (omega arith)) ∙ sym (word_of lists k)

  word_behind : (k : ℕ) → at + length ws ≤ k → get_or after k 0 ≡ get_or lists k 0
  word_behind k h =
      word_of after k ∙ ap (λ (l : List ℕ). get_or (take 1 l) 0 0) (put_behind at lists ws k (omega arith) h) ∙ sym (word_of lists k)

  word_within : (k : ℕ) → k < length ws → get_or after (at + k) 0 ≡ get_or ws k 0
  word_within k h =
      word_of after (at + k) ∙ ap (λ (l : List ℕ). get_or l 0 0) (put_within at lists ws k 1 (omega arith) (omega arith)) ∙ sym (word_of ws k)

  -- the entries at another place stay
  pub others_possible : (j n : ℕ) → (j ≡ place → ⊥) → n ≤ sizes.cert_entries → AllPossible o (list_at lists j) n
      → AllPossible o (list_at after j) n
  others_possible j n apart few all i h =
      let b = sizes.gathered * j in
      same_entry o (list_at after j) (list_at lists j) i i
      (λ r l.
      let k = sizes.entry * i + r in
      get_or-drop b after k 0
      ∙ by_order j place
      (λ z. word_before (b + k) (omega arith))
      (λ z. word_behind (b + k) (let y = above place j z (λ x. apart (sym x)) in omega arith))
      ∙ sym (get_or-drop b lists k 0))
      (all i h)

  -- those put at their own place stand behind its first k
  pub more_possible : (k n : ℕ) → at ≡ sizes.gathered * place + sizes.entry * k → length ws ≡ sizes.entry * n
      → AllPossible o (list_at lists place) k → AllPossible o ws n → AllPossible o (list_at after place) (k + n)
  more_possible k n e whole old new i h =
      let b = sizes.gathered * place in
      by_order i k
      (λ z. same_entry o (list_at after place) (list_at lists place) i i
      (λ r l.
      let k = sizes.entry * i + r in
      get_or-drop b after k 0 ∙ word_before (b + k) (omega arith) ∙ sym (get_or-drop b lists k 0))
      (old i z))
      (λ z. same_entry o (list_at after place) ws i (i - k)
      (λ r l.
      let q : b + (sizes.entry * i + r) ≡ at + (sizes.entry * (i - k) + r) = omega arith in
      get_or-drop b after (sizes.entry * i + r) 0 ∙ ap (λ (x : ℕ). get_or after x 0) q ∙ word_within (sizes.entry * (i - k) + r) (omega arith))
      (new (i - k) (omega arith)))
