-- Laws of words that are entries: gathered step by step, laid one list behind another, and joined (C21 to C33).
use Rattle.std.specs.Prelude.{ℕ, zero, suc, ◌+◌, ◌-◌, ◌*◌, ◌≤◌, ◌<◌, ◌≡◌, refl, List, [], ◌++◌, Bool, true, ◌⊎◌, eqb}
use Rattle.std.proofs.Math.Path.{ap}
use Rattle.std.proofs.Common.{sym, ◌∙◌, ⊎_elim, eqb-true, eq-eqb, ne_eqb}
use native.Mathlib.Omega.{arith}
use Rattle.std.proofs.Math.ListN.{length, get_or, length-append, get_or-append}
use Rattle.std.proofs.Math.Seq.{get_or-append-add}
use Rattle.laws.specs.Scan.{fold_below, split_last}
use Rattle.laws.specs.Digits.{digit, digit_le}
use Rattle.kinds.specs.Sizes as sizes
use Rattle.rules.specs.House.{in_mask}
use Rattle.rules.specs.Message.{entry_tx, entry_mask, entry_mark, entry_count, entry_before}
use Rattle.rules.specs.KeysLaws.{by_order}
use Rattle.rules.specs.Join.{listed_of, join_tx, join_count, entry_words, join_words, joined}
use Rattle.rules.proofs.JoinLaws.{of_site, of_mark, ascending, complete, count_joined, listed_in, listed_from}
use Rattle.rules.specs.Certify.{mark_of}

-- Words gathered step by step, each step an entry or nothing.

abbrev pub gathered : (ℕ → List ℕ) → ℕ → List ℕ
gathered f n = fold_below (λ i ws. ws ++ f i) n []

pub gathered_more : (f : ℕ → List ℕ) (n : ℕ) → gathered f (suc n) ≡ gathered f n ++ f n
unfolding fold_below
gathered_more f n = refl

pub gathered_none : (f : ℕ → List ℕ) → gathered f 0 ≡ []
unfolding fold_below
gathered_none f = refl

abbrev pub Entries : (ℕ → List ℕ) → Type 0
Entries f = (i : ℕ) → (length (f i) ≡ 0) ⊎ (length (f i) ≡ sizes.entry)

module _ (f : ℕ → List ℕ) (each : Entries f) where
  pub gathered_whole : (n : ℕ) → (k : ℕ) × (length (gathered f n) ≡ sizes.entry * k) × (k ≤ n)
  gathered_whole zero = (0, ap length (gathered_none f), omega arith)
  gathered_whole (suc n) =
      let (k, e, l) = gathered_whole n in
      let q = ap length (gathered_more f n) ∙ length-append (gathered f n) (f n) in
      ⊎_elim
      (λ (z : length (f n) ≡ 0). (k, omega arith, omega arith))
      (λ (z : length (f n) ≡ sizes.entry). (k + 1, omega arith, omega arith))
      (each n)

  -- the entry of step i stands at some place k
  pub gathered_at : (n i : ℕ) → i < n → length (f i) ≡ sizes.entry
      → (k : ℕ) × (sizes.entry * k + sizes.entry ≤ length (gathered f n))
      × ((r : ℕ) → r < sizes.entry → get_or (gathered f n) (sizes.entry * k + r) 0 ≡ get_or (f i) r 0)
  gathered_at zero i h e = absurd (omega arith)
  gathered_at (suc n) i h e =
      let ws = gathered f n in
      let g = gathered_more f n in
      let q = ap length g ∙ length-append ws (f n) in
      split_last h
      (λ (z : i ≡ n).
      let (k, w, l) = gathered_whole n in
      let e' : length (f n) ≡ sizes.entry = rw z at e in (
        k,
        omega arith,
        λ r s.
            let p : sizes.entry * k + r ≡ length ws + r = omega arith in
            ap (λ (l : List ℕ). get_or l (sizes.entry * k + r) 0) g ∙ ap (λ (x : ℕ). get_or (ws ++ f n) x 0) p ∙ get_or-append-add ws (f n) r 0
            ∙ ap (λ (x : ℕ). get_or (f x) r 0) (sym z),
      ))
      (λ (z : i < n).
      let (k, l, w) = gathered_at n i z e in (
        k,
        omega arith,
        λ r s.
            ap (λ (l : List ℕ). get_or l (sizes.entry * k + r) 0) g ∙ get_or-append ws (f n) 0 (sizes.entry * k + r) (omega arith) ∙ w r s,
      ))

  -- and each place k is that of some step
  pub gathered_from : (n k : ℕ) → sizes.entry * k + sizes.entry ≤ length (gathered f n)
      → (i : ℕ) × (i < n) × (length (f i) ≡ sizes.entry)
      × ((r : ℕ) → r < sizes.entry → get_or (gathered f n) (sizes.entry * k + r) 0 ≡ get_or (f i) r 0)
  gathered_from zero k h = absurd (omega (arith, ap length (gathered_none f)))
  gathered_from (suc n) k h =
      let ws = gathered f n in
      let g = gathered_more f n in
      let q = ap length g ∙ length-append ws (f n) in
      let (m, w, l) = gathered_whole n in
      by_order (sizes.entry * k) (length ws)
      (λ z.
      let (i, s, e, at) = gathered_from n k (omega arith) in (
        i,
        omega arith,
        e,
        λ r p.
            ap (λ (x : List ℕ). get_or x (sizes.entry * k + r) 0) g
            ∙ get_or-append ws (f n) 0 (sizes.entry * k + r) (omega arith) ∙ at r p,
      ))
      (λ z.
      let full : length (f n) ≡ sizes.entry =
      ⊎_elim (λ (e : length (f n) ≡ 0). absurd (omega arith)) (λ (e : length (f n) ≡ sizes.entry). e) (each n) in (
        n,
        omega arith,
        full,
        λ r p.
            let x : sizes.entry * k + r ≡ length ws + r = omega arith in
            ap (λ (l : List ℕ). get_or l (sizes.entry * k + r) 0) g ∙ ap (λ (i : ℕ). get_or (ws ++ f n) i 0) x ∙ get_or-append-add ws (f n) r 0,
      ))

-- where every step has an entry, that of step i is the i-th
pub gathered_nth : (f : ℕ → List ℕ) → ((i : ℕ) → length (f i) ≡ sizes.entry) → (n i r : ℕ) → i < n → r < sizes.entry
    → (length (gathered f n) ≡ sizes.entry * n) × (get_or (gathered f n) (sizes.entry * i + r) 0 ≡ get_or (f i) r 0)
gathered_nth f each zero i r h s = absurd (omega arith)
gathered_nth f each (suc n) i r h s = (size (suc n), place (suc n) h)
  where
    size : (m : ℕ) → length (gathered f m) ≡ sizes.entry * m
    size zero = ap length (gathered_none f)
    size (suc m) = ap length (gathered_more f m) ∙ length-append (gathered f m) (f m) ∙ omega (arith, size m, each m)

    place : (m : ℕ) → i < m → get_or (gathered f m) (sizes.entry * i + r) 0 ≡ get_or (f i) r 0
    place zero h = absurd (omega arith)
    place (suc m) h =
        let ws = gathered f m in
        let l = size m in
        let g = ap (λ (x : List ℕ). get_or x (sizes.entry * i + r) 0) (gathered_more f m) in
        split_last h
        (λ (z : i ≡ m).
        let p : sizes.entry * i + r ≡ length ws + r = omega arith in
        g ∙ ap (λ (x : ℕ). get_or (ws ++ f m) x 0) p ∙ get_or-append-add ws (f m) r 0 ∙ ap (λ (x : ℕ). get_or (f x) r 0) (sym z))
        (λ (z : i < m). g ∙ get_or-append ws (f m) 0 (sizes.entry * i + r) (omega arith) ∙ place m z)

-- Entries of the join.

joined_at : (es : List ℕ) (n j r : ℕ) → j < join_count es n → r < sizes.entry
    → get_or (joined es n) (sizes.entry * j + r) 0 ≡ get_or (entry_words (join_tx es n (suc j)) (listed_of es (join_tx es n (suc j)) n)) r 0
unfolding joined join_words
joined_at es n j r h s =
    (gathered_nth (λ j. entry_words (join_tx es n (suc j)) (listed_of es (join_tx es n (suc j)) n)) (λ i. refl) (join_count es n) j r h s).1

pub joined_tx : (es : List ℕ) (n j : ℕ) → j < join_count es n → entry_tx (joined es n) j ≡ join_tx es n (suc j)
joined_tx es n j h = joined_at es n j 0 h (omega arith)

pub joined_mask : (es : List ℕ) (n j : ℕ) → j < join_count es n → entry_mask (joined es n) j ≡ (listed_of es (join_tx es n (suc j)) n).mask
joined_mask es n j h = joined_at es n j 1 h (omega arith)

pub joined_mark : (es : List ℕ) (n j : ℕ) → j < join_count es n → entry_mark (joined es n) j ≡ (listed_of es (join_tx es n (suc j)) n).mark
joined_mark es n j h = joined_at es n j 2 h (omega arith)

-- by transaction ascending
pub joined_ascends : (es : List ℕ) (n j : ℕ) → j < join_count es n → entry_before (joined es n) j < entry_tx (joined es n) j
unfolding entry_before join_tx fold_below
joined_ascends es n zero h = omega (arith, joined_tx es n 0 h, ascending es n 0 h)
joined_ascends es n (suc j) h =
    let q : suc j - 1 ≡ j = omega arith in
    rw (q, ne_eqb (suc j) 0 (λ z. omega arith))
    (omega (arith, joined_tx es n j (omega arith), joined_tx es n (suc j) h, ascending es n (suc j) h))

-- An entry for tx with these participants and this mark is among es.

abbrev pub Holds : List ℕ → ℕ → ℕ → ℕ → Type 0
Holds es tx mask mark = (k : ℕ) × (k < entry_count es) × (entry_tx es k ≡ tx) × (entry_mask es k ≡ mask) × (entry_mark es k ≡ mark)

-- an entry of the list: for tx, naming at least the sites of the mask, and marked where dependent
pub record Listing (es : List ℕ) (t m : ℕ) (dependent : Bool) : Type 0 where
  pub entry : ℕ
  pub low : entry < entry_count es
  pub tx : entry_tx es entry ≡ t
  pub names : (r : ℕ) → in_mask m r ≡ true → in_mask (entry_mask es entry) r ≡ true
  pub mark : dependent ≡ true → entry_mark es entry ≡ 1

-- every mark is 0 or 1
abbrev pub Marks : List ℕ → Type 0
Marks es = (k : ℕ) → entry_mark es k ≤ 1

pub in_digit : (m r : ℕ) → in_mask m r ≡ true → digit m (r - 1) ≡ 1
unfolding in_mask
in_digit m r t = eqb-true (digit m (r - 1)) 1 t

pub digit_in : (m r : ℕ) → 1 ≤ digit m (r - 1) → in_mask m r ≡ true
unfolding in_mask
digit_in m r h = eq-eqb (digit m (r - 1)) 1 (omega (arith, digit_le m (r - 1)))

module _ (es : List ℕ) (n : ℕ) where
  -- the join lists what the entries hold
  pub joined_lists : (t m : ℕ) (d : Bool) → n ≡ entry_count es → Marks es → 0 < t → Holds es t m (mark_of d) → Listing (joined es n) t m d
  joined_lists t m d c low h (k, l, x, y, z) =
      let (j, p, q) = complete es n k (omega arith) (omega arith) in
      let e : join_tx es n (suc j) ≡ t = q ∙ x in
      record {
        entry = j;
        low = omega (arith, count_joined es n);
        tx = joined_tx es n j p ∙ e;
        names = λ r i.
            let w = listed_in _ _ (of_site (r - 1)) es (join_tx es n (suc j)) n k (omega arith) (x ∙ sym e) in
            digit_in (entry_mask (joined es n) j) r
            (omega (arith, in_digit m r i, ap (λ (v : ℕ). digit v (r - 1)) (joined_mask es n j p), ap (λ (v : ℕ). digit v (r - 1)) y));
        mark = λ i.
            let w = listed_in _ _ of_mark es (join_tx es n (suc j)) n k (omega arith) (x ∙ sym e) in
            let o : mark_of d ≡ 1 = rw i in
            let g = joined_mark es n j p in
            let f = listed_from _ _ of_mark es (join_tx es n (suc j)) n (omega arith) in
            omega (arith, f.3, low f.0);
      }

-- Whole entries followed by others.
module _ (ws vs : List ℕ) (a : ℕ) (whole : length ws ≡ sizes.entry * a) where
  pub append_left : (t m d : ℕ) → Holds ws t m d → Holds (ws ++ vs) t m d
  unfolding entry_count
  append_left t m d (k, l, x, y, z) =
      let q = length-append ws vs in
      let at : (r : ℕ) → r < sizes.entry
      → get_or (ws ++ vs) (sizes.entry * k + r) 0 ≡ get_or ws (sizes.entry * k + r) 0 =
      λ r s. get_or-append ws vs 0 (sizes.entry * k + r) (omega arith) in
      (k, omega arith, at 0 (omega arith) ∙ x, at 1 (omega arith) ∙ y, at 2 (omega arith) ∙ z)

  pub append_right : (t m d : ℕ) → Holds vs t m d → Holds (ws ++ vs) t m d
  unfolding entry_count
  append_right t m d (k, l, x, y, z) =
      let q = length-append ws vs in
      let at : (r : ℕ) → get_or (ws ++ vs) (sizes.entry * (a + k) + r) 0 ≡ get_or vs (sizes.entry * k + r) 0 =
      λ r. (let p : sizes.entry * (a + k) + r ≡ length ws + (sizes.entry * k + r) = omega arith in
      ap (λ (i : ℕ). get_or (ws ++ vs) i 0) p ∙ get_or-append-add ws vs (sizes.entry * k + r) 0) in
      (a + k, omega arith, at 0 ∙ x, at 1 ∙ y, at 2 ∙ z)

  pub append_marks : Marks ws → Marks vs → Marks (ws ++ vs)
  append_marks f g k =
      by_order (sizes.entry * k + 2) (length ws)
      (λ h. omega (arith, get_or-append ws vs 0 (sizes.entry * k + 2) h, f k))
      (λ h.
      let q : sizes.entry * k + 2 ≡ length ws + (sizes.entry * (k - a) + 2) = omega arith in
      omega (arith, ap (λ (i : ℕ). get_or (ws ++ vs) i 0) q ∙ get_or-append-add ws vs (sizes.entry * (k - a) + 2) 0, g (k - a)))

pub gathered_marks : (f : ℕ → List ℕ) → Entries f → ((i : ℕ) → Marks (f i)) → (n : ℕ) → Marks (gathered f n)
gathered_marks f each low zero k = omega (arith, ap (λ (l : List ℕ). entry_mark l k) (gathered_none f))
gathered_marks f each low (suc n) k =
    let (a, e, l) = gathered_whole f each n in
    omega (
      arith,
      ap (λ (l : List ℕ). entry_mark l k) (gathered_more f n),
      append_marks (gathered f n) (f n) a e (gathered_marks f each low n) (low n) k,
    )

-- every entry is in the join, with its participants and its mark
pub joined_within : (es : List ℕ) → Marks es → (j : ℕ) → j < entry_count es → 0 < entry_tx es j
    → Listing (joined es (entry_count es)) (entry_tx es j) (entry_mask es j) (eqb (entry_mark es j) 1)
joined_within es low j h t =
    joined_lists es (entry_count es) (entry_tx es j) (entry_mask es j) (eqb (entry_mark es j) 1) refl low t
    (j, h, refl, refl, same (entry_mark es j) (low j))
  where
    same : (m : ℕ) → m ≤ 1 → m ≡ mark_of (eqb m 1)
    same zero l = refl
    same (suc zero) l = refl
    same (suc (suc m)) l = absurd (omega arith)
