-- What emit writes: a merged record that passes its check and reads back, its keys ascending since sites hold ascending keys.
use Rattle.std.specs.Prelude.{◌*◌, ◌+◌, ◌-◌, ◌/◌, ◌<◌, ◌^◌, ◌≤◌, suc, zero, ℕ, eqb, leb, ltb, get_or, length, take, Bool, true, List, [], ◌++◌, ◌∷◌, ◌≡◌, refl}
use Rattle.std.proofs.Common.{eq-eqb, eqb-true, le-leb, leb-true, lt-ltb, ltb-false, ltb-true, ne_eqb, lit<, length-append, length-set, length-take, get_or-append-add, get_or-set_other, get_or-set_same, get_or-take, ◌∙◌, ap, sym, arith}
use Rattle.std.proofs.Math.ListN.{get_or-append}
use Rattle.kinds.specs.declared.Answer.TheVariants.{Emitted}
use Rattle.kinds.specs.declared.House.{House}
use Rattle.kinds.specs.declared.Merger.{Merger}
use Rattle.kinds.specs.declared.RecordHead.{RecordHead}
use Rattle.laws.specs.Choice.{by_test, every, every_at}
use Rattle.laws.specs.Scan.{all_below_lem, all_below_at, all_below, fold_below, split_last}
use Rattle.rules.specs.Value.{value_at, fits}
use Rattle.rules.specs.ValueLaws.{value_left, value_right}
use Rattle.rules.specs.HouseLaws.{key_low, home_rises}
use Rattle.rules.specs.House.{coordinator_of, in_mask, is_mask, is_site, is_tx, serial_of, home_of, whole_house}
use Rattle.rules.specs.Merger.{Merging, due_code, due_head, emit_code, emit_due, emit_of, head_at, head_in, heads_of, joined_writes, least_site}
use Rattle.rules.specs.Merger.{merged_head, merged_words, no_head, part_writes, place_words, pop_merger, pop_queues, queued_part, writes_in}
use Rattle.rules.specs.MergerClear.{MergerClear, QueuedClear, emit_clear, part_long}
use Rattle.rules.specs.MergerLaws.{IsDue, LeastOf, Queued, WholeAt, due_clear, due_queued, least_is, queued_fits, whole_parts}
use Rattle.rules.proofs.MergerLaws.{is_due_lem}
use Rattle.rules.specs.MergerWords.{HeadFits, HeadsFit, head_fits, joined_writes_lem, part_writes_lem}
use Rattle.rules.specs.Record.{GoodMerged, key_ascends, merged_head_ok, merged_ok, merged_write_ok, pair_ok, part_head_ok, part_head_tests}
use Rattle.rules.specs.Record.{part_ok, part_write_ok, record_head, record_writes, write_key, write_value}
use Rattle.rules.specs.RecordLaws.{head_back, merged_written_passes, pair_clear, part_passed_good, writes_back}
use Rattle.kinds.specs.Sizes as sizes
use Rattle.kinds.specs.Word as word
use Rattle.std.proofs.Math.Nat.{pow-le-pow_right}

-- The heads of the order are those of the queued parts.
length_heads : (queues : List ℕ) (n : ℕ) → length (heads_of queues n) ≡ sizes.sites
unfolding heads_of fold_below
length_heads queues zero = refl
length_heads queues (suc n) = length-set (heads_of queues n) n (head_at queues n) ∙ length_heads queues n

pub heads_at : (queues : List ℕ) (n i : ℕ) → n ≤ sizes.sites → i < n → head_in (heads_of queues n) i ≡ head_at queues i
unfolding heads_of fold_below
heads_at queues zero i h l = absurd (omega arith)
heads_at queues (suc n) i h l =
    let d = heads_of queues n in
    split_last l
    (λ (z : i ≡ n). rw z (get_or-set_same d n (head_at queues n) no_head (omega (arith, length_heads queues n))))
    (λ (y : i < n). get_or-set_other d n i (head_at queues n) no_head (λ z. omega arith) ∙ heads_at queues n i (omega arith) y)

pub head_part : (o : House) (queues : List ℕ) (i : ℕ) → QueuedClear o queues i 0 → head_at queues i ≡ record_head (queued_part queues i 0)
unfolding head_at record_head queued_part
head_part o queues i c =
    let w = place_words queues i 0 in
    let n = get_or w word.length 0 in
    let l = part_long o (take n w) c.part in
    let b : sizes.record_header ≤ n = omega (arith, length-take n w) in
    sym
    (rw (
      get_or-take n w word.kind 0 (omega arith),
      get_or-take n w word.site 0 (omega arith),
      get_or-take n w word.number 0 (omega arith),
      get_or-take n w word.coordinator 0 (omega arith),
      get_or-take n w word.record_tx 0 (omega arith),
      get_or-take n w word.record_mask 0 (omega arith),
      get_or-take n w word.write_count 0 (omega arith),
    ))

-- Keys that ascend, of sites above low and up to high, with values that fit.
pub record KeysAscend (o : House) (ws : List ℕ) (n low high : ℕ) : Type 0 where
  pub above : (k : ℕ) → suc k < n → write_key ws k < write_key ws (suc k)
  pub from : (k : ℕ) → k < n → low < home_of o (write_key ws k)
  pub to : (k : ℕ) → k < n → home_of o (write_key ws k) ≤ high
  pub short : (k : ℕ) → k < n → fits (write_value ws k) ≡ true

ascends : (ws : List ℕ) (k : ℕ) → key_ascends ws (suc k) ≡ true → write_key ws k < write_key ws (suc k)
unfolding key_ascends
ascends ws k e =
    let z : suc k - 1 ≡ k = omega arith in
    ltb-true (write_key ws k) (write_key ws (suc k)) (rw (ne_eqb (suc k) 0 (λ q. omega arith), z) at e)

-- a key of a lower site is below
key_below : (o : House) (k m mid : ℕ) → home_of o k ≤ mid → mid < home_of o m → k < m
key_below o k m mid a b =
    by_test (ltb k m)
    (λ t. ltb-true k m t)
    (λ t. absurd (omega (arith, home_rises o m k (ltb-false k m t))))

part_ascending : (o : House) (m : List ℕ) (s : ℕ) → part_ok o m ≡ true → (record_head m).site ≡ s + 1
    → KeysAscend o (record_writes m) (record_head m).count s (s + 1)
unfolding part_write_ok
part_ascending o m s p e =
    let ws = record_writes m in
    let n = (record_head m).count in
    let a = (part_passed_good o m p).writes in
    let l : ℕ → List Bool = λ k. key_ascends ws k ∷ eqb (home_of o (write_key ws k)) (record_head m).site ∷ fits (write_value ws k) ∷ [] in
    let good : (k : ℕ) → k < n → every (l k) ≡ true = λ k h. all_below_at (part_write_ok o (record_head m).site ws) n k a h in
    let home : (k : ℕ) → k < n → home_of o (write_key ws k) ≡ s + 1 =
    λ k h. eqb-true (home_of o (write_key ws k)) (record_head m).site (every_at (l k) 1 (good k h)) ∙ e in
    record {
      above = λ k h. ascends ws k (every_at (l (suc k)) 0 (good (suc k) h));
      from = λ k h. omega (arith, home k h);
      to = λ k h. omega (arith, home k h);
      short = λ k h. every_at (l k) 2 (good k h);
    }

-- one list behind another
module _ (o : House) (ws p : List ℕ) (a : ℕ) (e : length ws ≡ sizes.write * a) where
  key_left : (k : ℕ) → k < a → write_key (ws ++ p) k ≡ write_key ws k
  key_left k h = get_or-append ws p 0 (sizes.write * k + word.write_key) (omega arith)

  key_right : (j : ℕ) → write_key (ws ++ p) (a + j) ≡ write_key p j
  key_right j =
      let z : sizes.write * (a + j) + word.write_key ≡ length ws + (sizes.write * j + word.write_key) = omega arith in
      ap (λ (i : ℕ). get_or (ws ++ p) i 0) z ∙ get_or-append-add ws p (sizes.write * j + word.write_key) 0

  key_cases : (P : ℕ → Type 0) (b k : ℕ) → k < a + b → (k < a → P (write_key ws k)) → ((j : ℕ) → j < b → k ≡ a + j → P (write_key p j))
      → P (write_key (ws ++ p) k)
  key_cases P b k h f g =
      by_test (ltb k a)
      (λ t. rw (key_left k (ltb-true k a t)) (f (ltb-true k a t)))
      (λ t. let l = ltb-false k a t in
      let z : k ≡ a + (k - a) = omega arith in
      let y : write_key (ws ++ p) k ≡ write_key p (k - a) = ap (write_key (ws ++ p)) z ∙ key_right (k - a) in
      rw y (g (k - a) (omega arith) z))

  value_before : (k : ℕ) → k < a → write_value (ws ++ p) k ≡ write_value ws k
  value_before k h = value_left ws p (sizes.write * k + word.write_value) (omega arith)

  value_behind : (j : ℕ) → write_value (ws ++ p) (a + j) ≡ write_value p j
  value_behind j =
      let z : sizes.write * (a + j) + word.write_value ≡ length ws + (sizes.write * j + word.write_value) = omega arith in
      ap (value_at (ws ++ p)) z ∙ value_right ws p (sizes.write * j + word.write_value)

  append_short : (b k : ℕ) → k < a + b → ((k : ℕ) → k < a → fits (write_value ws k) ≡ true)
      → ((k : ℕ) → k < b → fits (write_value p k) ≡ true) → fits (write_value (ws ++ p) k) ≡ true
  append_short b k h f g =
      by_test (ltb k a)
      (λ t. let l = ltb-true k a t in rw (value_before k l) (f k l))
      (λ t. let l = ltb-false k a t in
      let z : k ≡ a + (k - a) = omega arith in
      let y : write_value (ws ++ p) k ≡ write_value p (k - a) = ap (write_value (ws ++ p)) z ∙ value_behind (k - a) in
      rw y (g (k - a) (omega arith)))

  append_ascending : (b low mid high : ℕ) → low ≤ mid → mid ≤ high → KeysAscend o ws a low mid → KeysAscend o p b mid high
      → KeysAscend o (ws ++ p) (a + b) low high
  append_ascending b low mid high x y s t =
      record {
        above = λ k h. by_test (ltb (suc k) a)
            (λ q. let l = ltb-true (suc k) a q in rw (key_left k (omega arith), key_left (suc k) l) (s.above k l))
            (λ q. let l = ltb-false (suc k) a q in
            by_test (ltb k a)
            (λ u. let v = ltb-true k a u in
            let z : suc k ≡ a + 0 = omega arith in
            let w : write_key (ws ++ p) (suc k) ≡ write_key p 0 = ap (write_key (ws ++ p)) z ∙ key_right 0 in
            rw (w, key_left k v) (key_below o _ _ mid (s.to k v) (t.from 0 (omega arith))))
            (λ u. let v = ltb-false k a u in
            let z : k ≡ a + (k - a) = omega arith in
            let r : suc k ≡ a + suc (k - a) = omega arith in
            let w : write_key (ws ++ p) k ≡ write_key p (k - a) = ap (write_key (ws ++ p)) z ∙ key_right (k - a) in
            let v : write_key (ws ++ p) (suc k) ≡ write_key p (suc (k - a)) = ap (write_key (ws ++ p)) r ∙ key_right (suc (k - a)) in
            rw (w, v) (t.above (k - a) (omega arith))));
        from = λ k h. key_cases (λ i. low < home_of o i) b k h (λ l. s.from k l) (λ j l q. omega (arith, t.from j l));
        to = λ k h. key_cases (λ i. home_of o i ≤ high) b k h (λ l. omega (arith, s.to k l)) (λ j l q. t.to j l);
        short = λ k h. append_short b k h s.short t.short;
      }

no_writes : (o : House) (low high : ℕ) → KeysAscend o [] 0 low high
no_writes o low high =
    record {
      above = λ k h. absurd (omega arith);
      from = λ k h. absurd (omega arith);
      to = λ k h. absurd (omega arith);
      short = λ k h. absurd (omega arith);
    }

pub halved : (n k : ℕ) → n ≡ sizes.write * k → n / sizes.write ≡ k
halved n k e = omega arith

-- The parts at the heads of a mask's sites.
pub PartsGood : House → List ℕ → ℕ → ℕ → Type 0
PartsGood o queues mask n = (i : ℕ) → i < n → in_mask mask (i + 1) ≡ true → QueuedClear o queues i 0

writes_ascending : (o : House) (queues : List ℕ) (mask n i : ℕ) → PartsGood o queues mask n → i < n
    → KeysAscend o (part_writes queues mask i) (writes_in (part_writes queues mask i)) i (i + 1)
unfolding part_writes PartsGood
writes_ascending o queues mask n i f h =
    by_test (in_mask mask (i + 1))
    (λ t. let c = f i h t in
    let m = queued_part queues i 0 in
    rw (t, halved (length (record_writes m)) (record_head m).count (part_passed_good o m c.part).size)
    (part_ascending o m i c.part c.site))
    (λ t. rw t (no_writes o i (i + 1)))

good_fits : (o : House) (queues : List ℕ) (mask n : ℕ) → PartsGood o queues mask n → HeadsFit queues mask n
unfolding HeadsFit HeadFits PartsGood
good_fits o queues mask n f i h t = queued_fits o queues i (f i h t)

joined_ascending : (o : House) (queues : List ℕ) (mask n : ℕ) → PartsGood o queues mask n
    → KeysAscend o (joined_writes queues mask n) (writes_in (joined_writes queues mask n)) 0 n
unfolding joined_writes fold_below PartsGood
joined_ascending o queues mask zero f = no_writes o 0 0
joined_ascending o queues mask (suc n) f =
    let b : PartsGood o queues mask n = λ i h. f i (omega arith) in
    let ws = joined_writes queues mask n in
    let p = part_writes queues mask n in
    let w = joined_writes_lem queues mask n (good_fits o queues mask n b) in
    let v = part_writes_lem queues mask n (head_fits queues mask (suc n) n (good_fits o queues mask (suc n) f) (omega arith)) in
    let c : writes_in (ws ++ p) ≡ writes_in ws + writes_in p =
    halved (length (ws ++ p)) (writes_in ws + writes_in p) (length-append ws p ∙ omega arith) in
    let z : n + 1 ≡ suc n = omega arith in
    rw (c, ← z)
    (append_ascending o ws p (writes_in ws) (omega arith) (writes_in p) 0 n (n + 1) (omega arith) (omega arith)
    (joined_ascending o queues mask n b)
    (writes_ascending o queues mask (suc n) n f (omega arith)))

-- The checks of the merged record.
key_rises : (o : House) (ws : List ℕ) (k n high : ℕ) → KeysAscend o ws n 0 high → k < n → key_ascends ws k ≡ true
unfolding key_ascends
key_rises o ws zero n high a h = refl
key_rises o ws (suc k) n high a h =
    let z : suc k - 1 ≡ k = omega arith in
    rw (ne_eqb (suc k) 0 (λ q. omega arith), z, lt-ltb (write_key ws k) (write_key ws (suc k)) (a.above k h))

merged_writes_lem : (o : House) (ws : List ℕ) (n high : ℕ) → high ≤ sizes.sites → KeysAscend o ws n 0 high
    → all_below (merged_write_ok ws) n ≡ true
unfolding merged_write_ok
merged_writes_lem o ws n high b a =
    sym (all_below_lem (merged_write_ok ws) n (λ k h.
    let low = key_low o _ (write_key ws k) (omega (arith, a.to k h)) refl in
    rw (key_rises o ws k n high a h, lt-ltb (write_key ws k) sizes.keys low, a.short k h)))

wider_pair : (o : House) (r : RecordHead) → o.sites ≤ sizes.sites → pair_ok o r ≡ true → pair_ok whole_house r ≡ true
unfolding pair_ok is_tx is_site is_mask whole_house
wider_pair o r h e =
    let p = pair_clear o r e in
    let c = coordinator_of r.tx in
    let l = every (leb 1 c ∷ leb c o.sites ∷ []) ∷ leb 1 (serial_of r.tx) ∷ [] in
    let s = leb 1 c ∷ leb c o.sites ∷ [] in
    let t = every_at l 0 p.tx in
    let m = ltb-true r.mask (2 ^ o.sites) p.mask in
    let w = pow-le-pow_right (lit< {m = 0} {n = 2} tt) {i = o.sites} {j = sizes.sites} h in
    rw (
      every_at s 0 t,
      le-leb c sizes.sites (omega (arith, leb-true c o.sites (every_at s 1 t))),
      every_at l 1 p.tx,
      eq-eqb r.coordinator c p.coordinator,
      lt-ltb r.mask (2 ^ sizes.sites) (omega arith),
    )

merged_good : (o : House) (queues : List ℕ) (n : ℕ) (r : RecordHead) → o.sites ≤ sizes.sites → n ≤ sizes.sites → pair_ok o r ≡ true
    → PartsGood o queues r.mask n
    → GoodMerged (merged_head r (writes_in (joined_writes queues r.mask n))) (joined_writes queues r.mask n)
unfolding merged_head_ok pair_ok
merged_good o queues n r h l p f =
    let ws = joined_writes queues r.mask n in
    let w = joined_writes_lem queues r.mask n (good_fits o queues r.mask n f) in
    let a = joined_ascending o queues r.mask n f in
    record {
      size = omega arith;
      head = rw (wider_pair o r h p, le-leb (writes_in ws) sizes.merged_writes (omega arith));
      writes = merged_writes_lem o ws (writes_in ws) n l a;
    }

part_head_lem : (o : House) (m : List ℕ) → part_ok o m ≡ true → every (part_head_tests o (record_head m)) ≡ true
unfolding part_head_ok
part_head_lem o m e = (part_passed_good o m e).head

-- the least head is that of its site's queued part
due_part : (g : Merger) (queues : List ℕ) → MergerClear g queues → least_site g queues < sizes.sites
    → QueuedClear g.house queues (least_site g queues) 0 × (due_head g queues ≡ record_head (queued_part queues (least_site g queues) 0))
due_part g queues c b =
    let k = least_site g queues in
    let l = least_is g (heads_of queues g.house.sites) g.house.sites c.few b in
    let q = c.parts k 0 l.below l.queued in
    (q, heads_at queues g.house.sites k c.few l.below ∙ head_part g.house queues k q)

-- what is written for a due and whole record passes
due_passes : (g : Merger) (queues : List ℕ) → MergerClear g queues → due_code g (heads_of queues g.house.sites) (least_site g queues) ≡ 0
    → merged_ok (merged_words queues g.house.sites (due_head g queues)) ≡ true
unfolding merged_words PartsGood Queued
due_passes g queues c e =
    let n = g.house.sites in
    let k = least_site g queues in
    let r = due_head g queues in
    let d = due_part g queues c (is_due_lem g (heads_of queues n) k (due_clear g (heads_of queues n) k e).0).some in
    let m = queued_part queues k 0 in
    let p = every_at (part_head_tests g.house (record_head m)) 2 (part_head_lem g.house m d.0.part) in
    merged_written_passes (merged_head r (writes_in (joined_writes queues r.mask n))) (joined_writes queues r.mask n)
    (merged_good g.house queues n r c.few c.few (rw d.1 p)
    (λ i h t. c.parts i 0 h (due_queued g (heads_of queues n) k e i h t)))

-- An emit that is not refused: the least head is due and whole; what is written passes, and reads back as its pair with the writes of
-- its parts; the parts are gone from the queues.
pub record Emits (g : Merger) (queues : List ℕ) (e : Merging) : Type 0 where
  pub possible : MergerClear g queues
  pub least : LeastOf g (heads_of queues g.house.sites) g.house.sites (least_site g queues)
  pub due : IsDue g (heads_of queues g.house.sites) (least_site g queues)
  pub whole : (i : ℕ) → i < g.house.sites → WholeAt g (heads_of queues g.house.sites) (due_head g queues) i
  pub part : due_head g queues ≡ record_head (queued_part queues (least_site g queues) 0)
  pub answer : e.answer ≡ Emitted (due_head g queues).number (due_head g queues).coordinator (due_head g queues).tx
  pub passes : merged_ok e.words ≡ true
  pub head : record_head e.words
      ≡ merged_head (due_head g queues) (writes_in (joined_writes queues (due_head g queues).mask g.house.sites))
  pub writes : record_writes e.words ≡ joined_writes queues (due_head g queues).mask g.house.sites
  pub merger : e.merger ≡ pop_merger g (due_head g queues).mask g.house.sites
  pub queues_left : e.queues ≡ pop_queues queues (due_head g queues).mask g.house.sites

pub emits : (g : Merger) (room : ℕ) (queues : List ℕ) (a b t : ℕ) → (emit_of g room queues).answer ≡ Emitted a b t
    → Emits g queues (emit_of g room queues)
unfolding emit_of emit_due merged_words
emits g room queues a b t e =
    let n = g.house.sites in
    let hs = heads_of queues n in
    let k = least_site g queues in
    let r = due_head g queues in
    let ws = joined_writes queues r.mask n in
    by_test (eqb (emit_code g queues room) 0)
    (λ x. by_test (eqb (due_code g hs k) 0)
    (λ y. let c = (emit_clear g queues room (eqb-true _ _ x)).1 in
    let z = eqb-true (due_code g hs k) 0 y in
    let w = due_clear g hs k z in
    let d = is_due_lem g hs k w.0 in
    rw (x, y)
    (record {
      possible = c;
      least = least_is g hs n c.few d.some;
      due = d;
      whole = whole_parts g hs r w.1;
      part = (due_part g queues c d.some).1;
      answer = refl;
      passes = due_passes g queues c z;
      head = head_back (merged_head r (writes_in ws)) ws;
      writes = writes_back (merged_head r (writes_in ws)) ws;
      merger = refl;
      queues_left = refl;
    }))
    (λ y. absurd (let z = rw (x, y) at e in let v : ◌≡◌ {A = ℕ} 0 1 = cc in omega arith)))
    (λ x. absurd (let z = rw x at e in let v : ◌≡◌ {A = ℕ} 0 1 = cc in omega arith))
