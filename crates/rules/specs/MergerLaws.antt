-- G2, G3 and cause 16: the least head, what is due and what is whole, in the words of the requirements.
use Rattle.std.specs.Prelude.{◌+◌, ◌-◌, ◌<◌, ◌≤◌, suc, zero, ℕ, eqb, ltb, replicate, set, false, not, true, List, [], ◌∷◌, ◌⊎◌, ◌≡◌, refl}
use borrow.Author.Tests.{eq-eqb, eqb-true, le-ltb, lt-ltb, ltb-false, ltb-true, not-true}
use Rattle.std.proofs.Common.{get_or-set_other, inl, inr, ⊎_elim, ◌∙◌, sym, arith}
use Rattle.kinds.specs.declared.House.{House}
use Rattle.kinds.specs.declared.Merger.{Merger}
use Rattle.kinds.specs.declared.RecordHead.{RecordHead}
use Rattle.laws.specs.Choice.{by_test, every, every_at}
use Rattle.laws.specs.Pair.{precedes_trans, precedes_self}
use Rattle.laws.specs.Scan.{all_below_lem, all_below_at, fold_more, fold_below, split_last}
use Rattle.rules.specs.House.{in_mask}
use Rattle.rules.specs.Merger.{better_head, due_code, has_head, has_part, head_at, head_before, head_in, heads_of, is_due, is_whole}
use Rattle.rules.specs.Merger.{is_whole_at, least_head, merge_state, merge_state_code, merger_out_of, no_head, past_source, pop_merger}
use Rattle.rules.specs.Merger.{pop_merger_at, pop_source, queued_part, source_at}
use Rattle.rules.specs.MergerClear.{MergerClear, QueuedClear, part_long}
use Rattle.rules.specs.MergerWords.{HeadFits, HeadsFit, PartFits}
use Rattle.rules.specs.Record.{record_head}
use Rattle.rules.specs.RecordLaws.{part_clear, part_passed_good}
use Rattle.kinds.specs.Sizes as sizes

-- each site of a mask has a part queued
unfoldable pub Queued : Merger → ℕ → Type 0
Queued g mask = (i : ℕ) → i < g.house.sites → in_mask mask (i + 1) ≡ true → 0 < (source_at g i).queued

-- One site more: of the heads, of the least, of the parts taken.
pub heads_more : (queues : List ℕ) (i : ℕ) → heads_of queues (i + 1) ≡ set (heads_of queues i) i (head_at queues i)
unfolding heads_of
heads_more queues i = fold_more (λ i l. set l i (head_at queues i)) i (replicate sizes.sites no_head)

pub least_head_more : (g : Merger) (heads : List RecordHead) (i : ℕ)
    → least_head g heads (i + 1) ≡ better_head g heads i (least_head g heads i)
unfolding least_head
least_head_more g heads i = fold_more (better_head g heads) i sizes.sites

pub pop_more : (g : Merger) (mask i : ℕ) → pop_merger g mask (i + 1) ≡ pop_merger_at mask i (pop_merger g mask i)
unfolding pop_merger
pop_more g mask i = fold_more (pop_merger_at mask) i g

pop_other : (g : Merger) (mask i k : ℕ) → i < k → source_at (pop_merger_at mask i g) k ≡ source_at g k
unfolding pop_merger_at
pop_other g mask i k h =
    by_test (in_mask mask (i + 1))
    (λ e. rw e (get_or-set_other g.sources i k (pop_source (source_at g i)) past_source (λ q. omega arith)))
    (λ e. rw e refl)

-- the sites from n on are left as they were
pub pop_later : (g : Merger) (mask n k : ℕ) → n ≤ k → source_at (pop_merger g mask n) k ≡ source_at g k
unfolding pop_merger fold_below
pop_later g mask zero k h = refl
pop_later g mask (suc n) k h = pop_other (pop_merger g mask n) mask n k h ∙ pop_later g mask n k (omega arith)

-- The least head: no head precedes it by (number, coordinator), and it is one.
pub record LeastOf (g : Merger) (heads : List RecordHead) (n k : ℕ) : Type 0 where
  pub below : k < n
  pub queued : 0 < (source_at g k).queued
  pub least : (i : ℕ) → i < n → 0 < (source_at g i).queued → head_before (head_in heads i) (head_in heads k) ≡ false

abbrev NoHead : Merger → ℕ → Type 0
NoHead g n = (i : ℕ) → i < n → (source_at g i).queued ≡ 0

abbrev Scanned : Merger → List RecordHead → ℕ → ℕ → Type 0
Scanned g heads n k = ((k ≡ sizes.sites) × NoHead g n) ⊎ LeastOf g heads n k

module _ (g : Merger) (heads : List RecordHead) (n k : ℕ) (b : n < sizes.sites) where
  scan_empty : (source_at g n).queued ≡ 0 → Scanned g heads n k → Scanned g heads (suc n) k
  scan_empty e (inl (z, f)) = inl (z, λ i h. split_last h (λ (q : i ≡ n). rw q e) (λ (l : i < n). f i l))
  scan_empty e (inr l) =
      inr (record {
        below = omega (arith, l.below);
        queued = l.queued;
        least = λ i h q. split_last h (λ (z : i ≡ n). absurd (let y : (source_at g i).queued ≡ 0 = rw z e in omega arith))
            (λ (y : i < n). l.least i y q);
      })

  scan_first : 0 < (source_at g n).queued → NoHead g n → LeastOf g heads (suc n) n
  scan_first q f =
      record {
        below = omega arith;
        queued = q;
        least = λ i h p. split_last h
            (λ (z : i ≡ n). rw z (precedes_self (head_in heads n).number (head_in heads n).coordinator))
            (λ (y : i < n). absurd (omega (arith, f i y)));
      }

  scan_better : 0 < (source_at g n).queued → head_before (head_in heads n) (head_in heads k) ≡ true → LeastOf g heads n k
      → LeastOf g heads (suc n) n
  scan_better q t l =
      record {
        below = omega arith;
        queued = q;
        least = λ i h p. split_last h
            (λ (z : i ≡ n). rw z (precedes_self (head_in heads n).number (head_in heads n).coordinator))
            (λ (y : i < n). by_test (head_before (head_in heads i) (head_in heads n))
            (λ u. absurd (let v = l.least i y p in
            let w = precedes_trans (head_in heads i).number (head_in heads i).coordinator (head_in heads n).number
            (head_in heads n).coordinator (head_in heads k).number (head_in heads k).coordinator u t in
            let x : ◌≡◌ {A = ℕ} 0 1 = cc in omega arith))
            (λ u. u));
      }

  scan_worse : head_before (head_in heads n) (head_in heads k) ≡ false → LeastOf g heads n k → LeastOf g heads (suc n) k
  scan_worse t l =
      record {
        below = omega (arith, l.below);
        queued = l.queued;
        least = λ i h p. split_last h (λ (z : i ≡ n). rw z t) (λ (y : i < n). l.least i y p);
      }

  scan_step : Scanned g heads n k → Scanned g heads (suc n) (better_head g heads n k)
  unfolding better_head has_head
  scan_step s =
      by_test (ltb 0 (source_at g n).queued)
      (λ h. let q = ltb-true 0 (source_at g n).queued h in
      rw h
      (⊎_elim
      (λ (z : (k ≡ sizes.sites) × NoHead g n). rw (le-ltb k sizes.sites (omega (arith, z.0))) (inr (scan_first q z.1)))
      (λ (l : LeastOf g heads n k). rw (lt-ltb k sizes.sites (omega (arith, l.below)))
      (by_test (head_before (head_in heads n) (head_in heads k))
      (λ t. rw t (inr (scan_better q t l)))
      (λ t. rw t (inr (scan_worse t l)))))
      s))
      (λ h. rw h (scan_empty (omega (arith, ltb-false 0 (source_at g n).queued h)) s))

scanned : (g : Merger) (heads : List RecordHead) (n : ℕ) → n ≤ sizes.sites → Scanned g heads n (least_head g heads n)
unfolding least_head fold_below
scanned g heads zero h = inl (refl, λ i l. absurd (omega arith))
scanned g heads (suc n) h = scan_step g heads n (least_head g heads n) (omega arith) (scanned g heads n (omega arith))

pub least_is : (g : Merger) (heads : List RecordHead) (n : ℕ) → n ≤ sizes.sites → least_head g heads n < sizes.sites
    → LeastOf g heads n (least_head g heads n)
least_is g heads n h l =
    ⊎_elim
    (λ (z : (least_head g heads n ≡ sizes.sites) × NoHead g n). absurd (omega (arith, z.0)))
    (λ (y : LeastOf g heads n (least_head g heads n)). y)
    (scanned g heads n h)

pub least_some : (g : Merger) (heads : List RecordHead) (n i : ℕ) → n ≤ sizes.sites → i < n → 0 < (source_at g i).queued
    → least_head g heads n < sizes.sites
least_some g heads n i h b q =
    ⊎_elim
    (λ (z : (least_head g heads n ≡ sizes.sites) × NoHead g n). absurd (omega (arith, z.1 i b)))
    (λ (y : LeastOf g heads n (least_head g heads n)). omega (arith, y.below))
    (scanned g heads n h)

-- What a head of the pair is.
pub record HasPart (g : Merger) (heads : List RecordHead) (r : RecordHead) (i : ℕ) : Type 0 where
  pub queued : 0 < (source_at g i).queued
  pub number : (head_in heads i).number ≡ r.number
  pub coordinator : (head_in heads i).coordinator ≡ r.coordinator

pub has_part_lem : (g : Merger) (heads : List RecordHead) (r : RecordHead) (i : ℕ) → has_part g heads r i ≡ true → HasPart g heads r i
unfolding has_part has_head
has_part_lem g heads r i e =
    let l = ltb 0 (source_at g i).queued ∷ eqb (head_in heads i).number r.number
    ∷ eqb (head_in heads i).coordinator r.coordinator ∷ [] in
    record {
      queued = ltb-true _ _ (every_at l 0 e);
      number = eqb-true _ _ (every_at l 1 e);
      coordinator = eqb-true _ _ (every_at l 2 e);
    }

pub part_had : (g : Merger) (heads : List RecordHead) (r : RecordHead) (i : ℕ) → HasPart g heads r i → has_part g heads r i ≡ true
unfolding has_part has_head
part_had g heads r i p = rw (lt-ltb _ _ p.queued, eq-eqb _ _ p.number, eq-eqb _ _ p.coordinator)

-- Whole: the heads of the pair are exactly at the sites of the mask, and agree in words 5 and 6.
pub record WholeAt (g : Merger) (heads : List RecordHead) (r : RecordHead) (i : ℕ) : Type 0 where
  pub there : in_mask r.mask (i + 1) ≡ has_part g heads r i
  pub tx : has_part g heads r i ≡ true → (head_in heads i).tx ≡ r.tx
  pub mask : has_part g heads r i ≡ true → (head_in heads i).mask ≡ r.mask

whole_at : (g : Merger) (heads : List RecordHead) (r : RecordHead) (i : ℕ) → is_whole_at g heads r i ≡ true → WholeAt g heads r i
unfolding is_whole_at
whole_at g heads r i e =
    by_test (in_mask r.mask (i + 1))
    (λ m. let l = has_part g heads r i ∷ eqb (head_in heads i).tx r.tx ∷ eqb (head_in heads i).mask r.mask ∷ [] in
    let t : every l ≡ true = rw m at e in
    record {
      there = m ∙ sym (every_at l 0 t);
      tx = λ _. eqb-true _ _ (every_at l 1 t);
      mask = λ _. eqb-true _ _ (every_at l 2 t);
    })
    (λ m. let t : not (has_part g heads r i) ≡ true = rw m at e in
    let f : has_part g heads r i ≡ false = not-true (has_part g heads r i) t in
    record {
      there = m ∙ sym f;
      tx = λ h. absurd (let z : ◌≡◌ {A = ℕ} 0 1 = cc in omega arith);
      mask = λ h. absurd (let z : ◌≡◌ {A = ℕ} 0 1 = cc in omega arith);
    })

at_whole : (g : Merger) (heads : List RecordHead) (r : RecordHead) (i : ℕ) → WholeAt g heads r i → is_whole_at g heads r i ≡ true
unfolding is_whole_at
at_whole g heads r i w =
    by_test (has_part g heads r i)
    (λ h. rw (w.there, h, eq-eqb _ _ (w.tx h), eq-eqb _ _ (w.mask h)))
    (λ h. rw (w.there, h))

pub whole_parts : (g : Merger) (heads : List RecordHead) (r : RecordHead) → is_whole g heads r ≡ true → (i : ℕ) → i < g.house.sites
    → WholeAt g heads r i
unfolding is_whole
whole_parts g heads r e i h = whole_at g heads r i (all_below_at (is_whole_at g heads r) g.house.sites i e h)

pub parts_whole : (g : Merger) (heads : List RecordHead) (r : RecordHead) → ((i : ℕ) → i < g.house.sites → WholeAt g heads r i)
    → is_whole g heads r ≡ true
unfolding is_whole
parts_whole g heads r f = sym (all_below_lem (is_whole_at g heads r) g.house.sites (λ i h. at_whole g heads r i (f i h)))

-- Due: every site has a queued part, or a state number at or above that of the least head.
abbrev pub DueAt : Merger → ℕ → ℕ → Type 0
DueAt g number i = (0 < (source_at g i).queued) ⊎ (number ≤ (source_at g i).state)

pub record IsDue (g : Merger) (heads : List RecordHead) (least : ℕ) : Type 0 where
  pub some : least < sizes.sites
  pub every : (i : ℕ) → i < g.house.sites → DueAt g (head_in heads least).number i

-- What is not refused is due and whole.
pub due_clear : (g : Merger) (heads : List RecordHead) (least : ℕ) → due_code g heads least ≡ 0
    → (is_due g heads least ≡ true) × (is_whole g heads (head_in heads least) ≡ true)
unfolding due_code
due_clear g heads least e =
    by_test (is_due g heads least)
    (λ d. by_test (is_whole g heads (head_in heads least))
    (λ w. (d, w))
    (λ w. absurd (let z = rw (d, w) at e in omega arith)))
    (λ d. absurd (let z = rw d at e in omega arith))

pub due_queued : (g : Merger) (heads : List RecordHead) (least : ℕ) → due_code g heads least ≡ 0 → Queued g (head_in heads least).mask
unfolding Queued
due_queued g heads least e i h m =
    let r = head_in heads least in
    (has_part_lem g heads r i (sym (whole_parts g heads r (due_clear g heads least e).1 i h).there ∙ m)).queued

-- What emit joins: the parts of a due and whole record stand in their places.
pub queued_fits : (o : House) (queues : List ℕ) (i : ℕ) → QueuedClear o queues i 0 → PartFits queues i
queued_fits o queues i c =
    let m = queued_part queues i 0 in
    let p = part_passed_good o m c.part in
    record {
      short = c.short;
      long = part_long o m c.part;
      few = (part_clear o (record_head m) p.head).few;
      size = p.size;
    }

pub due_fits : (g : Merger) (queues : List ℕ) (heads : List RecordHead) (least : ℕ) → MergerClear g queues → due_code g heads least ≡ 0
    → HeadsFit queues (head_in heads least).mask g.house.sites
unfolding HeadsFit HeadFits Queued
due_fits g queues heads least c e i h m = queued_fits g.house queues i (c.parts i 0 h (due_queued g heads least e i h m))

-- A state moves no part.
pub state_queues : (g : Merger) (queues m : List ℕ) → queues ≡ (merge_state g queues m).queues
unfolding merge_state
state_queues g queues m =
    by_test (eqb (merge_state_code (source_at g ((record_head m).site - 1)) (record_head m)) 0) (λ e. rw e refl) (λ e. rw e refl)

pub state_out : (g : Merger) (queues m : List ℕ) → merger_out_of (merge_state g [] m) ≡ merger_out_of (merge_state g queues m)
unfolding merge_state merger_out_of
state_out g queues m =
    by_test (eqb (merge_state_code (source_at g ((record_head m).site - 1)) (record_head m)) 0) (λ e. rw e refl) (λ e. rw e refl)
