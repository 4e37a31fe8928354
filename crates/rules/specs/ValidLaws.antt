-- S19, Q10.6 and Q12.7: what a state that is not refused 2 satisfies, by name.
use Rattle.std.specs.Prelude.{ℕ, zero, suc, ◌+◌, ◌-◌, ◌*◌, ◌^◌, ◌≤◌, ◌<◌, ◌≡◌, List, [], ◌∷◌, Bool, true, false, not, length, get_or, ltb, leb, eqb}
use Rattle.std.proofs.Math.Nat.{pow-le-pow_right}
use Rattle.std.proofs.Common.{arith, ltb-true, ltb-false, lt-ltb, leb-true, eqb-true, ne_eqb, lit<}
use Rattle.std.proofs.lemmas.Bool.{eqb-false, not-true}
use Rattle.laws.specs.Choice.{pick, every, every_at, by_test}
use Rattle.laws.specs.Scan.{all_below_at, split_last}
use Rattle.laws.specs.Digits.{digit, ones_below, digit_le, ones_most}
use Rattle.kinds.specs.Sizes as sizes
use Rattle.kinds.specs.Stage as stage
use Rattle.kinds.specs.declared.House.{House}
use Rattle.kinds.specs.declared.Keys.{Keys}
use Rattle.kinds.specs.declared.Course.{Course}
use Rattle.kinds.specs.declared.Sub.{Sub}
use Rattle.kinds.specs.declared.Entry.{Entry}
use Rattle.kinds.specs.declared.Counters.{Counters}
use Rattle.kinds.specs.declared.Site.{Site}
use Rattle.kinds.specs.State.{past_sub, past_entry, sub_at, entry_at}
use Rattle.rules.specs.HouseLaws.{house_passed, range_is, key_low}
use Rattle.rules.specs.House.{house_ok, is_site, is_tx, home_of, in_range, is_mask, in_mask, participants, participants_sites}
use Rattle.rules.specs.Desk.{is_desk, write_limit}
use Rattle.rules.specs.Value.{values_fit}
use Rattle.rules.specs.Keys.{keys_at, keys_ok}
use Rattle.rules.specs.History.{forgotten, remembered, slot_of, recall}
use Rattle.rules.specs.HistoryLaws.{slot_low, slot_used}
use Rattle.rules.specs.Message.{entry_possible}
use Rattle.rules.specs.Valid.{course_ok, desk_ok, held_ok, sub_ok, slot_ok, counters_ok, live_ok, history_ok, site_ok, list_at, gathered_ok}
use Rattle.rules.specs.Valid.{lists_ok, handed_ok}

-- The house and the site in it.
pub record ValidHouse (o : House) (own : ℕ) : Type 0 where
  pub some_sites : 1 ≤ o.sites
  pub few_sites : o.sites ≤ 8
  pub own_low : 1 ≤ own
  pub own_high : own ≤ o.sites
  pub range : (k : ℕ) → eqb (home_of o k) own ≡ in_range o own k

-- A part's keys: at most 16 read and 16 written, each of this site, and so below 2,048; the values written fit.
pub record ValidKeys (o : House) (own : ℕ) (b : Keys) : Type 0 where
  pub few_read : b.read ≤ 16
  pub few_wrote : b.wrote ≤ 16
  pub read_here : (j : ℕ) → j < b.read → home_of o (get_or b.reads j 0) ≡ own
  pub wrote_here : (j : ℕ) → j < b.wrote → home_of o (get_or b.writes j 0) ≡ own
  pub read_low : (j : ℕ) → j < b.read → get_or b.reads j 0 < 2048
  pub wrote_low : (j : ℕ) → j < b.wrote → get_or b.writes j 0 < 2048
  pub values_fit_lem : values_fit b.values b.wrote ≡ true

-- A part's course: masks of sites of the house, replies of others, and at most 47 entries from each list gathered.
pub record ValidCourse (o : House) (own : ℕ) (c : Course) : Type 0 where
  pub stage : c.stage ≤ 5
  pub mask_house : is_mask o c.mask ≡ true
  pub heard_house : is_mask o c.heard ≡ true
  pub mask_low : c.mask < 256
  pub heard_low : c.heard < 256
  pub others : in_mask c.heard own ≡ false
  pub heard_few : participants c.heard ≤ 7
  pub listed : c.listed ≤ 47 * (participants c.heard + 1)

pub record ValidSub (o : House) (own : ℕ) (b : Sub) : Type 0 where
  pub course : ValidCourse o own b.course
  pub keys : ValidKeys o own b.keys
  pub desk : is_desk b.desk ≡ true
  pub few : b.keys.wrote ≤ write_limit b.desk
  pub tx : (b.course.stage ≡ stage.free → ⊥) → is_tx o b.tx ≡ true

pub record ValidEntry (o : House) (own : ℕ) (used : Bool) (e : Entry) : Type 0 where
  pub mask_house : is_mask o e.mask ≡ true
  pub mask_low : e.mask < 256
  pub keys : ValidKeys o own e.keys
  pub tx : used ≡ true → is_tx o e.tx ≡ true

pub record ValidSite (s : Site) : Type 0 where
  pub house : ValidHouse s.house s.counters.own
  pub serial : s.counters.serial < 4294967296
  pub part : (i : ℕ) → i < 16 → ValidSub s.house s.counters.own (sub_at s i)
  pub entry : (i : ℕ) → i < 32 → ValidEntry s.house s.counters.own (ltb i (remembered s.counters.installs)) (entry_at s i)

-- a mask of sites of the house is below 256
pub mask_low : (o : House) (m : ℕ) → o.sites ≤ 8 → is_mask o m ≡ true → m < 256
unfolding is_mask
mask_low o m h t = omega (arith, ltb-true m (2 ^ o.sites) t, pow-le-pow_right (lit< {m = 0} {n = 2} tt) {i = o.sites} {j = 8} h)

-- a mask has at most eight sites; one that lacks a site seven, and one that lacks two six
pub digit_none : (mask s : ℕ) → in_mask mask s ≡ false → digit mask (s - 1) ≡ 0
unfolding in_mask
digit_none mask s t =
    let l = digit_le mask (s - 1) in
    by_test (eqb (digit mask (s - 1)) 0)
    (λ e. eqb-true _ _ e)
    (λ e. absurd (eqb-false _ _ t (one (digit mask (s - 1)) l (eqb-false _ _ e))))
  where
    one : (d : ℕ) → d ≤ 1 → (d ≡ 0 → ⊥) → d ≡ 1
    one d h f = by_test (ltb 0 d) (λ e. omega (arith, ltb-true 0 d e)) (λ e. absurd (f (omega (arith, ltb-false 0 d e))))

ones_lack : (mask k s : ℕ) → s < k → digit mask s ≡ 0 → ones_below mask k + 1 ≤ k
unfolding ones_below
ones_lack mask zero s h e = absurd (omega arith)
ones_lack mask (suc k) s h e =
    split_last h
    (λ (z : s ≡ k). let e' = rw z at e in omega (arith, ones_most mask k))
    (λ (z : s < k). omega (arith, ones_lack mask k s z e, digit_le mask k))

ones_lack_two : (mask k s r : ℕ) → s < r → r < k → digit mask s ≡ 0 → digit mask r ≡ 0 → ones_below mask k + 2 ≤ k
unfolding ones_below
ones_lack_two mask zero s r l h e f = absurd (omega arith)
ones_lack_two mask (suc k) s r l h e f =
    split_last h
    (λ (z : r ≡ k). let f' = rw z at f in omega (arith, ones_lack mask k s (omega arith) e))
    (λ (z : r < k). omega (arith, ones_lack_two mask k s r l z e f, digit_le mask k))

pub participants_few : (mask : ℕ) → mask < 256 → participants mask ≤ 8
participants_few mask h = omega (arith, participants_sites mask h, ones_most mask 8)

pub participants_lack : (mask s : ℕ) → mask < 256 → 1 ≤ s → s ≤ 8 → in_mask mask s ≡ false → participants mask ≤ 7
participants_lack mask s h l k t =
    omega (arith, participants_sites mask h, ones_lack mask 8 (s - 1) (omega arith) (digit_none mask s t))

pub participants_lack_two : (mask s r : ℕ) → mask < 256 → 1 ≤ s → s < r → r ≤ 8 → in_mask mask s ≡ false → in_mask mask r ≡ false
    → participants mask ≤ 6
participants_lack_two mask s r h l q k t u =
    omega (
      arith,
      participants_sites mask h,
      ones_lack_two mask 8 (s - 1) (r - 1) (omega arith) (omega arith) (digit_none mask s t) (digit_none mask r u),
    )

pub valid_house : (o : House) (own : ℕ) → house_ok o ≡ true → is_site o own ≡ true → ValidHouse o own
unfolding is_site
valid_house o own t u =
    let (some, few, table) = house_passed o t in
    let low = leb-true 1 own (every_at (leb 1 own ∷ leb own o.sites ∷ []) 0 u) in
    let high = leb-true own o.sites (every_at (leb 1 own ∷ leb own o.sites ∷ []) 1 u) in
    record {
      some_sites = some;
      few_sites = few;
      own_low = low;
      own_high = high;
      range = λ k. range_is o some few table own k low high;
    }

pub keys_here : (o : House) (own : ℕ) (keys : List ℕ) (n j : ℕ) → keys_at o own keys n ≡ true → j < n → home_of o (get_or keys j 0) ≡ own
unfolding keys_at
keys_here o own keys n j t h = eqb-true _ _ (all_below_at (λ i. eqb (home_of o (get_or keys i 0)) own) n j t h)

pub valid_keys : (o : House) (own : ℕ) (b : Keys) → own ≤ 8 → keys_ok o own b ≡ true → ValidKeys o own b
unfolding keys_ok
valid_keys o own b h t =
    let l = leb b.read sizes.reads ∷ leb b.wrote sizes.writes ∷ keys_at o own b.reads b.read
    ∷ keys_at o own b.writes b.wrote ∷ values_fit b.values b.wrote ∷ [] in
    record {
      few_read = leb-true b.read 16 (every_at l 0 t);
      few_wrote = leb-true b.wrote 16 (every_at l 1 t);
      read_here = λ j q. keys_here o own b.reads b.read j (every_at l 2 t) q;
      wrote_here = λ j q. keys_here o own b.writes b.wrote j (every_at l 3 t) q;
      read_low = λ j q. key_low o own _ h (keys_here o own b.reads b.read j (every_at l 2 t) q);
      wrote_low = λ j q. key_low o own _ h (keys_here o own b.writes b.wrote j (every_at l 3 t) q);
      values_fit_lem = every_at l 4 t;
    }

pub valid_course : (o : House) (own : ℕ) (c : Course) → ValidHouse o own → course_ok o own c ≡ true → ValidCourse o own c
unfolding course_ok
valid_course o own c h t =
    let l =
    leb c.stage stage.rejected
    ∷ is_mask o c.mask
    ∷ is_mask o c.heard
    ∷ not (in_mask c.heard own)
    ∷ leb c.listed (sizes.conc_entries * (participants c.heard + 1))
    ∷ [] in
    record {
      stage = leb-true c.stage 5 (every_at l 0 t);
      mask_house = every_at l 1 t;
      heard_house = every_at l 2 t;
      mask_low = mask_low o c.mask h.few_sites (every_at l 1 t);
      heard_low = mask_low o c.heard h.few_sites (every_at l 2 t);
      others = not-true (in_mask c.heard own) (every_at l 3 t);
      heard_few = participants_lack c.heard own (mask_low o c.heard h.few_sites (every_at l 2 t)) h.own_low (omega arith)
          (not-true (in_mask c.heard own) (every_at l 3 t));
      listed = leb-true c.listed (47 * (participants c.heard + 1)) (every_at l 4 t);
    }

pub valid_sub : (o : House) (own : ℕ) (b : Sub) → ValidHouse o own → sub_ok o own b ≡ true → ValidSub o own b
unfolding sub_ok desk_ok held_ok
valid_sub o own b h t =
    let desk = is_desk b.desk ∷ leb b.keys.wrote (write_limit b.desk) ∷ [] in
    let held = every (is_tx o b.tx ∷ []) in
    let l = course_ok o own b.course ∷ keys_ok o own b.keys ∷ every desk ∷ pick (eqb b.course.stage stage.free) true held ∷ [] in
    record {
      course = valid_course o own b.course h (every_at l 0 t);
      keys = valid_keys o own b.keys (omega arith) (every_at l 1 t);
      desk = every_at desk 0 (every_at l 2 t);
      few = leb-true b.keys.wrote (write_limit b.desk) (every_at desk 1 (every_at l 2 t));
      tx = λ n. every_at (is_tx o b.tx ∷ []) 0 (rw (ne_eqb b.course.stage stage.free n) at (every_at l 3 t));
    }

pub valid_entry : (o : House) (own : ℕ) (used : Bool) (e : Entry) → ValidHouse o own → slot_ok o own used e ≡ true → ValidEntry o own used e
unfolding slot_ok
valid_entry o own used e h t =
    let l = is_mask o e.mask ∷ keys_ok o own e.keys ∷ pick used (is_tx o e.tx) true ∷ [] in
    record {
      mask_house = every_at l 0 t;
      mask_low = mask_low o e.mask h.few_sites (every_at l 0 t);
      keys = valid_keys o own e.keys (omega arith) (every_at l 1 t);
      tx = λ u. rw u at (every_at l 2 t);
    }

pub counters_own : (o : House) (c : Counters) → counters_ok o c ≡ true → is_site o c.own ≡ true
unfolding counters_ok
counters_own o c t = every_at (is_site o c.own ∷ leb c.serial sizes.last_serial ∷ []) 0 t

pub counters_serial : (o : House) (c : Counters) → counters_ok o c ≡ true → c.serial < 4294967296
unfolding counters_ok
counters_serial o c t =
    omega (arith, leb-true c.serial sizes.last_serial (every_at (is_site o c.own ∷ leb c.serial sizes.last_serial ∷ []) 1 t))

live_at : (o : House) (own : ℕ) (live : List Sub) (i : ℕ) → live_ok o own live ≡ true → i < 16 → sub_ok o own (get_or live i past_sub) ≡ true
unfolding live_ok
live_at o own live i t h = all_below_at (λ i. sub_ok o own (get_or live i past_sub)) 16 i t h

history_at : (o : House) (own installs : ℕ) (history : List Entry) (i : ℕ) → history_ok o own installs history ≡ true → i < 32
    → slot_ok o own (ltb i (remembered installs)) (get_or history i past_entry) ≡ true
unfolding history_ok
history_at o own installs history i t h =
    all_below_at (λ i. slot_ok o own (ltb i (remembered installs)) (get_or history i past_entry)) 32 i t h

pub valid_site : (s : Site) → site_ok s ≡ true → ValidSite s
unfolding site_ok
valid_site s t =
    let o = s.house in
    let own = s.counters.own in
    let n = s.counters.installs in
    let l = house_ok o ∷ counters_ok o s.counters ∷ live_ok o own s.live ∷ history_ok o own n s.history ∷ [] in
    let h = valid_house o own (every_at l 0 t) (counters_own o s.counters (every_at l 1 t)) in
    record {
      house = h;
      serial = counters_serial o s.counters (every_at l 1 t);
      part = λ i q. valid_sub o own (sub_at s i) h (live_at o own s.live i (every_at l 2 t) q);
      entry = λ i q. valid_entry o own (ltb i (remembered n)) (entry_at s i) h (history_at o own n s.history i (every_at l 3 t) q);
    }

pub valid_own : (s : Site) → site_ok s ≡ true → (1 ≤ s.counters.own) × (s.counters.own ≤ sizes.sites)
valid_own s t = let h = (valid_site s t).house in (h.own_low, omega (arith, h.own_high, h.few_sites))

-- What the scans of the tables ask for.
pub live_wrote : (s : Site) → site_ok s ≡ true → (i : ℕ) → i < 16 → (sub_at s i).keys.wrote ≤ 16
live_wrote s t i h = ((valid_site s t).part i h).keys.few_wrote

-- a part wrote no more than its desk allows
pub live_few : (s : Site) → site_ok s ≡ true → (i : ℕ) → i < 16 → (sub_at s i).keys.wrote ≤ write_limit (sub_at s i).desk
live_few s t i h = ((valid_site s t).part i h).few

-- each remembered install lies in a slot of the history
pub valid_recall : (s : Site) → site_ok s ≡ true → (i : ℕ) → (let n = forgotten s.counters.installs + i in
    ValidEntry s.house s.counters.own (ltb (slot_of n) (remembered s.counters.installs))
    (recall s.history s.counters.installs i))
valid_recall s t i =
    let n = forgotten s.counters.installs + i in
    (valid_site s t).entry (slot_of n) (slot_low n)

-- the i-th remembered install is a possible transaction's
pub recall_tx : (s : Site) → site_ok s ≡ true → (i : ℕ) → i < remembered s.counters.installs
    → is_tx s.house (recall s.history s.counters.installs i).tx ≡ true
recall_tx s t i h = (valid_recall s t i).tx (lt-ltb _ _ (slot_used s.counters.installs i h))

-- A site with its gathered lists.
pub handed_length : (s : Site) (lists : List ℕ) → handed_ok s lists ≡ true → length lists ≡ sizes.lists
unfolding handed_ok
handed_length s lists t = eqb-true _ _ (every_at (eqb (length lists) sizes.lists ∷ site_ok s ∷ lists_ok s.house s.live lists ∷ []) 0 t)

pub handed_site : (s : Site) (lists : List ℕ) → handed_ok s lists ≡ true → site_ok s ≡ true
unfolding handed_ok
handed_site s lists t = every_at (eqb (length lists) sizes.lists ∷ site_ok s ∷ lists_ok s.house s.live lists ∷ []) 1 t

-- an entry that a held part has gathered
pub handed_entry : (s : Site) (lists : List ℕ) → handed_ok s lists ≡ true → (place i : ℕ) → place < sizes.live
    → ((sub_at s place).course.stage ≡ stage.free → ⊥) → i < (sub_at s place).course.listed
    → entry_possible s.house (list_at lists place) i ≡ true
unfolding handed_ok lists_ok gathered_ok
handed_entry s lists t place i h n l =
    let o = s.house in
    let all = every_at (eqb (length lists) sizes.lists ∷ site_ok s ∷ lists_ok o s.live lists ∷ []) 2 t in
    let here = all_below_at (λ i. gathered_ok o (get_or s.live i past_sub) (list_at lists i)) sizes.live place all h in
    all_below_at (entry_possible o (list_at lists place)) (sub_at s place).course.listed i (rw (ne_eqb _ stage.free n) at here) l
