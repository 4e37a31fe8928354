-- The way back of ValidLaws: what a part, an install and a site must be for the state not to be refused 2.
use Prim.Native.Nat.{ℕ, zero, suc, ◌+◌, ◌-◌, ◌*◌, ◌^◌, ◌≤◌, ◌<◌}
use mathlib.Core.Path.{◌≡◌, refl, sym}
use mathlib.Core.List.{List, [], ◌∷◌}
use mathlib.Core.Bool.{Bool, true, false}
use native.Mathlib.Omega.{arith}
use borrow.Author.Tests.{ltb-true, lt-ltb, le-leb, eq-eqb, eqb-false}
use lib.Bits.{bit_or, or_lt}
use lib.Dec.{ltb, leb, eqb}
use lib.ListN.{length, get_or}
use lib.Pow.{pow_pos, pow-lt}
use Rattle.laws.specs.Choice.{by_test, every_at}
use Rattle.laws.specs.Scan.{all_below, all_below_lem, split_last}
use Rattle.laws.specs.Digits.{digit, ones_below, digit_or}
use Rattle.kinds.specs.Sizes as sizes
use Rattle.kinds.specs.Stage as stage
use Rattle.kinds.specs.Desk as desk
use Rattle.kinds.specs.State.{past_sub, past_entry, no_keys}
use Rattle.kinds.specs.declared.House.{House}
use Rattle.kinds.specs.declared.Keys.{Keys}
use Rattle.kinds.specs.declared.Course.{Course}
use Rattle.kinds.specs.declared.Sub.{Sub}
use Rattle.kinds.specs.declared.Entry.{Entry}
use Rattle.kinds.specs.declared.Site.{Site}
use Rattle.rules.specs.House.{house_ok, is_site, is_tx, home_of, mask_of, is_mask, in_mask, participants, participants_sites}
use Rattle.rules.specs.Desk.{is_desk, write_limit}
use Rattle.rules.specs.Message.{entry_possible}
use Rattle.rules.specs.Value.{values_fit}
use Rattle.rules.specs.Keys.{keys_at, keys_ok}
use Rattle.rules.specs.History.{remembered}
use Rattle.rules.specs.Valid.{course_ok, desk_ok, held_ok, sub_ok, slot_ok, counters_ok, live_ok, history_ok, site_ok, list_at, gathered_ok}
use Rattle.rules.specs.Valid.{lists_ok, handed_ok}
use Rattle.rules.specs.ValidLaws.{ValidKeys, ValidCourse, ValidSub, digit_none}
use Rattle.rules.specs.MaskLaws.{digit_one}
use Rattle.rules.specs.MessageLaws.{site_clear}
use Rattle.rules.proofs.Lists.Masks.{or_small}

-- Masks of sites of the house.
module _ (o : House) where
  mask_under : (m : ℕ) → is_mask o m ≡ true → m < 2 ^ o.sites
  unfolding is_mask
  mask_under m e = ltb-true m (2 ^ o.sites) e

  under_mask : (m : ℕ) → m < 2 ^ o.sites → is_mask o m ≡ true
  unfolding is_mask
  under_mask m h = lt-ltb m (2 ^ o.sites) h

  pub none_mask : is_mask o 0 ≡ true
  none_mask = under_mask 0 (pow_pos o.sites)

  pub site_mask : (a : ℕ) → is_site o a ≡ true → is_mask o (mask_of a) ≡ true
  unfolding mask_of
  site_mask a e = let c = site_clear o a e in under_mask (2 ^ (a - 1)) (pow-lt {i = a - 1} {j = o.sites} (omega (arith, c.low, c.high)))

  pub both_mask : (m n : ℕ) → is_mask o m ≡ true → is_mask o n ≡ true → is_mask o (bit_or m n) ≡ true
  both_mask m n e f = under_mask (bit_or m n) (or_lt o.sites m n (mask_under m e) (mask_under n f))

-- a reply more, of a site that was heard before or not
ones_kept : (m n k : ℕ) → ones_below m k ≤ ones_below (bit_or m n) k
unfolding ones_below
ones_kept m n zero = omega arith
ones_kept m n (suc k) = omega (arith, ones_kept m n k, digit_or m n k)

ones_more : (m n k s : ℕ) → s < k → digit m s ≡ 0 → digit n s ≡ 1 → ones_below m k + 1 ≤ ones_below (bit_or m n) k
unfolding ones_below
ones_more m n zero s h e f = absurd (omega arith)
ones_more m n (suc k) s h e f =
    split_last h
    (λ (z : s ≡ k). let e' = rw z at e in let f' = rw z at f in omega (arith, ones_kept m n k, digit_or m n k))
    (λ (z : s < k). omega (arith, ones_more m n k s z e f, digit_or m n k))

module _ (m a : ℕ) (small : m < 2 ^ sizes.sites) (low : 1 ≤ a) (high : a ≤ sizes.sites) where
  with_small : bit_or m (mask_of a) < 2 ^ sizes.sites
  with_small = or_small m a small high

  pub heard_kept : participants m ≤ participants (bit_or m (mask_of a))
  heard_kept =
      omega (arith, participants_sites m small, participants_sites (bit_or m (mask_of a)) with_small, ones_kept m (mask_of a) sizes.sites)

  pub heard_more : in_mask m a ≡ false → participants m + 1 ≤ participants (bit_or m (mask_of a))
  unfolding mask_of
  heard_more n =
      omega (
        arith,
        participants_sites m small,
        participants_sites (bit_or m (2 ^ (a - 1))) with_small,
        ones_more m (2 ^ (a - 1)) sizes.sites (a - 1) (omega arith) (digit_none m a n) (digit_one (a - 1)),
      )

-- Keys.
keys_at_lem : (o : House) (own : ℕ) (keys : List ℕ) (n : ℕ) → ((j : ℕ) → j < n → home_of o (get_or keys j 0) ≡ own) → keys_at o own keys n ≡ true
unfolding keys_at
keys_at_lem o own keys n f = sym (all_below_lem (λ i. eqb (home_of o (get_or keys i 0)) own) n (λ j h. eq-eqb _ own (f j h)))

pub keys_made : (o : House) (own : ℕ) (b : Keys) → b.read ≤ sizes.reads → b.wrote ≤ sizes.writes
    → ((j : ℕ) → j < b.read → home_of o (get_or b.reads j 0) ≡ own) → ((j : ℕ) → j < b.wrote → home_of o (get_or b.writes j 0) ≡ own)
    → values_fit b.values b.wrote ≡ true → keys_ok o own b ≡ true
unfolding keys_ok
keys_made o own b r w f g h =
    let reads = keys_at_lem o own b.reads b.read f in
    let writes = keys_at_lem o own b.writes b.wrote g in
    rw (le-leb b.read sizes.reads r, le-leb b.wrote sizes.writes w, reads, writes, h)

pub keys_back : (o : House) (own : ℕ) (b : Keys) → ValidKeys o own b → keys_ok o own b ≡ true
keys_back o own b v = keys_made o own b v.few_read v.few_wrote v.read_here v.wrote_here v.values_fit_lem

-- none read or written
pub no_keys_lem : (o : House) (own : ℕ) → keys_ok o own no_keys ≡ true
unfolding no_keys values_fit all_below
no_keys_lem o own =
    keys_made o own no_keys (omega arith) (omega arith) (λ j h. absurd (omega arith)) (λ j h. absurd (omega arith)) refl

-- A course, and a part with it.
pub course_made : (o : House) (own : ℕ) (c : Course) → c.stage ≤ stage.rejected → is_mask o c.mask ≡ true → is_mask o c.heard ≡ true
    → in_mask c.heard own ≡ false → c.listed ≤ sizes.conc_entries * (participants c.heard + 1) → course_ok o own c ≡ true
unfolding course_ok
course_made o own c st m h n l =
    rw (le-leb c.stage stage.rejected st, m, h, n, le-leb c.listed (sizes.conc_entries * (participants c.heard + 1)) l)

pub course_back : (o : House) (own : ℕ) (c : Course) → ValidCourse o own c → course_ok o own c ≡ true
course_back o own c v = course_made o own c v.stage v.mask_house v.heard_house v.others v.listed

-- A desk, and the writes that it allows.
pub desk_made : (d : ℕ) (b : Keys) → is_desk d ≡ true → b.wrote ≤ write_limit d → desk_ok d b ≡ true
unfolding desk_ok
desk_made d b e l = rw (e, le-leb b.wrote (write_limit d) l)

pub desk_clear : (d : ℕ) (b : Keys) → desk_ok d b ≡ true → is_desk d ≡ true
unfolding desk_ok
desk_clear d b e = every_at (is_desk d ∷ leb b.wrote (write_limit d) ∷ []) 0 e

pub house_desk : is_desk desk.house ≡ true
unfolding is_desk
house_desk = refl

-- nothing written
pub new_desk : (d : ℕ) → is_desk d ≡ true → desk_ok d no_keys ≡ true
unfolding no_keys
new_desk d e = desk_made d no_keys e (omega arith)

pub sub_made : (o : House) (own : ℕ) (b : Sub) → course_ok o own b.course ≡ true → keys_ok o own b.keys ≡ true
    → desk_ok b.desk b.keys ≡ true
    → ((b.course.stage ≡ stage.free → ⊥) → is_tx o b.tx ≡ true) → sub_ok o own b ≡ true
unfolding sub_ok held_ok
sub_made o own b c k d t =
    by_test (eqb b.course.stage stage.free) (λ e. rw (c, k, d, e)) (λ e. rw (c, k, d, e, t (eqb-false _ stage.free e)))

pub sub_back : (o : House) (own : ℕ) (b : Sub) → ValidSub o own b → sub_ok o own b ≡ true
sub_back o own b v =
    sub_made o own b (course_back o own b.course v.course) (keys_back o own b.keys v.keys)
    (desk_made b.desk b.keys v.desk v.few) v.tx

-- An install.
pub entry_made : (o : House) (own : ℕ) (used : Bool) (e : Entry) → is_mask o e.mask ≡ true → keys_ok o own e.keys ≡ true
    → (used ≡ true → is_tx o e.tx ≡ true) → slot_ok o own used e ≡ true
unfolding slot_ok
entry_made o own used e m k t = by_test used (λ u. rw (m, k, u, t u)) (λ u. rw (m, k, u))

-- The tables and the site.
pub live_made : (o : House) (own : ℕ) (live : List Sub) → ((i : ℕ) → i < sizes.live → sub_ok o own (get_or live i past_sub) ≡ true)
    → live_ok o own live ≡ true
unfolding live_ok
live_made o own live f = sym (all_below_lem (λ i. sub_ok o own (get_or live i past_sub)) sizes.live f)

pub history_made : (o : House) (own installs : ℕ) (history : List Entry)
    → ((i : ℕ) → i < sizes.history → slot_ok o own (ltb i (remembered installs)) (get_or history i past_entry) ≡ true)
    → history_ok o own installs history ≡ true
unfolding history_ok
history_made o own installs history f =
    sym (all_below_lem (λ i. slot_ok o own (ltb i (remembered installs)) (get_or history i past_entry)) sizes.history f)

pub record SiteTests (s : Site) : Type 0 where
  pub house : house_ok s.house ≡ true
  pub counters : counters_ok s.house s.counters ≡ true
  pub live : live_ok s.house s.counters.own s.live ≡ true
  pub history : history_ok s.house s.counters.own s.counters.installs s.history ≡ true

pub site_tests : (s : Site) → site_ok s ≡ true → SiteTests s
unfolding site_ok
site_tests s t =
    let o = s.house in
    let own = s.counters.own in
    let l = house_ok o ∷ counters_ok o s.counters ∷ live_ok o own s.live ∷ history_ok o own s.counters.installs s.history ∷ [] in
    record { house = every_at l 0 t; counters = every_at l 1 t; live = every_at l 2 t; history = every_at l 3 t }

pub site_made : (s : Site) → SiteTests s → site_ok s ≡ true
unfolding site_ok
site_made s x = rw (x.house, x.counters, x.live, x.history)

pub lists_made : (o : House) (live : List Sub) (lists : List ℕ)
    → ((i : ℕ) → i < sizes.live → gathered_ok o (get_or live i past_sub) (list_at lists i) ≡ true) → lists_ok o live lists ≡ true
unfolding lists_ok
lists_made o live lists f = sym (all_below_lem (λ i. gathered_ok o (get_or live i past_sub) (list_at lists i)) sizes.live f)

-- the entries that a held part has gathered
pub gathered_made : (o : House) (b : Sub) (es : List ℕ)
    → ((b.course.stage ≡ stage.free → ⊥) → (i : ℕ) → i < b.course.listed → entry_possible o es i ≡ true) → gathered_ok o b es ≡ true
unfolding gathered_ok
gathered_made o b es f =
    by_test (eqb b.course.stage stage.free)
    (λ e. rw e)
    (λ e. rw e (sym (all_below_lem (entry_possible o es) b.course.listed (f (eqb-false _ stage.free e)))))

pub handed_made : (s : Site) (lists : List ℕ) → length lists ≡ sizes.lists → site_ok s ≡ true → lists_ok s.house s.live lists ≡ true
    → handed_ok s lists ≡ true
unfolding handed_ok
handed_made s lists n v l = rw (eq-eqb (length lists) sizes.lists n, v, l)

pub handed_lists : (s : Site) (lists : List ℕ) → handed_ok s lists ≡ true → lists_ok s.house s.live lists ≡ true
unfolding handed_ok
handed_lists s lists t = every_at (eqb (length lists) sizes.lists ∷ site_ok s ∷ lists_ok s.house s.live lists ∷ []) 2 t
