-- The calls of a site that are no messages leave it possible, and write messages that pass the check.
use Prim.Native.Nat.{ℕ, ◌+◌, ◌≤◌, ◌<◌}
use mathlib.Core.Path.{◌≡◌, refl, sym}
use mathlib.Core.Bool.{true, false}
use mathlib.Core.List.{List, []}
use native.Mathlib.Omega.{arith}
use borrow.Author.Tests.{le-leb}
use lib.ListN.{length, get_or, set}
use lib.Seq.{get_or-set_same, get_or-set_other}
use Rattle.laws.specs.Choice.{by_test, by_same}
use Rattle.laws.specs.Scan.{all_below_lem}
use Rattle.kinds.specs.Sizes as sizes
use Rattle.kinds.specs.State.{fresh, sub_at, with_keys, with_serial}
use Rattle.kinds.specs.declared.Value.{Value}
use Rattle.kinds.specs.declared.House.{House}
use Rattle.kinds.specs.declared.Keys.{Keys}
use Rattle.kinds.specs.declared.Counters.{Counters}
use Rattle.kinds.specs.declared.Site.{Site}
use Rattle.rules.specs.House.{is_site, is_tx, is_mask, mask_of, home_of}
use Rattle.rules.specs.Desk.{is_desk, write_limit, limit_most}
use Rattle.rules.specs.Value.{fits, values_fit}
use Rattle.rules.specs.ValueLaws.{each_fits}
use Rattle.rules.specs.Keys.{keys_ok, wrote_key, read_key, with_read, with_write}
use Rattle.rules.specs.KeysLaws.{wrote_read, wrote_again, wrote_first}
use Rattle.rules.specs.Live.{place_of, free_place, stage_at}
use Rattle.rules.specs.History.{is_forgotten}
use Rattle.rules.specs.Valid.{site_ok, list_at, counters_ok}
use Rattle.rules.specs.ValidLaws.{ValidKeys, ValidSite, counters_own, counters_serial}
use Rattle.rules.specs.Effect.{turn_at}
use Rattle.rules.specs.Course.{new_sub, with_sub_of}
use Rattle.rules.specs.Begin.{next_tx, begin_code, begun, begin_of, begin_clear}
use Rattle.rules.specs.Access.{access_code, read_code, read_version, read_at, read_of, late_code, written, write_at, write_of}
use Rattle.rules.specs.CallLaws.{access_clear, read_clear, late_clear}
use Rattle.rules.specs.MergerWords.{above}
use Rattle.rules.proofs.Protocol.Frames.{tx_coordinator, tx_serial}
use Rattle.rules.proofs.Refine.Refines.{Sized}
use Rattle.rules.proofs.Refine.KeysTold.{place_low}
use Rattle.rules.proofs.Refine.RefineLive.{place_held}
use Rattle.rules.proofs.Refine.RefineMail.{none}
use Rattle.rules.proofs.Possible.ValidMade.{site_mask, keys_made, keys_back, no_keys_lem, desk_made, new_desk, site_tests}
use Rattle.rules.proofs.Possible.CourseFits.{new_fits}
use Rattle.rules.proofs.Possible.StepsFit.{Fits, TurnFits, quietly_fits}
use Rattle.rules.proofs.Possible.SitesFit.{Sound, EffectFits, site_ok_lem, site_valid, part_at, old_fits, held_there, changed_fits}
use Rattle.rules.proofs.Possible.SitesFit.{unless_fits}

-- Begin: one serial more, and a transaction of this site.
serial_fits : (o : House) (c : Counters) (n : ℕ) → counters_ok o c ≡ true → n ≤ sizes.last_serial → counters_ok o (with_serial c n) ≡ true
unfolding counters_ok
serial_fits o c n e h =
    let old = le-leb c.serial sizes.last_serial (omega (arith, counters_serial o c e)) in
    rw (le-leb n sizes.last_serial h) (rw old at e)

next_possible : (o : House) (c : Counters) → is_site o c.own ≡ true → c.serial < sizes.last_serial → is_tx o (next_tx c) ≡ true
unfolding is_tx next_tx
next_possible o c e h =
    let n = c.serial + 1 in
    rw (tx_coordinator c.own n (omega arith), tx_serial c.own n (omega arith), e, le-leb 1 n (omega arith))

-- a part that begins: no reply yet, and no keys
pub new_part : (s : Site) (es : List ℕ) (c : Counters) (t d mask : ℕ) → ValidSite s → c.own ≡ s.counters.own
    → c.installs ≡ s.counters.installs → counters_ok s.house c ≡ true → is_desk d ≡ true → is_mask s.house mask ≡ true
    → is_tx s.house t ≡ true
    → Fits s es c (new_sub t d mask s.counters.installs)
unfolding new_sub
new_part s es c t d mask v own installs counters k m tx =
    record {
      own = own;
      installs = installs;
      counters = counters;
      course = new_fits s.house s.counters.own v.house t d mask s.counters.installs m;
      keys = no_keys_lem s.house s.counters.own;
      desk = new_desk d k;
      tx = λ n. tx;
      entries = λ i h. absurd (omega arith);
    }

-- Keys of this site: one more among the first n.
key_more : (o : House) (own k n : ℕ) (keys : List ℕ) → n < length keys → home_of o k ≡ own
    → ((j : ℕ) → j < n → home_of o (get_or keys j 0) ≡ own) → (j : ℕ) → j < n + 1 → home_of o (get_or (set keys n k) j 0) ≡ own
key_more o own k n keys low e old j h =
    by_same j n
    (λ z. rw (z, get_or-set_same keys n k 0 low) e)
    (λ z. rw (get_or-set_other keys n j k 0 z) (old j (above j n (omega arith) z)))

-- values with one set among them, or behind them
value_over : (values : List Value) (n i : ℕ) (v : Value) → i < length values → fits v ≡ true → values_fit values n ≡ true
    → values_fit (set values i v) n ≡ true
unfolding values_fit
value_over values n i v low e old =
    sym (all_below_lem (λ j. fits (get_or (set values i v) j fresh)) n (λ j h.
    by_same j i
    (λ z. rw (z, get_or-set_same values i v fresh low) e)
    (λ z. rw (get_or-set_other values i j v fresh z) (each_fits values n j old h))))

value_behind : (values : List Value) (n : ℕ) (v : Value) → n < length values → fits v ≡ true → values_fit values n ≡ true
    → values_fit (set values n v) (n + 1) ≡ true
unfolding values_fit
value_behind values n v low e old =
    sym (all_below_lem (λ j. fits (get_or (set values n v) j fresh)) (n + 1) (λ j h.
    by_same j n
    (λ z. rw (z, get_or-set_same values n v fresh low) e)
    (λ z. rw (get_or-set_other values n j v fresh z) (each_fits values n j old (above j n (omega arith) z)))))

module _ (o : House) (own k : ℕ) (b : Keys) (v : ValidKeys o own b) (z : Sized b) (here : home_of o k ≡ own) where
  read_keys : (read_key b k ≡ false → b.read < sizes.reads) → keys_ok o own (with_read b k) ≡ true
  unfolding with_read
  read_keys room =
      by_test (read_key b k)
      (λ t. rw t (keys_back o own b v))
      (λ t. rw t
      (let more = key_more o own k b.read b.reads (omega (arith, room t, z.reads_size)) here v.read_here in
      keys_made o own _ (omega (arith, room t)) v.few_wrote more v.wrote_here v.values_fit_lem))

  write_keys : (w : Value) → fits w ≡ true → (wrote_key b k ≡ false → b.wrote < sizes.writes) → keys_ok o own (with_write b k w) ≡ true
  unfolding with_write
  write_keys w short room =
      by_test (wrote_key b k)
      (λ t. rw t (keys_made o own _ v.few_read v.few_wrote v.read_here v.wrote_here
      (value_over b.values b.wrote _ w (omega (arith, place_low b k t, z.values_size, v.few_wrote)) short v.values_fit_lem)))
      (λ t. rw t
      (let more = key_more o own k b.wrote b.writes (omega (arith, room t, z.writes_size)) here v.wrote_here in
      keys_made o own _ v.few_read (omega (arith, room t)) v.read_here more
      (value_behind b.values b.wrote w (omega (arith, room t, z.values_size)) short v.values_fit_lem)))

module _ {s : Site} {lists : List ℕ} (y : Sound s lists) where
  abbrev o : House
  o = s.house

  abbrev own : ℕ
  own = s.counters.own

  pub begin_fits : (d : ℕ) → EffectFits s (begin_of s d) lists
  unfolding begin_of begun
  begin_fits d =
      let place = free_place s.live in
      let n = s.counters.serial + 1 in
      let counters = (site_tests s (site_ok_lem y)).counters in
      let here = counters_own o s.counters counters in
      unless_fits y (begin_code (site_ok s) (is_desk d) s.counters place) [] _
      (λ z.
      let c = begin_clear (site_ok s) (is_desk d) s.counters place z in
      changed_fits y place c.free _ []
      (record {
        turn = new_part s (list_at lists place) (with_serial s.counters n) (next_tx s.counters) d (mask_of own) (site_valid y) refl refl
            (serial_fits o s.counters n counters (omega (arith, c.unspent))) c.desk
            (site_mask o own here) (next_possible o s.counters here c.unspent);
        words = none;
      }))

  -- The part of t with other keys.
  module _ (t : ℕ) (low : place_of s.live t < sizes.live) where
    abbrev place : ℕ
    place = place_of s.live t

    keys_sized : Sized (sub_at s place).keys
    keys_sized = let (q, f, e) = place_held y.live t low in rw q (y.live.sized t f)

    keys_turn : (b : Keys) → keys_ok o own b ≡ true → b.wrote ≤ write_limit (sub_at s place).desk
        → TurnFits s (list_at lists place) (with_sub_of (turn_at s place) (with_keys (sub_at s place) b))
    unfolding turn_at
    keys_turn b e limit =
        let x = old_fits y place low (held_there y t low) in
        record {
          own = x.own;
          installs = x.installs;
          counters = x.counters;
          course = x.course;
          keys = e;
          desk = desk_made (sub_at s place).desk b (part_at y place low).desk limit;
          tx = x.tx;
          entries = x.entries;
        }

    version_fits : (base : List ℕ) (k : ℕ) → home_of o k ≡ own
        → (read_key (sub_at s place).keys k ≡ false → (sub_at s place).keys.read < sizes.reads)
        → EffectFits s (read_version s base place k) lists
    unfolding read_version
    version_fits base k here room =
        let b = (sub_at s place).keys in
        let more = read_keys o own k b (part_at y place low).keys keys_sized here room in
        changed_fits y place low _ []
        (record { turn = keys_turn (with_read b k) more (rw (wrote_read b k) (part_at y place low).few); words = none })

    written_fits : (k : ℕ) (v : Value) → home_of o k ≡ own → fits v ≡ true
        → (wrote_key (sub_at s place).keys k ≡ false → (sub_at s place).keys.wrote < write_limit (sub_at s place).desk)
        → EffectFits s (written s place k v) lists
    unfolding written
    written_fits k v here short room =
        let b = (sub_at s place).keys in
        let d = (sub_at s place).desk in
        let more = write_keys o own k b (part_at y place low).keys keys_sized here v short (λ f. omega (arith, room f, limit_most d)) in
        let limit : (with_write b k v).wrote ≤ write_limit d =
        by_test (wrote_key b k)
        (λ e. rw (wrote_again b k v e) (part_at y place low).few)
        (λ e. rw (wrote_first b k v e) (omega (arith, room e))) in
        changed_fits y place low _ [] (quietly_fits s (list_at lists place) _ (keys_turn (with_write b k v) more limit))

  pub read_fits : (base : List ℕ) (t k : ℕ) → EffectFits s (read_of s base t k) lists
  unfolding read_of read_at
  read_fits base t k =
      let place = place_of s.live t in
      let b = sub_at s place in
      unless_fits y (access_code (site_ok s) (length base) o own k place (stage_at s.live place)) [] _
      (λ z.
      let c = access_clear _ _ _ _ _ _ _ z in
      by_test (wrote_key b.keys k)
      (λ e. rw e (record { handed = y.handed; words = none }))
      (λ e. rw e
      (unless_fits y (read_code (is_forgotten s.counters.installs b.snapshot) (read_key b.keys k) b.keys.read) [] _
      (λ r. version_fits t c.held base k c.key.here (read_clear _ _ _ r).room))))

  pub write_fits : (t k : ℕ) (v : Value) → EffectFits s (write_of s t k v) lists
  unfolding write_of write_at
  write_fits t k v =
      let place = place_of s.live t in
      unless_fits y (access_code (site_ok s) sizes.base o own k place (stage_at s.live place)) [] _
      (λ z.
      let c = access_clear _ _ _ _ _ _ _ z in
      unless_fits y (late_code s place k v) [] _
      (λ r. let l = late_clear s place k v r in
      written_fits t c.held k v c.key.here l.short (λ f. (l.new f).room)))
