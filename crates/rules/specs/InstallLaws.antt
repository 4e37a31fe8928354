-- C51 to C59: what is installed is decided and stands first; the records that install and report write pass their checks.
use Rattle.std.specs.Prelude.{ℕ, ◌+◌, ◌-◌, ◌≤◌, ◌<◌, ◌≡◌, refl, List, [], ◌∷◌, Bool, true, length, get_or, ltb, leb, eqb}
use Rattle.std.proofs.Common.{ap, sym, ◌∙◌, arith}
use borrow.Author.Tests.{ltb-true, eqb-true, eqb-false, lt-ltb, le-leb, eq-eqb, ne_eqb}
use Rattle.laws.specs.Choice.{every_at, by_test}
use Rattle.laws.specs.Scan.{first_le, all_below_lem}
use Rattle.kinds.specs.Sizes as sizes
use Rattle.kinds.specs.Stage as stage
use Rattle.kinds.specs.declared.House.{House}
use Rattle.kinds.specs.declared.Keys.{Keys}
use Rattle.kinds.specs.declared.Sub.{Sub}
use Rattle.kinds.specs.declared.Site.{Site}
use Rattle.kinds.specs.State.{sub_at}
use Rattle.kinds.specs.declared.Answer.TheVariants.{Reported}
use Rattle.rules.specs.House.{house_ok, is_site, is_tx, in_mask, home_of, coordinator_of}
use Rattle.rules.specs.Value.{fits, values_fit}
use Rattle.rules.specs.ValueLaws.{each_fits}
use Rattle.rules.specs.Keys.{key_place, wrote_key, wrote_value, sorted_key, sorted_count, sorted_words}
use Rattle.rules.specs.KeysLaws.{by_order, words_length, word_key, word_value, sorted_low, sorted_ascends, sorted_wrote, wrote_among}
use Rattle.rules.specs.Record.{part_head_ok, part_write_ok, key_ascends, pair_ok, state_head_ok, part_ok, state_ok, write_key, write_value}
use Rattle.rules.specs.RecordLaws.{part_written_passes, state_written_passes}
use Rattle.rules.specs.Live.{part_at}
use Rattle.rules.specs.Queue.{is_installable, least_queued, state_number}
use Rattle.rules.specs.Valid.{counters_ok, live_ok, history_ok, site_ok}
use Rattle.rules.specs.ValidLaws.{valid_site, counters_own}
use Rattle.rules.specs.Install.{part_head, part_words, installed_at, install_of, state_words, install_code, report_code, report_of}
use Rattle.rules.specs.Effect.{refused}

-- What is due is a place of the table, and decided.
pub due_low : (live : List Sub) (place : ℕ) → is_installable live place ≡ true → place < sizes.live
unfolding is_installable
due_low live place t =
    ltb-true place sizes.live (every_at (ltb place sizes.live ∷ eqb (part_at live place).course.stage stage.decided ∷ []) 0 t)

pub due_decided : (live : List Sub) (place : ℕ) → is_installable live place ≡ true → (part_at live place).course.stage ≡ stage.decided
unfolding is_installable
due_decided live place t = eqb-true _ _ (every_at (ltb place sizes.live ∷ eqb (part_at live place).course.stage stage.decided ∷ []) 1 t)

-- the own number is a site of the house
own_here : (s : Site) → site_ok s ≡ true → is_site s.house s.counters.own ≡ true
unfolding site_ok
own_here s t =
    counters_own s.house s.counters
    (every_at (house_ok s.house ∷ counters_ok s.house s.counters ∷ live_ok s.house s.counters.own s.live
    ∷ history_ok s.house s.counters.own s.counters.installs s.history ∷ []) 1 t)

-- The part record passes its check.

pub sorted_few : (b : Keys) → sorted_count b ≤ b.wrote
unfolding sorted_count
sorted_few b = first_le (λ j. leb sizes.keys (sorted_key b j)) b.wrote

-- the value of a key written fits
pub wrote_fits : (b : Keys) (k : ℕ) → values_fit b.values b.wrote ≡ true → wrote_key b k ≡ true → fits (wrote_value b k) ≡ true
unfolding wrote_value wrote_key
wrote_fits b k e t = each_fits b.values b.wrote (key_place b.writes b.wrote k) e (ltb-true _ _ t)

-- its keys ascend and are of the site, and its values fit
part_write : (o : House) (own : ℕ) (b : Keys) → ((j : ℕ) → j < b.wrote → home_of o (get_or b.writes j 0) ≡ own)
    → values_fit b.values b.wrote ≡ true → (n i : ℕ) → n ≡ sorted_count b → i < n
    → part_write_ok o own (sorted_words b n) i ≡ true
unfolding part_write_ok key_ascends
part_write o own b here short n i e h =
    let k : (j : ℕ) → j < n → write_key (sorted_words b n) j ≡ sorted_key b j = word_key b n in
    let t = sorted_wrote b i (sorted_low b i (omega arith)) in
    let (j, l, q) = wrote_among b (sorted_key b i) t in
    let f : fits (write_value (sorted_words b n) i) ≡ true = ap fits (word_value b n i h) ∙ wrote_fits b (sorted_key b i) short t in
    let s = ap (home_of o) (sym q) ∙ here j l in
    by_test (eqb i 0)
    (λ z. rw (z, k i h, eq-eqb (home_of o (sorted_key b i)) own s, f))
    (λ z.
    let p : 0 < i = by_order 0 i (λ l. l) (λ l. absurd (eqb-false i 0 z (omega arith))) in
    let q : i - 1 + 1 ≡ i = omega arith in
    let a = rw q at (sorted_ascends b (i - 1) (omega arith)) in
    rw (z, k (i - 1) (omega arith), k i h, lt-ltb (sorted_key b (i - 1)) (sorted_key b i) a, eq-eqb (home_of o (sorted_key b i)) own s, f))

-- of a part of a valid site whose transaction is of the house and whose participants have the site
pub part_good : (s : Site) (i : ℕ) → site_ok s ≡ true → i < sizes.live → is_tx s.house (sub_at s i).tx ≡ true
    → in_mask (sub_at s i).course.mask s.counters.own ≡ true → part_ok s.house (part_words s.counters.own (sub_at s i)) ≡ true
unfolding part_words part_head part_head_ok pair_ok
part_good s i t h x m =
    let o = s.house in
    let own = s.counters.own in
    let b = sub_at s i in
    let n = sorted_count b.keys in
    let v = valid_site s t in
    let p = v.part i h in
    let here = own_here s t in
    let few : n ≤ sizes.writes = omega (arith, sorted_few b.keys, p.keys.few_wrote) in
    part_written_passes o (part_head own b) (sorted_words b.keys n)
    (record {
      size = words_length b.keys n;
      head = rw (here, x, p.course.mask_house, m, le-leb n sizes.writes few, eq-eqb (coordinator_of b.tx) (coordinator_of b.tx) refl);
      writes = sym
          (all_below_lem (part_write_ok o own (sorted_words b.keys n)) n
          (λ j l. part_write o own b.keys p.keys.wrote_here p.keys.values_fit_lem n j refl l));
    })

-- The state record passes its check.
pub state_good : (s : Site) (n : ℕ) → site_ok s ≡ true → state_ok s.house (state_words s.counters.own n) ≡ true
unfolding state_words state_head_ok
state_good s n t =
    state_written_passes s.house _ []
    (record { size = refl; head = rw (own_here s t) })

-- Past the refusals, and refused.

module _ (s : Site) (room : ℕ) (base : List ℕ) (ok : Bool) (place : ℕ) (due : Bool) (code : ℕ) where
  abbrev InstallAsks : Type 0
  InstallAsks =
      (ok ≡ site_ok s) × (place ≡ least_queued s.live sizes.live) × (due ≡ is_installable s.live place)
      × (code ≡ install_code ok room (length base) due s.counters.installs)

  pub install_past : InstallAsks → code ≡ 0 → install_of s room base ≡ installed_at s base place
  unfolding install_of
  install_past (v, p, d, e) z = rw (← v, ← p, ← d, ← e, z)

  pub install_refused : InstallAsks → (code ≡ 0 → ⊥) → install_of s room base ≡ refused code s base
  unfolding install_of
  install_refused (v, p, d, e) n = rw (← v, ← p, ← d, ← e, ne_eqb code 0 n)

module _ (s : Site) (room : ℕ) (code : ℕ) (e : code ≡ report_code (site_ok s) room) where
  pub report_past : code ≡ 0 → (let n = state_number s.live s.counters.clock sizes.live in
      report_of s room ≡ record { answer = Reported n; words = state_words s.counters.own n; site = s; lent = [] })
  unfolding report_of
  report_past z = rw (← e, z)

  pub report_refused : (code ≡ 0 → ⊥) → report_of s room ≡ refused code s []
  unfolding report_of
  report_refused n = rw (← e, ne_eqb code 0 n)
