-- A fresh core with words of zeros is a fresh site; what a start leaves.
use Rattle.std.specs.Prelude.{ℕ, zero, suc, ◌+◌, ◌*◌, ◌≤◌, ◌≡◌, refl, List, get_or, length, replicate, eqb}
use Rattle.std.proofs.Common.{◌∙◌, arith, eqb-true, ne_eqb}
use Rattle.std.proofs.lemmas.List.{get_or-replicate}
use Rattle.laws.specs.Cause.{clear_at}
use Rattle.laws.specs.Choice.{pick}
use Rattle.std.proofs.lemmas.Bool.{not-false}
use Rattle.kinds.specs.Sizes as sizes
use Rattle.kinds.specs.Word as word
use Rattle.kinds.specs.declared.House.{House}
use Rattle.kinds.specs.declared.Core.{Core}
use Rattle.kinds.specs.declared.Reply.{Reply}
use Rattle.kinds.specs.State.{fresh, past_seat, no_keys, no_sub, no_entry}
use Rattle.kinds.specs.declared.Answer.TheVariants.{Done, Refused}
use Rattle.rules.specs.Value.{value_at}
use Rattle.rules.specs.House.{count_ok, house_of, no_house}
use Rattle.rules.specs.HouseLaws.{count_clear}
use Rattle.rules.specs.Install.{start_causes, start_code, start_of, start_table, fresh_site}
use Rattle.lent.specs.Rows.{rows, rows_same}
use Rattle.lent.specs.Layout.{words_from, values_from, keys_from, sub_from, entry_from, live_of, history_of}
use Rattle.lent.specs.Lent.{lent_ok, lent_house, lent_sites, site_of}
use Rattle.lent.specs.Laws.{Lengths}
use Rattle.lent.specs.Read.{count_lengths}

abbrev pub fresh_core : House → ℕ → Core
fresh_core o own =
    record {
      house = o;
      counters = record { own = own; clock = 0; serial = 0; installs = 0 };
      channels = record { sent = replicate sizes.sites 0; taken = replicate sizes.sites 0 };
      seats = replicate sizes.live past_seat;
    }

-- the first cause against a start with words of these lengths
abbrev pub started_code : ℕ → List ℕ → ℕ → List ℕ → List ℕ → ℕ → ℕ → ℕ
started_code sites table own w h base lists = start_code (lent_sites sites (length w) (length h)) table own base lists

-- what a start leaves: a refused one hands back a core that every call refuses
pub record Started (sites : ℕ) (table : List ℕ) (own : ℕ) (w h : List ℕ) (base lists : ℕ) (r : Reply) (v g : List ℕ) : Type 0 where
  pub answer : r.answer ≡ (start_of (lent_sites sites (length w) (length h)) table own base lists).answer
  pub words : r.words ≡ 0
  pub core : r.core ≡ pick (eqb (started_code sites table own w h base lists) 0) (fresh_core (house_of sites table) own) (fresh_core no_house 0)
  pub live : v ≡ start_table (started_code sites table own w h base lists) w
  pub history : g ≡ start_table (started_code sites table own w h base lists) h
  pub seen : started_code sites table own w h base lists ≡ 0 → site_of r.core v g ≡ fresh_site (house_of sites table) own

-- Zeros read as keys, a part and an install.
abbrev pub zeros : ℕ → List ℕ
zeros n = replicate n 0

zero_at : (n i : ℕ) → ◌≡◌ {A = ℕ} (get_or (zeros n) i 0) 0
zero_at zero i = refl
zero_at (suc n) zero = refl
zero_at (suc n) (suc i) = zero_at n i

no_words : (n o m : ℕ) → words_from (zeros n) o m ≡ rows (λ j. 0) m
unfolding words_from
no_words n o m = rows_same _ _ m (λ j h. zero_at n (o + j))

no_values : (n o m : ℕ) → values_from (zeros n) o m ≡ rows (λ j. fresh) m
unfolding values_from value_at
no_values n o m =
    rows_same _ _ m (λ j h.
    rw (zero_at n (o + sizes.value * j + word.value_start), zero_at n (o + sizes.value * j + word.value_length)))

no_keys_lem : (n o : ℕ) → keys_from (zeros n) o ≡ no_keys
unfolding keys_from no_keys rows
no_keys_lem n o =
    rw (
      zero_at n (o + word.keys_read),
      zero_at n (o + word.keys_wrote),
      no_words n (o + word.keys_reads) sizes.reads,
      no_words n (o + word.keys_writes) sizes.writes,
      no_values n (o + word.keys_values) sizes.writes,
    )

no_part : (n o : ℕ) → sub_from past_seat (zeros n) o ≡ no_sub
unfolding sub_from no_sub
no_part n o =
    rw (
      zero_at n (o + 0),
      zero_at n (o + 1),
      zero_at n (o + 2),
      zero_at n (o + 3),
      zero_at n (o + 4),
      zero_at n (o + 5),
      zero_at n (o + 6),
      no_keys_lem n (o + 7),
    )

no_install : (n o : ℕ) → entry_from (zeros n) o ≡ no_entry
unfolding entry_from no_entry
no_install n o = rw (zero_at n (o + 0), zero_at n (o + 1), zero_at n (o + 2), no_keys_lem n (o + 3))

pub fresh_seen : (o : House) (own : ℕ) → site_of (fresh_core o own) (zeros sizes.live_words) (zeros sizes.history_words) ≡ fresh_site o own
unfolding fresh_site lent_house lent_ok live_of history_of rows
fresh_seen o own =
    let live = rows_same (λ i. sub_from (get_or (fresh_core o own).seats i past_seat) (zeros sizes.live_words) (sizes.place * i))
    (λ i. no_sub) sizes.live
    (λ i h. rw (get_or-replicate sizes.live i past_seat past_seat h) (no_part sizes.live_words (sizes.place * i))) in
    let past = rows_same (λ i. entry_from (zeros sizes.history_words) (sizes.slot * i)) (λ i. no_entry) sizes.history
    (λ i h. no_install sizes.history_words (sizes.slot * i)) in
    rw (live, past)

-- a start that is not refused is lent words of the right lengths, and first keys for at most eight sites
pub record Fitting (table w h : List ℕ) : Type 0 where
  pub lengths : Lengths w h
  pub few : length table ≤ sizes.sites

pub started_fits : (sites : ℕ) (table : List ℕ) (own : ℕ) (w h : List ℕ) (base lists : ℕ) → started_code sites table own w h base lists ≡ 0
    → Fitting table w h
unfolding start_code
started_fits sites table own w h base lists e =
    let n = lent_sites sites (length w) (length h) in
    let causes = start_causes n table own base lists in
    let counted = not-false (count_ok n) (clear_at causes 0 refl e) in
    let same = eqb-true (length table) n (not-false (eqb (length table) n) (clear_at causes 1 refl e)) in
    record { lengths = count_lengths sites w h counted; few = omega (arith, count_clear n counted, same) }

-- what a start leaves, refused or not
pub started_refused : (sites : ℕ) (table : List ℕ) (own : ℕ) (w h : List ℕ) (base lists code : ℕ)
    → code ≡ started_code sites table own w h base lists → (code ≡ 0 → ⊥)
    → Started sites table own w h base lists (record { answer = Refused code; words = 0; core = fresh_core no_house 0 }) w h
unfolding start_of start_table
started_refused sites table own w h base lists code e n =
    record {
      answer = rw (← e, ne_eqb code 0 n);
      words = refl;
      core = rw (← e, ne_eqb code 0 n);
      live = rw (← e, ne_eqb code 0 n);
      history = rw (← e, ne_eqb code 0 n);
      seen = λ z. absurd (n (e ∙ z));
    }

pub started_fresh : (sites : ℕ) (table : List ℕ) (own : ℕ) (w h : List ℕ) (base lists : ℕ)
    → started_code sites table own w h base lists ≡ 0
    → Started sites table own w h base lists (record { answer = Done; words = 0; core = fresh_core (house_of sites table) own })
    (zeros (length w)) (zeros (length h))
unfolding start_of start_table
started_fresh sites table own w h base lists e =
    let l = (started_fits sites table own w h base lists e).lengths in
    record {
      answer = rw e;
      words = refl;
      core = rw e;
      live = rw e;
      history = rw e;
      seen = λ z. rw (l.live, l.history) (fresh_seen (house_of sites table) own);
    }
