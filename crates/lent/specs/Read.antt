-- What is read of the tables' words: each is a word at its position.
use Rattle.std.specs.Prelude.{ℕ, ◌+◌, ◌*◌, ◌≤◌, ◌<◌, ◌≡◌, refl, true, false, List, get_or, length}
use Rattle.std.proofs.Common.{sym, ap, arith}
use Rattle.laws.specs.Choice.{by_test, set_not}
use Rattle.kinds.specs.Sizes as sizes
use Rattle.kinds.specs.Word as word
use Rattle.kinds.specs.declared.House.{House}
use Rattle.kinds.specs.declared.Seat.{Seat}
use Rattle.kinds.specs.declared.Sub.{Sub}
use Rattle.kinds.specs.State.{past_sub, past_entry}
use Rattle.rules.specs.House.{count_ok, house_ok}
use Rattle.rules.specs.Keys.{wrote_key}
use Rattle.rules.specs.History.{forgotten, slot_of, recall}
use Rattle.rules.specs.HistoryLaws.{slot_low}
use Rattle.lent.specs.Rows.{rows_at}
use Rattle.lent.specs.Layout.{words_from, keys_from, sub_from, entry_from, live_of, history_of}
use Rattle.lent.specs.Lent.{lent_ok, lent_house, lent_sites}
use Rattle.lent.specs.Laws.{Lengths, lengths_of, live_at, history_at}

-- words of another length make no house,
pub house_lengths : (o : House) (w h : List ℕ) → house_ok (lent_house o (length w) (length h)) ≡ true → Lengths w h
unfolding lent_house house_ok count_ok
house_lengths o w h e =
    by_test (lent_ok (length w) (length h))
    (λ t. lengths_of w h t)
    (λ f. absurd (set_not false (rw f at e) refl))

-- and leave a start no sites
pub count_lengths : (sites : ℕ) (w h : List ℕ) → count_ok (lent_sites sites (length w) (length h)) ≡ true → Lengths w h
unfolding lent_sites count_ok
count_lengths sites w h e =
    by_test (lent_ok (length w) (length h))
    (λ t. lengths_of w h t)
    (λ f. absurd (set_not false (rw f at e) refl))

-- word i of n from word o on
pub words_at : (w : List ℕ) (o n i : ℕ) → i < n → get_or (words_from w o n) i 0 ≡ get_or w (o + i) 0
unfolding words_from
words_at w o n i h = rows_at (λ j. get_or w (o + j) 0) n i 0 h

-- how many entries the part at a place has gathered
pub place_listed_lem : (seats : List Seat) (w : List ℕ) (i : ℕ) → i < sizes.live
    → (get_or (live_of seats w) i past_sub).course.listed ≡ get_or w (sizes.place * i + word.place_listed) 0
unfolding sub_from
place_listed_lem seats w i h = ap (λ (b : Sub). b.course.listed) (live_at seats w i h)

-- the keys in a slot
pub slot_keys_lem : (h : List ℕ) (slot : ℕ) → slot < sizes.history
    → (get_or (history_of h) slot past_entry).keys ≡ keys_from h (sizes.slot * slot + word.slot_keys)
unfolding entry_from
slot_keys_lem h slot l = rw (history_at h slot l)

-- the keys of the i-th remembered install
pub recall_keys : (h : List ℕ) (installs i slot : ℕ) → slot ≡ slot_of (forgotten installs + i)
    → keys_from h (sizes.slot * slot + word.slot_keys) ≡ (recall (history_of h) installs i).keys
recall_keys h installs i slot e = rw e (sym (slot_keys_lem h (slot_of (forgotten installs + i)) (slot_low _)))

-- k is among the keys written from word o on
pub record Wrote (w : List ℕ) (o k : ℕ) : Type 0 where
  pub lie : o + sizes.keyset ≤ length w
  pub few : (keys_from w o).wrote ≤ sizes.writes
  pub wrote : wrote_key (keys_from w o) k ≡ true

-- the history's slots: all their words, and in none more keys written than it has room for
pub record Slots (h : List ℕ) : Type 0 where
  pub long : length h ≡ sizes.history_words
  pub few : (i : ℕ) → i < sizes.history → (get_or (history_of h) i past_entry).keys.wrote ≤ sizes.writes

pub slot_lies : (h : List ℕ) (slot : ℕ) → Slots h → slot < sizes.history → sizes.slot * slot + word.slot_keys + sizes.keyset ≤ length h
slot_lies h slot s l = omega (arith, s.long)

pub slot_few : (h : List ℕ) (slot : ℕ) → Slots h → slot < sizes.history
    → (keys_from h (sizes.slot * slot + word.slot_keys)).wrote ≤ sizes.writes
slot_few h slot s l = rw (slot_keys_lem h slot l) at (s.few slot l)
