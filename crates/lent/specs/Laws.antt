-- Tables read from words are these words again, and what a call leaves of a core and its words.
use Rattle.std.specs.Prelude.{ℕ, ◌+◌, ◌*◌, ◌<◌, ◌≡◌, List, [], ◌∷◌, ◌++◌, true, get_or, set, length, eqb}
use Rattle.std.proofs.Common.{sym, ap, ◌∙◌, arith, eqb-true}
use Rattle.laws.specs.Choice.{every_at, by_test}
use Rattle.laws.specs.Overlay.{put_at}
use Rattle.kinds.specs.Sizes as sizes
use Rattle.kinds.specs.Word as word
use Rattle.kinds.specs.declared.House.{House}
use Rattle.kinds.specs.declared.Seat.{Seat}
use Rattle.kinds.specs.declared.Core.{Core}
use Rattle.kinds.specs.declared.Sub.{Sub}
use Rattle.kinds.specs.declared.Entry.{Entry}
use Rattle.kinds.specs.State.{past_seat, past_sub, past_entry}
use Rattle.rules.specs.House.{count_ok, house_ok}
use Rattle.rules.specs.Valid.{site_ok}
use Rattle.lent.specs.Rows.{rows, rows_at, rows_length, rows_same, rows_read, rows_append, flat_rows, flat_set}
use Rattle.lent.specs.Layout.{words_from, keys_from, sub_from, entry_from, live_of, history_of, keys_words, place_words, slot_words}
use Rattle.lent.specs.Layout.{live_words, history_words}
use Rattle.lent.specs.Values.{values_words}
use Rattle.lent.specs.Lent.{lent_ok, lent_house, site_of}

-- the part at a place, the install in a slot
pub live_at : (seats : List Seat) (w : List ℕ) (i : ℕ) → i < sizes.live
    → get_or (live_of seats w) i past_sub ≡ sub_from (get_or seats i past_seat) w (sizes.place * i)
unfolding live_of
live_at seats w i h = rows_at (λ j. sub_from (get_or seats j past_seat) w (sizes.place * j)) sizes.live i past_sub h

pub history_at : (h : List ℕ) (i : ℕ) → i < sizes.history → get_or (history_of h) i past_entry ≡ entry_from h (sizes.slot * i)
unfolding history_of
history_at h i l = rows_at (λ j. entry_from h (sizes.slot * j)) sizes.history i past_entry l

pub live_length : (seats : List Seat) (w : List ℕ) → length (live_of seats w) ≡ sizes.live
unfolding live_of
live_length seats w = rows_length (λ j. sub_from (get_or seats j past_seat) w (sizes.place * j)) sizes.live

pub history_length : (h : List ℕ) → length (history_of h) ≡ sizes.history
unfolding history_of
history_length h = rows_length (λ j. entry_from h (sizes.slot * j)) sizes.history

-- a possible site has words of the right lengths
pub record Lengths (w h : List ℕ) : Type 0 where
  pub live : length w ≡ sizes.live_words
  pub history : length h ≡ sizes.history_words

pub lengths_of : (w h : List ℕ) → lent_ok (length w) (length h) ≡ true → Lengths w h
unfolding lent_ok
lengths_of w h t =
    let right = eqb (length w) sizes.live_words ∷ eqb (length h) sizes.history_words ∷ [] in
    record { live = eqb-true _ _ (every_at right 0 t); history = eqb-true _ _ (every_at right 1 t) }

pub lent_lengths : (p : Core) (w h : List ℕ) → site_ok (site_of p w h) ≡ true → Lengths w h
unfolding site_ok lent_house house_ok count_ok
lent_lengths p w h e =
    by_test (lent_ok (length w) (length h))
    (λ t. lengths_of w h t)
    (λ f. absurd (let z = rw f at e in let y : ◌≡◌ {A = ℕ} 0 1 = cc in omega arith))

-- words of the right lengths leave the house as it is
pub lent_house_lem : (o : House) (w h : List ℕ) → Lengths w h → lent_house o (length w) (length h) ≡ o
unfolding lent_house lent_ok
lent_house_lem o w h l = rw (l.live, l.history)

-- Words in two parts, and the words of what is read from words.
pub words_split : (w : List ℕ) (o m n : ℕ) → words_from w o (m + n) ≡ words_from w o m ++ words_from w (o + m) n
unfolding words_from
words_split w o m n =
    rows_append (λ j. get_or w (o + j) 0) m n
    ∙ ap (λ t. rows (λ j. get_or w (o + j) 0) m ++ t) (rows_same _ _ n (λ j h. let e : o + (m + j) ≡ o + m + j = omega arith in rw e))

pub keys_words_lem : (w : List ℕ) (o : ℕ) → keys_words (keys_from w o) ≡ words_from w o sizes.keyset
unfolding keys_words keys_from words_from rows
keys_words_lem w o =
    let e : o + word.keys_reads + sizes.reads ≡ o + word.keys_writes = omega arith in
    let f : o + word.keys_writes + sizes.writes ≡ o + word.keys_values = omega arith in
    let words = sizes.value * sizes.writes in
    let counts = words_split w o word.keys_reads (sizes.reads + (sizes.writes + words)) in
    let reads = words_split w (o + word.keys_reads) sizes.reads (sizes.writes + words) in
    let writes = words_split w (o + word.keys_writes) sizes.writes words in
    let values = ap (λ t. words_from w (o + word.keys_writes) sizes.writes ++ t) (sym (values_words w (o + word.keys_values) sizes.writes)) in
    sym (counts ∙ ap (λ t. words_from w o word.keys_reads ++ t)
    (reads ∙ ap (λ t. words_from w (o + word.keys_reads) sizes.reads ++ t) (rw e (writes ∙ rw f values))))

pub place_words_lem : (a : Seat) (w : List ℕ) (o : ℕ) → place_words (sub_from a w o) ≡ words_from w o sizes.place
unfolding place_words sub_from words_from rows
place_words_lem a w o = rw (keys_words_lem w (o + word.place_keys)) (sym (words_split w o word.place_keys sizes.keyset))

pub slot_words_lem : (w : List ℕ) (o : ℕ) → slot_words (entry_from w o) ≡ words_from w o sizes.slot
unfolding slot_words entry_from words_from rows
slot_words_lem w o = rw (keys_words_lem w (o + word.slot_keys)) (sym (words_split w o 3 sizes.keyset))

-- The tables read from words of the right length are these words again.
pub live_again : (seats : List Seat) (w : List ℕ) → length w ≡ sizes.live_words → live_words (live_of seats w) ≡ w
unfolding live_words live_of words_from
live_again seats w e =
    flat_rows place_words (λ i. sub_from (get_or seats i past_seat) w (sizes.place * i)) (λ j. get_or w j 0) sizes.place sizes.live
    (λ i h. place_words_lem (get_or seats i past_seat) w (sizes.place * i))
    ∙ rows_read w sizes.live_words 0 e

pub history_again : (h : List ℕ) → length h ≡ sizes.history_words → history_words (history_of h) ≡ h
unfolding history_words history_of words_from
history_again h e =
    flat_rows slot_words (λ i. entry_from h (sizes.slot * i)) (λ j. get_or h j 0) sizes.slot sizes.history
    (λ i l. slot_words_lem h (sizes.slot * i))
    ∙ rows_read h sizes.history_words 0 e

places_long : (seats : List Seat) (w : List ℕ) (j : ℕ) (d : Sub) → j < length (live_of seats w)
    → length (place_words (get_or (live_of seats w) j d)) ≡ sizes.place
unfolding live_of words_from
places_long seats w j d q =
    rw (
      rows_at (λ k. sub_from (get_or seats k past_seat) w (sizes.place * k)) sizes.live j d (omega (arith, live_length seats w)),
      place_words_lem (get_or seats j past_seat) w (sizes.place * j),
    )
    (rows_length (λ k. get_or w (sizes.place * j + k) 0) sizes.place)

slots_long : (h : List ℕ) (j : ℕ) (d : Entry) → j < length (history_of h) → length (slot_words (get_or (history_of h) j d)) ≡ sizes.slot
unfolding history_of words_from
slots_long h j d q =
    rw (rows_at (λ k. entry_from h (sizes.slot * k)) sizes.history j d (omega (arith, history_length h)), slot_words_lem h (sizes.slot * j))
    (rows_length (λ k. get_or h (sizes.slot * j + k) 0) sizes.slot)

-- and with one of them replaced, its words are laid at its place
pub live_put : (seats : List Seat) (w : List ℕ) (i : ℕ) (b : Sub) → length w ≡ sizes.live_words → i < sizes.live
    → length (place_words b) ≡ sizes.place → live_words (set (live_of seats w) i b) ≡ put_at (sizes.place * i) w (place_words b)
unfolding live_words
live_put seats w i b e h l =
    flat_set place_words (live_of seats w) sizes.place i b (places_long seats w) l (omega (arith, live_length seats w))
    ∙ ap (λ t. put_at (sizes.place * i) t (place_words b)) (live_again seats w e)

pub history_put : (h : List ℕ) (i : ℕ) (b : Entry) → length h ≡ sizes.history_words → i < sizes.history
    → length (slot_words b) ≡ sizes.slot → history_words (set (history_of h) i b) ≡ put_at (sizes.slot * i) h (slot_words b)
unfolding history_words
history_put h i b e q l =
    flat_set slot_words (history_of h) sizes.slot i b (slots_long h) l (omega (arith, history_length h))
    ∙ ap (λ t. put_at (sizes.slot * i) t (slot_words b)) (history_again h e)
