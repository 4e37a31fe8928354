-- S7 to S9 and Q10.2: where the words of a part and of a remembered install stand. A place of the live table has a seat by value; its
-- other words are its snapshot, its course, its desk and its keys. A slot of the history is words alone.
use Rattle.std.specs.Prelude.{ℕ, ◌+◌, ◌*◌, List, ◌∷◌, ◌++◌, get_or}
use Rattle.kinds.specs.Sizes as sizes
use Rattle.kinds.specs.Word as word
use Rattle.kinds.specs.declared.Keys.{Keys}
use Rattle.kinds.specs.declared.Sub.{Sub}
use Rattle.kinds.specs.declared.Entry.{Entry}
use Rattle.kinds.specs.declared.Seat.{Seat}
use Rattle.kinds.specs.State.{past_seat}
use Rattle.kinds.specs.declared.Value.{Value}
use Rattle.rules.specs.Value.{value_words, value_at}
use Rattle.lent.specs.Rows.{rows, flat}

-- n words from word o on
unfoldable pub words_from : List ℕ → ℕ → ℕ → List ℕ
words_from w o n = rows (λ j. get_or w (o + j) 0) n

-- n values from word o on
unfoldable pub values_from : List ℕ → ℕ → ℕ → List Value
values_from w o n = rows (λ i. value_at w (o + sizes.value * i)) n

-- the keys from word o on
unfoldable pub keys_from : List ℕ → ℕ → Keys
keys_from w o =
    record {
      read = get_or w (o + word.keys_read) 0;
      wrote = get_or w (o + word.keys_wrote) 0;
      reads = words_from w (o + word.keys_reads) sizes.reads;
      writes = words_from w (o + word.keys_writes) sizes.writes;
      values = values_from w (o + word.keys_values) sizes.writes;
    }

-- the part of a seat, with its other words from word o on
unfoldable pub sub_from : Seat → List ℕ → ℕ → Sub
sub_from a w o =
    record {
      tx = a.tx;
      desk = get_or w (o + word.place_desk) 0;
      snapshot = record { installs = get_or w (o + word.place_snapshot) 0 };
      course =
          record {
            stage = a.stage;
            mask = get_or w (o + word.place_mask) 0;
            number = get_or w (o + word.place_number) 0;
            heard = get_or w (o + word.place_heard) 0;
            reason = get_or w (o + word.place_reason) 0;
            listed = get_or w (o + word.place_listed) 0;
          };
      keys = keys_from w (o + word.place_keys);
    }

-- the remembered install from word o on
unfoldable pub entry_from : List ℕ → ℕ → Entry
entry_from w o =
    record {
      tx = get_or w (o + word.slot_tx) 0;
      mask = get_or w (o + word.slot_mask) 0;
      number = get_or w (o + word.slot_number) 0;
      keys = keys_from w (o + word.slot_keys);
    }

-- the tables: sixteen places, thirty-two slots
unfoldable pub live_of : List Seat → List ℕ → List Sub
live_of seats w = rows (λ i. sub_from (get_or seats i past_seat) w (sizes.place * i)) sizes.live

unfoldable pub history_of : List ℕ → List Entry
history_of h = rows (λ i. entry_from h (sizes.slot * i)) sizes.history

-- The words of keys, a part and an install, and those of the tables.
unfoldable pub keys_words : Keys → List ℕ
keys_words b = b.read ∷ b.wrote ∷ (b.reads ++ (b.writes ++ flat value_words b.values))

unfoldable pub seat_of : Sub → Seat
seat_of b = record { tx = b.tx; stage = b.course.stage }

unfoldable pub place_words : Sub → List ℕ
place_words b =
    let c = b.course in
    b.snapshot.installs ∷ c.mask ∷ c.number ∷ c.heard ∷ c.reason ∷ c.listed ∷ b.desk ∷ keys_words b.keys

unfoldable pub slot_words : Entry → List ℕ
slot_words e = e.tx ∷ e.mask ∷ e.number ∷ keys_words e.keys

unfoldable pub live_words : List Sub → List ℕ
live_words live = flat place_words live

unfoldable pub history_words : List Entry → List ℕ
history_words history = flat slot_words history
