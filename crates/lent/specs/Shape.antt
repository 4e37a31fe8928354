-- A part and a remembered install whose arrays have their lengths fill a place and a slot, and are read back from these words.
use Rattle.std.specs.Prelude.{ℕ, ◌+◌, ◌<◌, ◌≡◌, List, [], ◌∷◌, ◌++◌, get_or, length}
use Rattle.std.proofs.Common.{◌∙◌, append_assoc, arith, length-append, get_or-append-add}
use Rattle.std.proofs.Math.ListN.{get_or-append}
use Rattle.kinds.specs.Sizes as sizes
use Rattle.kinds.specs.Word as word
use Rattle.kinds.specs.declared.Keys.{Keys}
use Rattle.kinds.specs.declared.Sub.{Sub}
use Rattle.kinds.specs.declared.Entry.{Entry}
use Rattle.rules.specs.Value.{value_words}
use Rattle.lent.specs.Rows.{rows_same, rows_read, flat}
use Rattle.lent.specs.Layout.{words_from, values_from, keys_from, sub_from, entry_from, keys_words, seat_of, place_words, slot_words}
use Rattle.lent.specs.Values.{values_long, values_back}

-- the arrays of keys have their lengths
pub record Sized (b : Keys) : Type 0 where
  pub reads : length b.reads ≡ sizes.reads
  pub writes : length b.writes ≡ sizes.writes
  pub values : length b.values ≡ sizes.writes

-- a part fills a place; where its words stand, it is read
pub record Shaped (b : Sub) : Type 0 where
  pub long : length (place_words b) ≡ sizes.place
  pub back : (w : List ℕ) (o : ℕ) → ((j : ℕ) → j < sizes.place → get_or w (o + j) 0 ≡ get_or (place_words b) j 0) → sub_from (seat_of b) w o ≡ b

-- an install fills a slot; where its words stand, it is read
pub record ShapedEntry (e : Entry) : Type 0 where
  pub long : length (slot_words e) ≡ sizes.slot
  pub back : (w : List ℕ) (o : ℕ) → ((j : ℕ) → j < sizes.slot → get_or w (o + j) 0 ≡ get_or (slot_words e) j 0) → entry_from w o ≡ e

-- words a, read from words w at o + k on, are a
words_back : (w a : List ℕ) (o k n : ℕ) → length a ≡ n → ((j : ℕ) → j < n → get_or w (o + (k + j)) 0 ≡ get_or a j 0) → words_from w (o + k) n ≡ a
unfolding words_from
words_back w a o k n e p =
    rows_same _ (λ j. get_or a j 0) n (λ j h. let q : o + k + j ≡ o + (k + j) = omega arith in rw q (p j h)) ∙ rows_read a n 0 e

-- word j of the middle of three
get_d_middle : (a b c : List ℕ) (k j : ℕ) → length a ≡ k → j < length b → get_or (a ++ (b ++ c)) (k + j) 0 ≡ get_or b j 0
get_d_middle a b c k j e h = let q : k + j ≡ length a + j = omega arith in rw q (get_or-append-add a (b ++ c) j 0 ∙ get_or-append b c 0 j h)

pub keys_long : (b : Keys) → Sized b → length (keys_words b) ≡ sizes.keyset
unfolding keys_words
keys_long b s =
    let values = flat value_words b.values in
    omega (arith, length-append b.reads (b.writes ++ values), length-append b.writes values, values_long b.values)

-- where the words of keys stand, these keys are read
pub keys_back : (b : Keys) → Sized b → (w : List ℕ) (o : ℕ)
    → ((j : ℕ) → j < sizes.keyset → get_or w (o + j) 0 ≡ get_or (keys_words b) j 0) → keys_from w o ≡ b
unfolding keys_words keys_from
keys_back b s w o p = rw (p 0 (omega arith), p 1 (omega arith), reads, writes, values)
  where
    laid : List ℕ
    laid = flat value_words b.values

    reads : words_from w (o + word.keys_reads) sizes.reads ≡ b.reads
    reads =
        words_back w b.reads o word.keys_reads sizes.reads s.reads
        (λ j h. p (word.keys_reads + j) (omega arith)
        ∙ get_d_middle (b.read ∷ b.wrote ∷ []) b.reads (b.writes ++ laid) word.keys_reads j (omega arith) (omega arith))

    writes : words_from w (o + word.keys_writes) sizes.writes ≡ b.writes
    writes =
        words_back w b.writes o word.keys_writes sizes.writes s.writes
        (λ j h. p (word.keys_writes + j) (omega arith)
        ∙ get_d_middle (b.read ∷ b.wrote ∷ b.reads) b.writes laid word.keys_writes j (omega arith) (omega arith))

    values : values_from w (o + word.keys_values) sizes.writes ≡ b.values
    values =
        values_back w b.values (o + word.keys_values) sizes.writes s.values
        (λ j h. let e = length-append b.reads b.writes in
        let before = b.read ∷ b.wrote ∷ (b.reads ++ b.writes) in
        let q : word.keys_values + j ≡ length before + j = omega arith in
        let r : o + word.keys_values + j ≡ o + (word.keys_values + j) = omega arith in
        rw r (p (word.keys_values + j) (omega arith)
        ∙ rw (q, ← append_assoc b.reads b.writes laid) (get_or-append-add before laid j 0)))

-- keys that stand behind the first k words
behind_back : (b : Keys) (a : List ℕ) (k : ℕ) → Sized b → length a ≡ k → (w : List ℕ) (o : ℕ)
    → ((j : ℕ) → j < k + sizes.keyset → get_or w (o + j) 0 ≡ get_or (a ++ keys_words b) j 0) → keys_from w (o + k) ≡ b
behind_back b a k s e w o p = keys_back b s w (o + k) (λ j h. let q : o + k + j ≡ o + (k + j) = omega arith in
    let r : k + j ≡ length a + j = omega arith in
    rw q (p (k + j) (omega arith) ∙ rw r (get_or-append-add a (keys_words b) j 0)))

-- the words before a part's keys
abbrev pub place_head : Sub → List ℕ
place_head b =
    let c = b.course in
    b.snapshot.installs ∷ c.mask ∷ c.number ∷ c.heard ∷ c.reason ∷ c.listed ∷ b.desk ∷ []

pub shaped : (b : Sub) → Sized b.keys → Shaped b
unfolding place_words sub_from seat_of
shaped b s =
    record {
      long = omega (arith, keys_long b.keys s);
      back =
          λ w o p. rw (
            p 0 (omega arith),
            p 1 (omega arith),
            p 2 (omega arith),
            p 3 (omega arith),
            p 4 (omega arith),
            p 5 (omega arith),
            p 6 (omega arith),
            behind_back b.keys (place_head b) word.place_keys s (omega arith) w o p,
          );
    }

-- the words before an install's keys
abbrev pub slot_head : Entry → List ℕ
slot_head e = e.tx ∷ e.mask ∷ e.number ∷ []

pub shaped_entry : (e : Entry) → Sized e.keys → ShapedEntry e
unfolding slot_words entry_from
shaped_entry e s =
    record {
      long = omega (arith, keys_long e.keys s);
      back =
          λ w o p. rw (
            p 0 (omega arith),
            p 1 (omega arith),
            p 2 (omega arith),
            behind_back e.keys (slot_head e) word.slot_keys s (omega arith) w o p,
          );
    }
