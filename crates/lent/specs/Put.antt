-- Words laid into others, read by index; and what does not lie there stays.
use Rattle.std.specs.Prelude.{ℕ, ◌+◌, ◌-◌, ◌*◌, ◌≤◌, ◌<◌, ◌≡◌, List, ◌++◌, ltb, get_or, set, length, take, drop}
use Rattle.std.proofs.Common.{◌∙◌, mul-le-mul_left, arith, ltb-true, ltb-false, length-take-le, get_or-append-add, get_or-take, get_or-drop, get_or-set_same, get_or-set_other}
use Rattle.std.proofs.Math.ListN.{get_or-append}
use Rattle.laws.specs.Choice.{by_test}
use Rattle.laws.specs.Overlay.{put_at}
use Rattle.kinds.specs.Sizes as sizes
use Rattle.kinds.specs.Word as word
use Rattle.kinds.specs.declared.Seat.{Seat}
use Rattle.kinds.specs.declared.Sub.{Sub}
use Rattle.kinds.specs.declared.Entry.{Entry}
use Rattle.kinds.specs.State.{past_seat}
use Rattle.lent.specs.Rows.{rows, rows_same, rows_set}
use Rattle.lent.specs.Layout.{words_from, keys_from, sub_from, entry_from, live_of, history_of, seat_of}
use Rattle.lent.specs.Values.{values_same}

pub put_left : (a : ℕ) (d v : List ℕ) (j : ℕ) → a ≤ length d → j < a → get_or (put_at a d v) j 0 ≡ get_or d j 0
unfolding put_at
put_left a d v j h l = get_or-append (take a d) _ 0 j (omega (arith, length-take-le a d h)) ∙ get_or-take a d j 0 l

pub put_inside : (a : ℕ) (d v : List ℕ) (j : ℕ) → a ≤ length d → j < length v → get_or (put_at a d v) (a + j) 0 ≡ get_or v j 0
unfolding put_at
put_inside a d v j h l =
    let e = get_or-append-add (take a d) (v ++ drop (a + length v) d) j 0 in
    rw (length-take-le a d h) at e ∙ get_or-append v _ 0 j l

pub put_right : (a : ℕ) (d v : List ℕ) (j : ℕ) → a ≤ length d → a + length v ≤ j → get_or (put_at a d v) j 0 ≡ get_or d j 0
unfolding put_at
put_right a d v j h l =
    let k = j - (a + length v) in
    let e = get_or-append-add (take a d) (v ++ drop (a + length v) d) (length v + k) 0 in
    let q : a + length v + k ≡ j = omega arith in
    let r : a + (length v + k) ≡ j = omega arith in
    let z = rw (length-take-le a d h, r) at e in
    z ∙ get_or-append-add v (drop (a + length v) d) k 0 ∙ get_or-drop (a + length v) d k 0 ∙ rw q

-- keys, parts and entries are the same where their words are
pub keys_same : (w v : List ℕ) (o : ℕ) → ((j : ℕ) → j < sizes.keyset → get_or w (o + j) 0 ≡ get_or v (o + j) 0) → keys_from w o ≡ keys_from v o
unfolding keys_from words_from
keys_same w v o p =
    rw (
      p word.keys_read (omega arith),
      p word.keys_wrote (omega arith),
      keys word.keys_reads (omega arith),
      keys word.keys_writes (omega arith),
      values_same w v (o + word.keys_values) (o + word.keys_values) sizes.writes (λ j l. word_at word.keys_values j (omega arith)),
    )
  where
    word_at : (s j : ℕ) → s + j < sizes.keyset → get_or w (o + s + j) 0 ≡ get_or v (o + s + j) 0
    word_at s j l = let e : o + (s + j) ≡ o + s + j = omega arith in rw (← e) (p (s + j) l)

    keys : (s : ℕ) → s + sizes.reads ≤ sizes.keyset
        → rows (λ j. get_or w (o + s + j) 0) sizes.reads ≡ rows (λ j. get_or v (o + s + j) 0) sizes.reads
    keys s h = rows_same _ _ sizes.reads (λ j l. word_at s j (omega arith))

pub sub_same : (a : Seat) (w v : List ℕ) (o : ℕ) → ((j : ℕ) → j < sizes.place → get_or w (o + j) 0 ≡ get_or v (o + j) 0)
    → sub_from a w o ≡ sub_from a v o
unfolding sub_from
sub_same a w v o p =
    let inside : (j : ℕ) → j < sizes.keyset → get_or w (o + word.place_keys + j) 0 ≡ get_or v (o + word.place_keys + j) 0 =
    λ j l. let e : o + (word.place_keys + j) ≡ o + word.place_keys + j = omega arith in rw (← e) (p (word.place_keys + j) (omega arith)) in
    rw (
      p 0 (omega arith),
      p 1 (omega arith),
      p 2 (omega arith),
      p 3 (omega arith),
      p 4 (omega arith),
      p 5 (omega arith),
      p 6 (omega arith),
      keys_same w v (o + word.place_keys) inside,
    )

pub entry_same : (w v : List ℕ) (o : ℕ) → ((j : ℕ) → j < sizes.slot → get_or w (o + j) 0 ≡ get_or v (o + j) 0) → entry_from w o ≡ entry_from v o
unfolding entry_from
entry_same w v o p =
    let inside : (j : ℕ) → j < sizes.keyset → get_or w (o + word.slot_keys + j) 0 ≡ get_or v (o + word.slot_keys + j) 0 =
    λ j l. let e : o + (word.slot_keys + j) ≡ o + word.slot_keys + j = omega arith in rw (← e) (p (word.slot_keys + j) (omega arith)) in
    rw (p 0 (omega arith), p 1 (omega arith), p 2 (omega arith), keys_same w v (o + word.slot_keys) inside)

-- words laid into one of several places of s words leave the others
pub put_elsewhere : (s i k j : ℕ) (d v : List ℕ) → length v ≡ s → s * i ≤ length d → (k ≡ i → ⊥) → j < s
    → get_or (put_at (s * i) d v) (s * k + j) 0 ≡ get_or d (s * k + j) 0
put_elsewhere s i k j d v e h n l =
    by_test (ltb k i)
    (λ t. put_left (s * i) d v (s * k + j) h (below (ltb-true k i t)))
    (λ f. put_right (s * i) d v (s * k + j) h (above (other (ltb-false k i f))))
  where
    other : i ≤ k → i < k
    other q = by_test (ltb i k) (λ t. ltb-true i k t) (λ f. absurd (n (omega (arith, ltb-false i k f))))

    below : k < i → s * k + j < s * i
    below q = let m = mul-le-mul_left {m = k + 1} {n = i} s (omega arith) in let r : s * (k + 1) ≡ s * k + s = omega arith in
        omega (arith, m, r)

    above : i < k → s * i + length v ≤ s * k + j
    above q = let m = mul-le-mul_left {m = i + 1} {n = k} s (omega arith) in let r : s * (i + 1) ≡ s * i + s = omega arith in
        omega (arith, m, r, e)

-- a table with the words of one row laid at its place
pub live_set : (seats : List Seat) (w v : List ℕ) (i : ℕ) (b : Sub) → length w ≡ sizes.live_words → length seats ≡ sizes.live
    → i < sizes.live
    → length v ≡ sizes.place → sub_from (seat_of b) (put_at (sizes.place * i) w v) (sizes.place * i) ≡ b
    → live_of (set seats i (seat_of b)) (put_at (sizes.place * i) w v) ≡ set (live_of seats w) i b
unfolding live_of
live_set seats w v i b e f h l q = rows_set _ _ sizes.live i b h here others
  where
    u : List ℕ
    u = put_at (sizes.place * i) w v

    here : sub_from (get_or (set seats i (seat_of b)) i past_seat) u (sizes.place * i) ≡ b
    here = rw (get_or-set_same seats i (seat_of b) past_seat (omega arith)) q

    others : (k : ℕ) → k < sizes.live → (k ≡ i → ⊥)
        → sub_from (get_or (set seats i (seat_of b)) k past_seat) u (sizes.place * k) ≡ sub_from (get_or seats k past_seat) w (sizes.place * k)
    others k m n =
        rw (get_or-set_other seats i k (seat_of b) past_seat n)
        (sub_same (get_or seats k past_seat) u w (sizes.place * k) (λ j r. put_elsewhere sizes.place i k j w v l (omega arith) n r))

pub history_set : (h v : List ℕ) (i : ℕ) (b : Entry) → length h ≡ sizes.history_words → i < sizes.history → length v ≡ sizes.slot
    → entry_from (put_at (sizes.slot * i) h v) (sizes.slot * i) ≡ b → history_of (put_at (sizes.slot * i) h v) ≡ set (history_of h) i b
unfolding history_of
history_set h v i b e q l r =
    rows_set _ _ sizes.history i b q r
    (λ k m n. entry_same (put_at (sizes.slot * i) h v) h (sizes.slot * k) (λ j z. put_elsewhere sizes.slot i k j h v l (omega arith) n z))
