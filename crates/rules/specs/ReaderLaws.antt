-- Q1.1 to Q1.8: what a call on bytes that is not refused says, by name; and that what replay leaves are words of 64 bits.
use Rattle.std.specs.Prelude.{ℕ, zero, suc, ◌+◌, ◌*◌, ◌^◌, ◌<◌, ◌≡◌, refl, true, List, eqb, length, set, replicate}
use Rattle.std.proofs.Common.{arith, eq-eqb, eqb-true}
use Rattle.std.proofs.lemmas.Bool.{not-false}
use Rattle.laws.specs.Cause.{clear_at}
use Rattle.laws.specs.Scan.{fold_below}
use Rattle.laws.specs.Bytes.{word_from, words_of, Below}
use Rattle.laws.specs.ByteLaws.{length_words, below_drop, below_set}
use Rattle.kinds.specs.Sizes as sizes
use Rattle.kinds.specs.Word as word
use Rattle.kinds.specs.declared.Value.{Value}
use Rattle.kinds.specs.declared.Answer.TheVariants.{Done, Replayed, Standing}
use Rattle.rules.specs.Value.{value_at, put_value}
use Rattle.rules.specs.Record.{merged_ok, record_head, record_writes, write_key, write_value}
use Rattle.rules.specs.Copy.{copy_value, copy_number, copy_coordinator, copy_start_of, put_writes, replay_code, replayed, replay_of}
use Rattle.rules.specs.Copy.{value_code, value_of}
use Rattle.rules.specs.Reader.{copy_bytes, answer_bytes, reader_start_causes, reader_start_code, reader_replay_causes, reader_replay_code}
use Rattle.rules.specs.Reader.{reader_value_causes, reader_value_code, record_bytes_causes, record_bytes_code}

-- A copy's bytes hold a copy's words.
pub words_copy : (b : List ℕ) → length b ≡ copy_bytes → length (words_of b) ≡ sizes.copy
words_copy b e = omega (arith, length_words b)

pub start_ready : (b : List ℕ) → reader_start_code b ≡ 0 → length b ≡ copy_bytes
unfolding reader_start_code
start_ready b e = eqb-true _ _ (not-false _ (clear_at (reader_start_causes b) 0 refl e))

pub start_taken : (b : List ℕ) → reader_start_code b ≡ 0
    → copy_start_of (words_of b) ≡ record { answer = Done; copy = replicate sizes.copy 0 }
unfolding copy_start_of
start_taken b e =
    let n = words_copy b (start_ready b e) in
    rw (eq-eqb (length (words_of b)) sizes.copy n) (rw n refl)

-- What replay takes.
pub record ReplayBytesReady (b m : List ℕ) : Type 0 where
  pub size : length b ≡ copy_bytes
  pub count : length m ≡ 8 * word_from m
  pub words : replay_code (words_of b) (words_of m) ≡ 0

pub replay_bytes_ready : (b m : List ℕ) → reader_replay_code b m ≡ 0 → ReplayBytesReady b m
unfolding reader_replay_code replay_code
replay_bytes_ready b m e =
    let l = reader_replay_causes b m in
    let size = clear_at l 0 refl e in
    let count = clear_at l 1 refl e in
    record { size = eqb-true _ _ (not-false _ size); count = eqb-true _ _ (not-false _ count); words = rw (size, count) at e }

-- with the right counts the number is the one for words
pub counted : (b m : List ℕ) → eqb (length b) copy_bytes ≡ true → eqb (length m) (8 * word_from m) ≡ true
    → reader_replay_code b m ≡ replay_code (words_of b) (words_of m)
unfolding reader_replay_code replay_code
counted b m s t = rw (s, t) refl

pub replay_taken : (b m : List ℕ) → reader_replay_code b m ≡ 0
    → replay_of (words_of b) (words_of m)
    ≡ record {
      answer = Replayed (record_head (words_of m)).number (record_head (words_of m)).coordinator;
      copy = replayed (words_of b) (words_of m);
    }
unfolding replay_of
replay_taken b m e = rw (replay_bytes_ready b m e).words refl

-- What value takes.
pub record ValueBytesReady (b : List ℕ) (k space : ℕ) : Type 0 where
  pub size : length b ≡ copy_bytes
  pub room : space ≡ answer_bytes
  pub words : value_code (words_of b) k ≡ 0

pub value_bytes_ready : (b : List ℕ) (k room : ℕ) → reader_value_code b k room ≡ 0 → ValueBytesReady b k room
unfolding reader_value_code value_code
value_bytes_ready b k room e =
    let l = reader_value_causes b k room in
    let size = clear_at l 0 refl e in
    let fits = clear_at l 1 refl e in
    record { size = eqb-true _ _ (not-false _ size); room = eqb-true _ _ (not-false _ fits); words = rw (size, fits) at e }

pub measured : (b : List ℕ) (k room : ℕ) → eqb (length b) copy_bytes ≡ true → eqb room answer_bytes ≡ true
    → reader_value_code b k room ≡ value_code (words_of b) k
unfolding reader_value_code value_code
measured b k room s t = rw (s, t) refl

pub value_taken : (b : List ℕ) (k room : ℕ) → reader_value_code b k room ≡ 0
    → value_of (words_of b) k ≡ Standing (copy_value (words_of b) k) (copy_number (words_of b)) (copy_coordinator (words_of b))
unfolding value_of
value_taken b k room e = rw (value_bytes_ready b k room e).words refl

-- What is written to bytes.
pub record RecordBytesReady (m : List ℕ) (space : ℕ) : Type 0 where
  pub merged : merged_ok m ≡ true
  pub room : space ≡ 8 * length m

pub record_bytes_ready : (m : List ℕ) (room : ℕ) → record_bytes_code m room ≡ 0 → RecordBytesReady m room
unfolding record_bytes_code
record_bytes_ready m room e =
    let l = record_bytes_causes m room in
    record { merged = not-false _ (clear_at l 0 refl e); room = eqb-true _ _ (not-false _ (clear_at l 1 refl e)) }

-- Replay of words of 64 bits leaves such words.
below_value : (copy : List ℕ) (at : ℕ) (v : Value) → Below (2 ^ 64) copy → v.start < 2 ^ 64 → v.length < 2 ^ 64
    → Below (2 ^ 64) (put_value copy at v)
unfolding put_value
below_value copy at v h s l =
    below_set (2 ^ 64) (set copy (at + word.value_start) v.start) (at + word.value_length) v.length
    (below_set (2 ^ 64) copy (at + word.value_start) v.start h s) l

below_writes : (copy ws : List ℕ) (n : ℕ) → Below (2 ^ 64) copy → Below (2 ^ 64) ws → Below (2 ^ 64) (put_writes copy ws n)
unfolding put_writes fold_below value_at
below_writes copy ws zero h k = h
below_writes copy ws (suc n) h k =
    let at = sizes.write * n + word.write_value in
    below_value (put_writes copy ws n) (sizes.copy_header + sizes.value * write_key ws n) (write_value ws n) (below_writes copy ws n h k)
    (k (at + word.value_start)) (k (at + word.value_length))

pub below_replayed : (copy m : List ℕ) → Below (2 ^ 64) copy → Below (2 ^ 64) m → Below (2 ^ 64) (replayed copy m)
unfolding replayed record_head record_writes
below_replayed copy m h k =
    let first = set copy word.last_number (record_head m).number in
    let pair = set first word.last_coordinator (record_head m).coordinator in
    below_writes pair (record_writes m) (record_head m).count
    (below_set (2 ^ 64) first word.last_coordinator (record_head m).coordinator
    (below_set (2 ^ 64) copy word.last_number (record_head m).number h (k word.number)) (k word.coordinator))
    (below_drop (2 ^ 64) sizes.record_header m k)
