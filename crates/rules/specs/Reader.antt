-- Q1.1 to Q1.8: a copy and a merged record in the bytes of a C program. A call looks at its counts of bytes and then does what the same
-- call does on the words of these bytes.
use Rattle.std.specs.Prelude.{ℕ, ◌*◌, List, [], ◌∷◌, not, length, eqb}
use Rattle.laws.specs.Choice.{pick}
use Rattle.laws.specs.Cause.{Cause, cause, code_of}
use Rattle.laws.specs.Bytes.{word_from, bytes_of, words_of}
use Rattle.kinds.specs.Sizes as sizes
use Rattle.kinds.specs.Reason as reason
use Rattle.kinds.specs.declared.Answer.{Answer}
use Rattle.kinds.specs.declared.Answer.TheVariants.{Refused, Done}
use Rattle.rules.specs.Record.{merged_ok}
use Rattle.rules.specs.Copy.{copy_number, copy_coordinator, copy_value, replay_causes, replay_of, value_causes, value_of}
use Rattle.rules.specs.Copy.{copy_start_causes, copy_start_of}

-- the bytes of a copy, and of what a read writes: the value and the copy's pair
abbrev pub copy_bytes : ℕ
copy_bytes = 8 * sizes.copy

abbrev pub answer_bytes : ℕ
answer_bytes = 8 * sizes.answer

-- the answer, and the bytes after it of the buffer that the call may write
pub record InBytes : Type 0 where
  pub answer : Answer
  pub bytes : List ℕ

abbrev pub unless_refused : ℕ → List ℕ → InBytes → InBytes
unless_refused code b e = pick (eqb code 0) e (record { answer = Refused code; bytes = b })

-- Start.
abbrev pub reader_start_causes : List ℕ → List Cause
reader_start_causes b = cause (not (eqb (length b) copy_bytes)) reason.malformed ∷ copy_start_causes (words_of b)

unfoldable pub reader_start_code : List ℕ → ℕ
reader_start_code b = code_of (reader_start_causes b)

unfoldable pub reader_start_of : List ℕ → InBytes
reader_start_of b =
    let e = copy_start_of (words_of b) in
    unless_refused (reader_start_code b) b (record { answer = e.answer; bytes = bytes_of e.copy })

-- Replay of the record whose bytes are m: as many as eight times its word 0.
abbrev pub reader_replay_causes : List ℕ → List ℕ → List Cause
reader_replay_causes b m =
    cause (not (eqb (length b) copy_bytes)) reason.malformed
    ∷ cause (not (eqb (length m) (8 * word_from m))) reason.malformed
    ∷ replay_causes (words_of b) (words_of m)

unfoldable pub reader_replay_code : List ℕ → List ℕ → ℕ
reader_replay_code b m = code_of (reader_replay_causes b m)

unfoldable pub reader_replay_of : List ℕ → List ℕ → InBytes
reader_replay_of b m =
    let e = replay_of (words_of b) (words_of m) in
    unless_refused (reader_replay_code b m) b (record { answer = e.answer; bytes = bytes_of e.copy })

-- Value, to the answer's bytes.
unfoldable pub standing_words : List ℕ → ℕ → List ℕ
standing_words copy k = let v = copy_value copy k in v.start ∷ v.length ∷ copy_number copy ∷ copy_coordinator copy ∷ []

abbrev pub reader_value_causes : List ℕ → ℕ → ℕ → List Cause
reader_value_causes b k room =
    cause (not (eqb (length b) copy_bytes)) reason.malformed
    ∷ cause (not (eqb room answer_bytes)) reason.malformed
    ∷ value_causes (words_of b) k

unfoldable pub reader_value_code : List ℕ → ℕ → ℕ → ℕ
reader_value_code b k room = code_of (reader_value_causes b k room)

unfoldable pub reader_value_of : List ℕ → ℕ → List ℕ → InBytes
reader_value_of b k out =
    let copy = words_of b in
    unless_refused (reader_value_code b k (length out)) out (record { answer = value_of copy k; bytes = bytes_of (standing_words copy k) })

-- The merger's host writes a merged record to bytes.
abbrev pub record_bytes_causes : List ℕ → ℕ → List Cause
record_bytes_causes m room =
    cause (not (merged_ok m)) reason.malformed ∷ cause (not (eqb room (8 * length m))) reason.malformed ∷ []

unfoldable pub record_bytes_code : List ℕ → ℕ → ℕ
record_bytes_code m room = code_of (record_bytes_causes m room)

unfoldable pub record_bytes_of : List ℕ → List ℕ → InBytes
record_bytes_of m out = unless_refused (record_bytes_code m (length out)) out (record { answer = Done; bytes = bytes_of m })
