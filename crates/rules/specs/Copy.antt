-- G5, G6 and Q12.4: a copy is words: its last number, its last coordinator, then the value of each key.
use Rattle.std.specs.Prelude.{ℕ, ◌+◌, ◌*◌, List, [], ◌∷◌, not, length, get_or, set, replicate, leb, eqb}
use Rattle.laws.specs.Choice.{pick}
use Rattle.laws.specs.Scan.{fold_below}
use Rattle.laws.specs.Cause.{Cause, cause, code_of}
use Rattle.laws.specs.Pair.{precedes}
use Rattle.kinds.specs.Sizes as sizes
use Rattle.kinds.specs.Reason as reason
use Rattle.kinds.specs.Word as word
use Rattle.kinds.specs.declared.Value.{Value}
use Rattle.kinds.specs.declared.Answer.{Answer}
use Rattle.kinds.specs.declared.Answer.TheVariants.{Refused, Done, Replayed, Standing}
use Rattle.rules.specs.Value.{value_at, put_value}
use Rattle.rules.specs.Record.{record_head, record_writes, write_key, write_value, merged_ok}

-- the answer, and the copy's words after it
pub record Copying : Type 0 where
  pub answer : Answer
  pub copy : List ℕ

abbrev pub copy_number : List ℕ → ℕ
copy_number copy = get_or copy word.last_number 0

abbrev pub copy_coordinator : List ℕ → ℕ
copy_coordinator copy = get_or copy word.last_coordinator 0

abbrev pub copy_value : List ℕ → ℕ → Value
copy_value copy k = value_at copy (sizes.copy_header + sizes.value * k)

-- the copy with the first n writes
unfoldable pub put_writes : List ℕ → List ℕ → ℕ → List ℕ
put_writes copy ws n = fold_below (λ i l. put_value l (sizes.copy_header + sizes.value * write_key ws i) (write_value ws i)) n copy

-- Replay: a merged record whose pair is above the last.
abbrev pub replay_causes : List ℕ → List ℕ → List Cause
replay_causes copy m =
    cause (not (eqb (length copy) sizes.copy)) reason.malformed
    ∷ cause (not (merged_ok m)) reason.malformed
    ∷ cause (not (precedes (copy_number copy) (copy_coordinator copy) (record_head m).number (record_head m).coordinator)) reason.behind
    ∷ []

unfoldable pub replay_code : List ℕ → List ℕ → ℕ
replay_code copy m = code_of (replay_causes copy m)

unfoldable pub replayed : List ℕ → List ℕ → List ℕ
replayed copy m =
    let r = record_head m in
    put_writes (set (set copy word.last_number r.number) word.last_coordinator r.coordinator) (record_writes m) r.count

unfoldable pub replay_of : List ℕ → List ℕ → Copying
replay_of copy m =
    let code = replay_code copy m in
    pick (eqb code 0)
    (record { answer = Replayed (record_head m).number (record_head m).coordinator; copy = replayed copy m })
    (record { answer = Refused code; copy = copy })

-- Value: with the copy's pair.
abbrev pub value_causes : List ℕ → ℕ → List Cause
value_causes copy k = cause (not (eqb (length copy) sizes.copy)) reason.malformed ∷ cause (leb sizes.keys k) reason.malformed ∷ []

unfoldable pub value_code : List ℕ → ℕ → ℕ
value_code copy k = code_of (value_causes copy k)

unfoldable pub value_of : List ℕ → ℕ → Answer
value_of copy k =
    let code = value_code copy k in
    pick (eqb code 0) (Standing (copy_value copy k) (copy_number copy) (copy_coordinator copy)) (Refused code)

-- Start: 0 everywhere.
abbrev pub copy_start_causes : List ℕ → List Cause
copy_start_causes copy = cause (not (eqb (length copy) sizes.copy)) reason.malformed ∷ []

unfoldable pub copy_start_of : List ℕ → Copying
copy_start_of copy =
    pick (eqb (length copy) sizes.copy)
    (record { answer = Done; copy = replicate (length copy) 0 })
    (record { answer = Refused reason.malformed; copy = copy })
