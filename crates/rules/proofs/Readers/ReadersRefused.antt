-- Why bytes of another count are refused 2, and why a refused call leaves every byte.
use Prim.Native.Nat.{ℕ, ◌*◌}
use mathlib.Core.Path.{◌≡◌, refl, ap}
use mathlib.Core.Bool.{true, false}
use mathlib.Core.List.{List}
use borrow.Author.Tests.{ne_eqb, eqb-true}
use lib.Dec.{eqb}
use lib.ListN.{length}
use Rattle.laws.specs.Choice.{pick_same, by_test, set_not, unset}
use Rattle.laws.specs.Bytes.{word_from}
use Rattle.kinds.specs.declared.Answer.TheVariants.{Refused}
use Rattle.rules.specs.Record.{merged_ok}
use Rattle.rules.specs.Answers.{is_refused}
use Rattle.rules.specs.Reader.{copy_bytes, answer_bytes, InBytes, unless_refused, reader_start_code, reader_start_of}
use Rattle.rules.specs.Reader.{reader_replay_code, reader_replay_of, reader_value_code, reader_value_of, record_bytes_code, record_bytes_of}
use Rattle.rules.specs.ReaderLaws.{start_taken, replay_taken, value_taken}
use Rattle.rules.specs.Readers.{ReadersRefused}

-- A count that is wrong is a cause of 2, and no other number stands before it.
start_copy : (b : List ℕ) → (length b ≡ copy_bytes → ⊥) → (reader_start_of b).answer ≡ Refused 2
unfolding reader_start_of reader_start_code
start_copy b f = rw (ne_eqb (length b) copy_bytes f) refl

replay_copy : (b m : List ℕ) → (length b ≡ copy_bytes → ⊥) → (reader_replay_of b m).answer ≡ Refused 2
unfolding reader_replay_of reader_replay_code
replay_copy b m f = rw (ne_eqb (length b) copy_bytes f) refl

replay_count : (b m : List ℕ) → (length m ≡ 8 * word_from m → ⊥) → (reader_replay_of b m).answer ≡ Refused 2
unfolding reader_replay_of reader_replay_code
replay_count b m f = rw (ne_eqb (length m) (8 * word_from m) f, pick_same) refl

value_copy : (b : List ℕ) (k : ℕ) (out : List ℕ) → (length b ≡ copy_bytes → ⊥) → (reader_value_of b k out).answer ≡ Refused 2
unfolding reader_value_of reader_value_code
value_copy b k out f = rw (ne_eqb (length b) copy_bytes f) refl

value_answer : (b : List ℕ) (k : ℕ) (out : List ℕ) → (length out ≡ answer_bytes → ⊥) → (reader_value_of b k out).answer ≡ Refused 2
unfolding reader_value_of reader_value_code
value_answer b k out f = rw (ne_eqb (length out) answer_bytes f, pick_same) refl

bytes_record : (m out : List ℕ) → (merged_ok m ≡ true → ⊥) → (record_bytes_of m out).answer ≡ Refused 2
unfolding record_bytes_of record_bytes_code
bytes_record m out f = rw (unset (merged_ok m) f) refl

bytes_room : (m out : List ℕ) → (length out ≡ 8 * length m → ⊥) → (record_bytes_of m out).answer ≡ Refused 2
unfolding record_bytes_of record_bytes_code
bytes_room m out f = rw (ne_eqb (length out) (8 * length m) f, pick_same) refl

-- A call that no cause refuses is not refused.
leaves : (b : List ℕ) (e : InBytes) (code n : ℕ) → (code ≡ 0 → is_refused e.answer ≡ false)
    → (unless_refused code b e).answer ≡ Refused n → (unless_refused code b e).bytes ≡ b
leaves b e code n f q =
    by_test (eqb code 0)
    (λ t. absurd (set_not (is_refused e.answer) (ap is_refused (rw t at q)) (f (eqb-true code 0 t))))
    (λ t. rw t refl)

start_leaves : (b : List ℕ) (n : ℕ) → (reader_start_of b).answer ≡ Refused n → (reader_start_of b).bytes ≡ b
unfolding reader_start_of
start_leaves b n q = leaves b _ (reader_start_code b) n (λ z. rw (start_taken b z) refl) q

replay_leaves : (b m : List ℕ) (n : ℕ) → (reader_replay_of b m).answer ≡ Refused n → (reader_replay_of b m).bytes ≡ b
unfolding reader_replay_of
replay_leaves b m n q = leaves b _ (reader_replay_code b m) n (λ z. rw (replay_taken b m z) refl) q

value_leaves : (b : List ℕ) (k : ℕ) (out : List ℕ) (n : ℕ) → (reader_value_of b k out).answer ≡ Refused n
    → (reader_value_of b k out).bytes ≡ out
unfolding reader_value_of
value_leaves b k out n q = leaves out _ (reader_value_code b k (length out)) n (λ z. rw (value_taken b k (length out) z) refl) q

bytes_leaves : (m out : List ℕ) (n : ℕ) → (record_bytes_of m out).answer ≡ Refused n → (record_bytes_of m out).bytes ≡ out
unfolding record_bytes_of
bytes_leaves m out n q = leaves out _ (record_bytes_code m (length out)) n (λ z. refl) q

pub readers_refused : ReadersRefused
readers_refused =
    record {
      start_copy = start_copy;
      replay_copy = replay_copy;
      replay_count = replay_count;
      value_copy = value_copy;
      value_answer = value_answer;
      bytes_record = bytes_record;
      bytes_room = bytes_room;
      start_leaves = start_leaves;
      replay_leaves = replay_leaves;
      value_leaves = value_leaves;
      bytes_leaves = bytes_leaves;
    }
