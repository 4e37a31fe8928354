-- Q1.3 to Q1.10: what the calls on bytes are to the calls on words, for every buffer; and a copy in bytes beside any list of calls.
use Rattle.std.specs.Prelude.{ℕ, ◌*◌, ◌^◌, ◌≡◌, true, List, [], ◌∷◌, length, eqb}
use Rattle.laws.specs.Choice.{pick}
use Rattle.laws.specs.Bytes.{word_from, bytes_of, words_of, Below, Hold}
use Rattle.kinds.specs.declared.Value.{Value}
use Rattle.kinds.specs.declared.House.{House}
use Rattle.kinds.specs.declared.Answer.TheVariants.{Refused, Done, Standing}
use Rattle.rules.specs.Record.{merged_ok}
use Rattle.rules.specs.Copy.{Copying, copy_start_of, replay_of, value_of}
use Rattle.rules.specs.Reader.{copy_bytes, answer_bytes, InBytes, reader_start_of, reader_replay_of, reader_value_of, record_bytes_of}
use Rattle.rules.specs.World as world
use Rattle.rules.specs.World.{Call, fresh_world, run, step}

-- b stands for the merged record m: replay reads b as m
pub record Stands (b m : List ℕ) : Type 0 where
  pub count : length b ≡ 8 * word_from b
  pub words : words_of b ≡ m
  pub merged : merged_ok m ≡ true

-- a call on bytes does what a call on words does: the same answer, and bytes that hold the words
pub record AsWords (e : InBytes) (w : Copying) : Type 0 where
  pub answer : e.answer ≡ w.answer
  pub holds : Hold e.bytes w.copy

-- the claim: of single calls
pub record ReadersRight : Type 0 where
  -- a merged record written to bytes is taken back as that record, and no second byte string stands for it
  pub back : (m out : List ℕ) → Below (2 ^ 64) m → (record_bytes_of m out).answer ≡ Done → Stands (record_bytes_of m out).bytes m
  pub one : (m b c : List ℕ) → Below 256 b → Below 256 c → Stands b m → Stands c m → b ≡ c
  pub written : (m out : List ℕ) → merged_ok m ≡ true → length out ≡ 8 * length m → (record_bytes_of m out).answer ≡ Done
  -- with the right counts of bytes, all is as for words
  pub start : (b : List ℕ) → length b ≡ copy_bytes → AsWords (reader_start_of b) (copy_start_of (words_of b))
  pub replay : (b m : List ℕ) → Below 256 b → Below (2 ^ 64) m → length b ≡ copy_bytes
      → AsWords (reader_replay_of b (bytes_of m)) (replay_of (words_of b) m)
  pub value : (b : List ℕ) (k : ℕ) (out : List ℕ) → length b ≡ copy_bytes → length out ≡ answer_bytes
      → (reader_value_of b k out).answer ≡ value_of (words_of b) k
  pub shown : (b : List ℕ) (k : ℕ) (out : List ℕ) (v : Value) (n c : ℕ) → (reader_value_of b k out).answer ≡ Standing v n c
      → (reader_value_of b k out).bytes ≡ bytes_of (v.start ∷ v.length ∷ n ∷ c ∷ [])

-- the claim: with any other count of bytes a call is refused 2, and a refused one leaves every byte
pub record ReadersRefused : Type 0 where
  pub start_copy : (b : List ℕ) → (length b ≡ copy_bytes → ⊥) → (reader_start_of b).answer ≡ Refused 2
  pub replay_copy : (b m : List ℕ) → (length b ≡ copy_bytes → ⊥) → (reader_replay_of b m).answer ≡ Refused 2
  pub replay_count : (b m : List ℕ) → (length m ≡ 8 * word_from m → ⊥) → (reader_replay_of b m).answer ≡ Refused 2
  pub value_copy : (b : List ℕ) (k : ℕ) (out : List ℕ) → (length b ≡ copy_bytes → ⊥) → (reader_value_of b k out).answer ≡ Refused 2
  pub value_answer : (b : List ℕ) (k : ℕ) (out : List ℕ) → (length out ≡ answer_bytes → ⊥) → (reader_value_of b k out).answer ≡ Refused 2
  pub bytes_record : (m out : List ℕ) → (merged_ok m ≡ true → ⊥) → (record_bytes_of m out).answer ≡ Refused 2
  pub bytes_room : (m out : List ℕ) → (length out ≡ 8 * length m → ⊥) → (record_bytes_of m out).answer ≡ Refused 2
  pub start_leaves : (b : List ℕ) (n : ℕ) → (reader_start_of b).answer ≡ Refused n → (reader_start_of b).bytes ≡ b
  pub replay_leaves : (b m : List ℕ) (n : ℕ) → (reader_replay_of b m).answer ≡ Refused n → (reader_replay_of b m).bytes ≡ b
  pub value_leaves : (b : List ℕ) (k : ℕ) (out : List ℕ) (n : ℕ) → (reader_value_of b k out).answer ≡ Refused n
      → (reader_value_of b k out).bytes ≡ out
  pub bytes_leaves : (m out : List ℕ) (n : ℕ) → (record_bytes_of m out).answer ≡ Refused n → (record_bytes_of m out).bytes ≡ out

-- A copy in bytes beside a list of calls: a C program that is handed the bytes of each record that the list hands to copy c.
abbrev pub reader_step : ℕ → List ℕ → Call → List ℕ
reader_step c b (world.begin s d) = b
reader_step c b (world.enlist s out tx site) = b
reader_step c b (world.read s tx key) = b
reader_step c b (world.write s tx key v) = b
reader_step c b (world.search s p key) = b
reader_step c b (world.commit s out tx) = b
reader_step c b (world.abandon s out tx) = b
reader_step c b (world.message s out m) = b
reader_step c b (world.install s out) = b
reader_step c b (world.report s out) = b
reader_step c b (world.merge m) = b
reader_step c b (world.emit out) = b
reader_step c b (world.replay d m) = pick (eqb c d) (reader_replay_of b (bytes_of m)).bytes b
reader_step c b (world.value d key) = b

unfoldable pub reader_after : ℕ → List ℕ → List Call → List ℕ
reader_after c b [] = b
reader_after c b (x ∷ cs) = reader_after c (reader_step c b x) cs

-- every record that the list hands to a copy is of words of 64 bits
abbrev pub WordsHanded : List Call → Type 0
WordsHanded cs = (d : ℕ) (m : List ℕ) → world.Member (world.replay d m) cs → Below (2 ^ 64) m

-- the claim: after any list of calls it holds copy c of the world, and a read of it answers what a read of copy c answers
pub record Follows (o : House) (cs : List Call) (c : ℕ) (b : List ℕ) : Type 0 where
  pub holds : Hold b ((run (fresh_world o) cs).copy c)
  pub reads : (k : ℕ) (out : List ℕ) → length out ≡ answer_bytes
      → (reader_value_of b k out).answer ≡ (step (run (fresh_world o) cs) (world.value c k)).answer

unfoldable pub ReadersFollow : Type 0
ReadersFollow = (o : House) (cs : List Call) (c : ℕ) (b : List ℕ) → length b ≡ copy_bytes → WordsHanded cs
    → Follows o cs c (reader_after c (reader_start_of b).bytes cs)
