-- Why a call on bytes does what the call on their words does, and why a record has one byte string.
use Prim.Native.Nat.{ℕ, ◌*◌, ◌^◌}
use mathlib.Core.Path.{◌≡◌, refl, sym, ap, ◌∙◌}
use mathlib.Core.Bool.{true, false}
use mathlib.Core.List.{List, [], ◌∷◌}
use native.Mathlib.Omega.{arith}
use borrow.Author.Tests.{eq-eqb, ne_eqb, eqb-true}
use lib.Dec.{eqb}
use lib.ListN.{length, get_or, replicate}
use Rattle.laws.specs.Choice.{by_test, by_same, every_at, unset}
use Rattle.laws.specs.Bytes.{word_from, bytes_of, words_of, Below}
use Rattle.laws.specs.ByteLaws.{length_bytes, length_words, word_first, words_back, words_below, below_zeros, one_string}
use Rattle.laws.specs.ByteLaws.{hold_bytes, hold_words}
use Rattle.kinds.specs.Sizes as sizes
use Rattle.kinds.specs.declared.Value.{Value}
use Rattle.kinds.specs.declared.Answer.TheVariants.{Refused, Done, Standing}
use Rattle.rules.specs.Record.{merged_tests, merged_ok}
use Rattle.rules.specs.RecordLaws.{shape_clear}
use Rattle.rules.specs.Copy.{copy_number, copy_coordinator, copy_value, copy_start_of, replay_code, replay_of, value_code, value_of}
use Rattle.rules.specs.Reader.{copy_bytes, answer_bytes, reader_start_code, reader_start_of, reader_replay_code, reader_replay_of}
use Rattle.rules.specs.Reader.{standing_words, reader_value_code, reader_value_of, record_bytes_code, record_bytes_of}
use Rattle.rules.specs.ReaderLaws.{words_copy, counted, measured, below_replayed, value_bytes_ready, record_bytes_ready}
use Rattle.rules.specs.Readers.{Stands, AsWords, ReadersRight}
use Rattle.rules.proofs.Desks.WriteLimits.{done_refused}

-- What an answer says.
standing : (v u : Value) (n m c d : ℕ) → Standing v n c ≡ Standing u m d → (v ≡ u) × (n ≡ m) × (c ≡ d)
standing v u n m c d e = (cc, cc, cc)

standing_refused : (v : Value) (n c r : ℕ) → Refused r ≡ Standing v n c → ⊥
standing_refused v n c r e = let z : ◌≡◌ {A = ℕ} 0 1 = cc in omega arith

-- A merged record's word 0 counts its words.
counts : (m : List ℕ) → merged_ok m ≡ true → get_or m 0 0 ≡ length m
unfolding merged_ok
counts m e = (shape_clear m (every_at (merged_tests m) 0 e)).whole

-- There and back.
back : (m out : List ℕ) → Below (2 ^ 64) m → (record_bytes_of m out).answer ≡ Done → Stands (record_bytes_of m out).bytes m
unfolding record_bytes_of
back m out h e =
    let code = record_bytes_code m (length out) in
    by_test (eqb code 0)
    (λ t. let r = record_bytes_ready m (length out) (eqb-true code 0 t) in
    rw t (record {
      count = length_bytes m ∙ ap (λ (n : ℕ). 8 * n) (sym (word_first m h ∙ counts m r.merged));
      words = words_back m h;
      merged = r.merged;
    }))
    (λ t. absurd (done_refused code (sym (rw t at e))))

one : (m b c : List ℕ) → Below 256 b → Below 256 c → Stands b m → Stands c m → b ≡ c
one m b c h k x y =
    let n = length m in
    let size-b : length b ≡ 8 * n = omega (arith, x.count, length_words b, ap length x.words) in
    let size-c : length c ≡ 8 * n = omega (arith, y.count, length_words c, ap length y.words) in
    one_string n b c h k size-b size-c (x.words ∙ sym y.words)

written : (m out : List ℕ) → merged_ok m ≡ true → length out ≡ 8 * length m → (record_bytes_of m out).answer ≡ Done
unfolding record_bytes_of record_bytes_code
written m out e r = rw (e, eq-eqb (length out) (8 * length m) r) refl

-- Start.
start : (b : List ℕ) → length b ≡ copy_bytes → AsWords (reader_start_of b) (copy_start_of (words_of b))
unfolding reader_start_of reader_start_code copy_start_of
start b e =
    let n = length (words_of b) in
    rw (eq-eqb (length b) copy_bytes e, eq-eqb n sizes.copy (words_copy b e))
    (record { answer = refl; holds = hold_words (replicate n 0) (below_zeros (2 ^ 64) n (omega arith)) })

-- Replay: the number is the one for words. Bytes that word 0 does not count are those of no record.
miscounted : (copy m : List ℕ) → length copy ≡ sizes.copy → (get_or m 0 0 ≡ length m → ⊥) → replay_code copy m ≡ 2
unfolding replay_code
miscounted copy m e f =
    let no : merged_ok m ≡ false = unset (merged_ok m) (λ t. f (counts m t)) in
    rw (eq-eqb (length copy) sizes.copy e, no) refl

same_code : (b m : List ℕ) → Below (2 ^ 64) m → length b ≡ copy_bytes → reader_replay_code b (bytes_of m) ≡ replay_code (words_of b) m
unfolding reader_replay_code
same_code b m h e =
    let long = length_bytes m in
    let first = word_first m h in
    let size = eq-eqb (length b) copy_bytes e in
    by_same (get_or m 0 0) (length m)
    (λ q. let t = eq-eqb (length (bytes_of m)) (8 * word_from (bytes_of m)) (omega (arith, long, first)) in
    counted b (bytes_of m) size t ∙ rw (words_back m h))
    (λ q. let t = ne_eqb (length (bytes_of m)) (8 * word_from (bytes_of m)) (λ z. q (omega (arith, long, first, z))) in
    rw (size, t) (sym (miscounted (words_of b) m (words_copy b e) q)))

replay : (b m : List ℕ) → Below 256 b → Below (2 ^ 64) m → length b ≡ copy_bytes
    → AsWords (reader_replay_of b (bytes_of m)) (replay_of (words_of b) m)
unfolding reader_replay_of replay_of
replay b m h k e =
    let code = replay_code (words_of b) m in
    by_test (eqb code 0)
    (λ t. rw (same_code b m k e, words_back m k, t)
    (record { answer = refl; holds = hold_words _ (below_replayed (words_of b) m (words_below b h) k) }))
    (λ t. rw (same_code b m k e, words_back m k, t) (record { answer = refl; holds = hold_bytes sizes.copy b h e }))

-- Value.
value : (b : List ℕ) (k : ℕ) (out : List ℕ) → length b ≡ copy_bytes → length out ≡ answer_bytes
    → (reader_value_of b k out).answer ≡ value_of (words_of b) k
unfolding reader_value_of value_of
value b k out e r =
    let code = value_code (words_of b) k in
    let same : reader_value_code b k (length out) ≡ code = measured b k (length out) (eq-eqb _ _ e) (eq-eqb _ _ r) in
    by_test (eqb code 0) (λ t. rw (same, t) refl) (λ t. rw (same, t) refl)

shown : (b : List ℕ) (k : ℕ) (out : List ℕ) (v : Value) (n c : ℕ) → (reader_value_of b k out).answer ≡ Standing v n c
    → (reader_value_of b k out).bytes ≡ bytes_of (v.start ∷ v.length ∷ n ∷ c ∷ [])
unfolding reader_value_of value_of standing_words
shown b k out v n c e =
    let code = reader_value_code b k (length out) in
    by_test (eqb code 0)
    (λ t. let copy = words_of b in
    let r = value_bytes_ready b k (length out) (eqb-true code 0 t) in
    let (u, m, d) = standing (copy_value copy k) v (copy_number copy) n (copy_coordinator copy) c (rw (t, r.words) at e) in
    rw (t, u, m, d) refl)
    (λ t. absurd (standing_refused v n c code (rw t at e)))

pub readers_right : ReadersRight
readers_right =
    record { back = back; one = one; written = written; start = start; replay = replay; value = value; shown = shown }
