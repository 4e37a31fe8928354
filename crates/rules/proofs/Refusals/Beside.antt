-- Why the first cause is returned by the calls beside the list: the starts, the conversions and the calls on bytes.
use Prim.Native.Nat.{ℕ, ◌+◌, ◌*◌, ◌/◌, ◌%◌}
use mathlib.Core.Path.{◌≡◌, refl}
use mathlib.Core.Bool.{true, false}
use mathlib.Core.List.{List, [], ◌∷◌}
use native.Mathlib.Omega.{arith}
use borrow.Author.Tests.{ne_eqb}
use lib.Dec.{eqb}
use lib.ListN.{length}
use Rattle.laws.specs.Choice.{by_test}
use Rattle.laws.specs.Cause.{Cause, cause, code_of}
use Rattle.kinds.specs.Sizes as sizes
use Rattle.kinds.specs.Reason as reason
use Rattle.kinds.specs.declared.Answer.TheVariants.{Done, Paged, Offset}
use Rattle.rules.specs.Install.{start_code, start_causes, start_of}
use Rattle.rules.specs.Merger.{merger_start_code, merger_start_causes, merger_start_of}
use Rattle.rules.specs.Copy.{copy_start_causes, copy_start_of}
use Rattle.rules.specs.Page.{page_causes, page_code, page_of, offset_causes, offset_code, offset_of, pages_causes, pages_code, pages_of}
use Rattle.rules.specs.Reader.{InBytes, unless_refused, reader_start_causes, reader_start_code, reader_start_of, reader_replay_causes}
use Rattle.rules.specs.Reader.{reader_replay_code, reader_replay_of, reader_value_causes, reader_value_code, reader_value_of}
use Rattle.rules.specs.Reader.{record_bytes_causes, record_bytes_code, record_bytes_of}
use Rattle.rules.specs.ReaderLaws.{start_taken, replay_taken, value_taken}
use Rattle.rules.specs.Answers.{is_refused}
use Rattle.rules.specs.Refusals.{order, ByFirstIn, ByFirst, page_numbers, offset_numbers, pages_numbers}
use Rattle.rules.proofs.Refusals.By.{By, by_first_in, by_first, alone_by}

-- The starts.
pub start_by : (sites : ℕ) (table : List ℕ) (own base lists : ℕ)
    → ByFirst (start_of sites table own base lists).answer (start_causes sites table own base lists)
unfolding start_of start_code order
start_by sites table own base lists =
    let l = start_causes sites table own base lists in
    by_first _ l refl (alone_by l Done _ refl (λ z. rw z) (λ n. rw (ne_eqb _ 0 n)))

pub merger_start_by : (sites : ℕ) (table queues : List ℕ)
    → ByFirst (merger_start_of sites table queues).answer (merger_start_causes sites table (length queues))
unfolding merger_start_of merger_start_code order
merger_start_by sites table queues =
    let l = merger_start_causes sites table (length queues) in
    by_first _ l refl (alone_by l Done _ refl (λ z. rw z) (λ n. rw (ne_eqb _ 0 n)))

pub copy_start_by : (copy : List ℕ) → ByFirst (copy_start_of copy).answer (copy_start_causes copy)
unfolding copy_start_of order
copy_start_by copy =
    by_test (eqb (length copy) sizes.copy)
    (λ t. rw t (by_first _ (cause false reason.malformed ∷ []) refl
    (alone_by (cause false reason.malformed ∷ []) Done _ refl (λ z. refl) (λ n. absurd (n refl)))))
    (λ t. rw t (by_first _ (cause true reason.malformed ∷ []) refl (record { refused = λ n. refl; taken = λ z. absurd (omega arith) })))

-- The conversions, in their own orders.
pub page_by : (l offset : ℕ) → ByFirstIn page_numbers (page_of l offset) (page_causes l)
unfolding page_of page_code
page_by l offset =
    by_first_in page_numbers _ (page_causes l) refl refl
    (alone_by (page_causes l) (Paged (offset / l) (offset % l)) _ refl (λ z. rw z) (λ n. rw (ne_eqb _ 0 n)))

pub offset_by : (l page rest : ℕ) → ByFirstIn offset_numbers (offset_of l page rest) (offset_causes l page rest)
unfolding offset_of offset_code
offset_by l page rest =
    let causes = offset_causes l page rest in
    by_first_in offset_numbers _ causes refl refl
    (alone_by causes (Offset (page * l + rest)) _ refl (λ z. rw z) (λ n. rw (ne_eqb _ 0 n)))

pub pages_by : (l : ℕ) (offsets out : List ℕ)
    → ByFirstIn pages_numbers (pages_of l offsets out).answer (pages_causes l (length offsets) (length out))
unfolding pages_of pages_code
pages_by l offsets out =
    let causes = pages_causes l (length offsets) (length out) in
    by_first_in pages_numbers _ causes refl refl (alone_by causes Done _ refl (λ z. rw z) (λ n. rw (ne_eqb _ 0 n)))

-- The calls on bytes. One that no cause refuses answers what the call on words does, which no cause refuses there.
bytes_by : (l : List Cause) (b : List ℕ) (e : InBytes) → (code_of l ≡ 0 → is_refused e.answer ≡ false)
    → By (unless_refused (code_of l) b e).answer l
bytes_by l b e f = record { refused = λ n. rw (ne_eqb _ 0 n); taken = λ z. rw z (f z) }

pub reader_start_by : (b : List ℕ) → ByFirst (reader_start_of b).answer (reader_start_causes b)
unfolding reader_start_of reader_start_code order
reader_start_by b =
    let l = reader_start_causes b in
    by_first _ l refl (bytes_by l b _ (λ z. rw (start_taken b z) refl))

pub reader_replay_by : (b m : List ℕ) → ByFirst (reader_replay_of b m).answer (reader_replay_causes b m)
unfolding reader_replay_of reader_replay_code order
reader_replay_by b m =
    let l = reader_replay_causes b m in
    by_first _ l refl (bytes_by l b _ (λ z. rw (replay_taken b m z) refl))

pub reader_value_by : (b : List ℕ) (k : ℕ) (out : List ℕ) → ByFirst (reader_value_of b k out).answer (reader_value_causes b k (length out))
unfolding reader_value_of reader_value_code order
reader_value_by b k out =
    let l = reader_value_causes b k (length out) in
    by_first _ l refl (bytes_by l out _ (λ z. rw (value_taken b k (length out) z) refl))

pub record_bytes_by : (m out : List ℕ) → ByFirst (record_bytes_of m out).answer (record_bytes_causes m (length out))
unfolding record_bytes_of record_bytes_code order
record_bytes_by m out = let l = record_bytes_causes m (length out) in by_first _ l refl (bytes_by l out _ (λ z. refl))
