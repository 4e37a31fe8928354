-- G5 and G6: what a call that is not refused says, by name; and one write more.
use Rattle.std.specs.Prelude.{ℕ, ◌+◌, ◌*◌, ◌≤◌, ◌<◌, ◌≡◌, refl, true, not, List, [], ◌∷◌, eqb, leb, ltb, length}
use Rattle.std.proofs.Common.{eqb-true, leb-false, ltb-true}
use Rattle.std.proofs.lemmas.Bool.{not-false}
use Rattle.laws.specs.Cause.{cause, clear_at}
use Rattle.laws.specs.Choice.{every_at}
use Rattle.laws.specs.Pair.{precedes}
use Rattle.laws.specs.Scan.{all_below_at, fold_more}
use Rattle.kinds.specs.Reason as reason
use Rattle.kinds.specs.Sizes as sizes
use Rattle.rules.specs.Value.{put_value, fits}
use Rattle.rules.specs.Record.{key_ascends, merged_ok, merged_tests, merged_write_ok, record_head, record_length, record_writes, write_key}
use Rattle.rules.specs.Record.{write_value}
use Rattle.rules.specs.RecordLaws.{merged_clear, merged_passed_good, shape_clear}
use Rattle.rules.specs.Copy.{copy_coordinator, copy_number, put_writes, replay_code, value_code}

-- A merged record: a header and its writes, each of a key that a copy has.
pub record MergedReady (m : List ℕ) : Type 0 where
  pub long : sizes.record_header ≤ length m
  pub fits : length m ≡ record_length (record_head m).count
  pub few : (record_head m).count ≤ sizes.merged_writes
  pub keys : (i : ℕ) → i < (record_head m).count → write_key (record_writes m) i < sizes.keys

write_low : (ws : List ℕ) (i : ℕ) → merged_write_ok ws i ≡ true → write_key ws i < sizes.keys
unfolding merged_write_ok
write_low ws i e = ltb-true _ _ (every_at (key_ascends ws i ∷ ltb (write_key ws i) sizes.keys ∷ fits (write_value ws i) ∷ []) 1 e)

pub merged_ready : (m : List ℕ) → merged_ok m ≡ true → MergedReady m
unfolding merged_ok record_head
merged_ready m e =
    let s = shape_clear m (every_at (merged_tests m) 0 e) in
    let g = merged_passed_good m e in
    record {
      long = s.long;
      fits = s.fits;
      few = (merged_clear (record_head m) g.head).few;
      keys = λ i h. write_low (record_writes m) i (all_below_at (merged_write_ok (record_writes m)) (record_head m).count i g.writes h);
    }

-- What replay takes.
pub record ReplayReady (copy m : List ℕ) : Type 0 where
  pub size : length copy ≡ sizes.copy
  pub merged : MergedReady m

pub replay_ready : (copy m : List ℕ) → replay_code copy m ≡ 0 → ReplayReady copy m
unfolding replay_code
replay_ready copy m e =
    let l =
    cause (not (eqb (length copy) sizes.copy)) reason.malformed
    ∷ cause (not (merged_ok m)) reason.malformed
    ∷ cause (not (precedes (copy_number copy) (copy_coordinator copy) (record_head m).number (record_head m).coordinator)) reason.behind
    ∷ []
    in
    record { size = eqb-true _ _ (not-false _ (clear_at l 0 refl e)); merged = merged_ready m (not-false _ (clear_at l 1 refl e)) }

-- What value takes.
pub record ValueReady (copy : List ℕ) (k : ℕ) : Type 0 where
  pub size : length copy ≡ sizes.copy
  pub low : k < sizes.keys

pub value_ready : (copy : List ℕ) (k : ℕ) → value_code copy k ≡ 0 → ValueReady copy k
unfolding value_code
value_ready copy k e =
    let l = cause (not (eqb (length copy) sizes.copy)) reason.malformed ∷ cause (leb sizes.keys k) reason.malformed ∷ [] in
    record { size = eqb-true _ _ (not-false _ (clear_at l 0 refl e)); low = leb-false _ _ (clear_at l 1 refl e) }

-- One write more.
pub put_more : (copy ws : List ℕ) (i : ℕ)
    → put_writes copy ws (i + 1) ≡ put_value (put_writes copy ws i) (sizes.copy_header + sizes.value * write_key ws i) (write_value ws i)
unfolding put_writes
put_more copy ws i = fold_more _ i copy
