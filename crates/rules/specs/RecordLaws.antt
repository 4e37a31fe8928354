-- Laws of the record layouts: what is written passes its check and reads back; the check passes nothing else; no words are a message and a
-- record.
use Rattle.std.specs.Prelude.{ℕ, ◌*◌, ◌≤◌, ◌<◌, ◌≡◌, refl, List, Bool, true, false, length, get_or, eqb}
use Rattle.std.proofs.Common.{sym, ◌∙◌, arith, leb-true, eqb-true, le-leb, eq-eqb, length-drop}
use Rattle.laws.specs.Choice.{every_at, by_test, set_not, unset}
use Rattle.laws.specs.Overlay.{front_rest}
use Rattle.kinds.specs.Sizes as sizes
use Rattle.kinds.specs.Kind as kinds
use Rattle.kinds.specs.Word as word
use Rattle.kinds.specs.declared.House.{House}
use Rattle.kinds.specs.declared.RecordHead.{RecordHead}
use Rattle.rules.specs.House.{is_site, is_tx, is_mask, in_mask, coordinator_of, whole_house}
use Rattle.rules.specs.Message.{message_head, message_ok, message_tests}
use Rattle.rules.specs.MessageLaws as message
use Rattle.rules.specs.Record.{write_offset, record_length, record_words, record_head, record_writes, pair_tests, pair_ok, part_head_tests}
use Rattle.rules.specs.Record.{part_head_ok, state_head_tests, state_head_ok, merged_head_tests, merged_head_ok, shape_tests, record_shape}
use Rattle.rules.specs.Record.{part_tests, part_ok, state_tests, state_ok, merged_tests, merged_ok, GoodPart, GoodState, GoodMerged}

-- The shape, which the three kinds share.
pub record ShapeClear (m : List ℕ) : Type 0 where
  pub long : sizes.record_header ≤ length m
  pub whole : get_or m word.length 0 ≡ length m
  pub fits : length m ≡ record_length (get_or m word.write_count 0)
  pub offset : get_or m word.write_offset 0 ≡ write_offset (get_or m word.write_count 0)

pub shape_clear : (m : List ℕ) → record_shape m ≡ true → ShapeClear m
unfolding record_shape
shape_clear m e =
    let l = shape_tests m in
    record {
      long = leb-true _ _ (every_at l 0 e);
      whole = eqb-true _ _ (every_at l 1 e);
      fits = eqb-true _ _ (every_at l 2 e);
      offset = eqb-true _ _ (every_at l 3 e);
    }

-- What a passed header says.
pub record PairClear (o : House) (r : RecordHead) : Type 0 where
  pub tx : is_tx o r.tx ≡ true
  pub coordinator : r.coordinator ≡ coordinator_of r.tx
  pub mask : is_mask o r.mask ≡ true

pub pair_clear : (o : House) (r : RecordHead) → pair_ok o r ≡ true → PairClear o r
unfolding pair_ok
pair_clear o r e =
    let l = pair_tests o r in
    record { tx = every_at l 0 e; coordinator = eqb-true _ _ (every_at l 1 e); mask = every_at l 2 e }

pub record PartClear (o : House) (r : RecordHead) : Type 0 where
  pub kind : r.kind ≡ kinds.part
  pub site : is_site o r.site ≡ true
  pub pair : PairClear o r
  pub among : in_mask r.mask r.site ≡ true
  pub few : r.count ≤ sizes.writes

pub part_clear : (o : House) (r : RecordHead) → part_head_ok o r ≡ true → PartClear o r
unfolding part_head_ok
part_clear o r e =
    let l = part_head_tests o r in
    record {
      kind = eqb-true _ _ (every_at l 0 e);
      site = every_at l 1 e;
      pair = pair_clear o r (every_at l 2 e);
      among = every_at l 3 e;
      few = leb-true _ _ (every_at l 4 e);
    }

pub record StateClear (o : House) (r : RecordHead) : Type 0 where
  pub kind : r.kind ≡ kinds.state
  pub site : is_site o r.site ≡ true
  pub coordinator : r.coordinator ≡ 0
  pub tx : r.tx ≡ 0
  pub mask : r.mask ≡ 0
  pub none : r.count ≡ 0

pub state_clear : (o : House) (r : RecordHead) → state_head_ok o r ≡ true → StateClear o r
unfolding state_head_ok
state_clear o r e =
    let l = state_head_tests o r in
    record {
      kind = eqb-true _ _ (every_at l 0 e);
      site = every_at l 1 e;
      coordinator = eqb-true _ _ (every_at l 2 e);
      tx = eqb-true _ _ (every_at l 3 e);
      mask = eqb-true _ _ (every_at l 4 e);
      none = eqb-true _ _ (every_at l 5 e);
    }

pub record MergedClear (r : RecordHead) : Type 0 where
  pub kind : r.kind ≡ kinds.merged
  pub site : r.site ≡ 0
  pub pair : PairClear whole_house r
  pub few : r.count ≤ sizes.merged_writes

pub merged_clear : (r : RecordHead) → merged_head_ok r ≡ true → MergedClear r
unfolding merged_head_ok
merged_clear r e =
    let l = merged_head_tests r in
    record {
      kind = eqb-true _ _ (every_at l 0 e);
      site = eqb-true _ _ (every_at l 1 e);
      pair = pair_clear whole_house r (every_at l 2 e);
      few = leb-true _ _ (every_at l 3 e);
    }

-- What is written reads back,
pub head_back : (r : RecordHead) (ws : List ℕ) → record_head (record_words r ws) ≡ r
unfolding record_head record_words
head_back r ws = refl

pub writes_back : (r : RecordHead) (ws : List ℕ) → record_writes (record_words r ws) ≡ ws
unfolding record_writes record_words
writes_back r ws = refl

pub length_record : (r : RecordHead) (ws : List ℕ) → length ws ≡ sizes.write * r.count
    → length (record_words r ws) ≡ record_length r.count
unfolding record_words
length_record r ws e = omega arith

-- and has the shape;
pub shape_written : (r : RecordHead) (ws : List ℕ) → length ws ≡ sizes.write * r.count → record_shape (record_words r ws) ≡ true
unfolding record_shape record_words
shape_written r ws e =
    let n = length (record_words r ws) in
    let l : n ≡ record_length r.count = length_record r ws e in
    rw (
      le-leb sizes.record_header n (omega arith),
      eq-eqb (record_length r.count) n (sym l),
      eq-eqb n (record_length r.count) l,
      eq-eqb (write_offset r.count) (write_offset r.count) refl,
    )

-- what has the shape was written from what it reads as.
pub shape_words : (m : List ℕ) → record_shape m ≡ true → m ≡ record_words (record_head m) (record_writes m)
unfolding record_words record_head record_writes
shape_words m e =
    let s = shape_clear m e in
    front_rest sizes.record_header 0 m s.long ∙ rw (s.whole ∙ s.fits, s.offset)

pub shape_size : (m : List ℕ) → record_shape m ≡ true → length (record_writes m) ≡ sizes.write * (record_head m).count
unfolding record_head record_writes
shape_size m e = let s = shape_clear m e in rw length-drop (omega arith)

-- Part records.
pub part_written_passes : (o : House) (r : RecordHead) (ws : List ℕ) → GoodPart o r ws → part_ok o (record_words r ws) ≡ true
unfolding part_ok
part_written_passes o r ws g = rw (shape_written r ws g.size, head_back r ws, writes_back r ws, g.head, g.writes)

pub part_shape : (o : House) (m : List ℕ) → part_ok o m ≡ true → record_shape m ≡ true
unfolding part_ok
part_shape o m e = every_at (part_tests o m) 0 e

pub part_passed_words : (o : House) (m : List ℕ) → part_ok o m ≡ true → m ≡ record_words (record_head m) (record_writes m)
part_passed_words o m e = shape_words m (part_shape o m e)

pub part_passed_good : (o : House) (m : List ℕ) → part_ok o m ≡ true → GoodPart o (record_head m) (record_writes m)
unfolding part_ok
part_passed_good o m e =
    record {
      size = shape_size m (part_shape o m e);
      head = every_at (part_tests o m) 1 e;
      writes = every_at (part_tests o m) 2 e;
    }

-- State records.
pub state_written_passes : (o : House) (r : RecordHead) (ws : List ℕ) → GoodState o r ws → state_ok o (record_words r ws) ≡ true
unfolding state_ok
state_written_passes o r ws g = rw (shape_written r ws g.size, head_back r ws, g.head)

pub state_shape : (o : House) (m : List ℕ) → state_ok o m ≡ true → record_shape m ≡ true
unfolding state_ok
state_shape o m e = every_at (state_tests o m) 0 e

pub state_passed_words : (o : House) (m : List ℕ) → state_ok o m ≡ true → m ≡ record_words (record_head m) (record_writes m)
state_passed_words o m e = shape_words m (state_shape o m e)

pub state_passed_good : (o : House) (m : List ℕ) → state_ok o m ≡ true → GoodState o (record_head m) (record_writes m)
unfolding state_ok
state_passed_good o m e =
    record {
      size = shape_size m (state_shape o m e);
      head = every_at (state_tests o m) 1 e;
    }

-- Merged records.
pub merged_written_passes : (r : RecordHead) (ws : List ℕ) → GoodMerged r ws → merged_ok (record_words r ws) ≡ true
unfolding merged_ok
merged_written_passes r ws g = rw (shape_written r ws g.size, head_back r ws, writes_back r ws, g.head, g.writes)

merged_shape : (m : List ℕ) → merged_ok m ≡ true → record_shape m ≡ true
unfolding merged_ok
merged_shape m e = every_at (merged_tests m) 0 e

pub merged_passed_words : (m : List ℕ) → merged_ok m ≡ true → m ≡ record_words (record_head m) (record_writes m)
merged_passed_words m e = shape_words m (merged_shape m e)

pub merged_passed_good : (m : List ℕ) → merged_ok m ≡ true → GoodMerged (record_head m) (record_writes m)
unfolding merged_ok
merged_passed_good m e =
    record {
      size = shape_size m (merged_shape m e);
      head = every_at (merged_tests m) 1 e;
      writes = every_at (merged_tests m) 2 e;
    }

-- No words are both. A message of a kind below CONC has no entries, so it is 10 words long and word 8 is 0; a record of which word 8 is 0
-- is 9 words long.
entryless : (o : House) (m : List ℕ) → get_or m word.kind 0 < kinds.conc → message_ok o m ≡ true
    → (length m ≡ 10) × (get_or m word.write_offset 0 ≡ 0)
unfolding message_ok message_head
entryless o m k e =
    let s = message.shape_clear m (every_at (message_tests o m) 0 e) in
    let h = message.head_clear o (message_head m) (every_at (message_tests o m) 1 e) in
    let z = message.most_none (get_or m word.kind 0) k in
    (omega arith, omega arith)

writeless : (m : List ℕ) → record_shape m ≡ true → get_or m word.write_offset 0 ≡ 0 → length m ≡ 9
unfolding write_offset
writeless m e z =
    let s = shape_clear m e in
    let n = get_or m word.write_count 0 in
    by_test (eqb n 0)
    (λ q. omega (arith, eqb-true n 0 q))
    (λ q. absurd (let f = rw q at s.offset in omega arith))

-- what has a record's shape and kind is no message
pub record_no_message : (o : House) (m : List ℕ) → record_shape m ≡ true → get_or m word.kind 0 < kinds.conc → message_ok o m ≡ false
record_no_message o m s k =
    by_test (message_ok o m)
    (λ e. let p = entryless o m k e in absurd (omega (arith, writeless m s p.1)))
    (λ e. e)

pub part_no_message : (o p : House) (m : List ℕ) → part_ok o m ≡ true → message_ok p m ≡ false
unfolding record_head
part_no_message o p m e =
    record_no_message p m (part_shape o m e) (omega (arith, (part_clear o (record_head m) (part_passed_good o m e).head).kind))

pub state_no_message : (o p : House) (m : List ℕ) → state_ok o m ≡ true → message_ok p m ≡ false
unfolding record_head
state_no_message o p m e =
    record_no_message p m (state_shape o m e) (omega (arith, (state_clear o (record_head m) (state_passed_good o m e).head).kind))

pub merged_no_message : (p : House) (m : List ℕ) → merged_ok m ≡ true → message_ok p m ≡ false
unfolding record_head
merged_no_message p m e =
    record_no_message p m (merged_shape m e) (omega (arith, (merged_clear (record_head m) (merged_passed_good m e).head).kind))

-- and the other way round
pub record MessageAlone (o : House) (m : List ℕ) : Type 0 where
  pub part : part_ok o m ≡ false
  pub state : state_ok o m ≡ false
  pub merged : merged_ok m ≡ false

apart : (a b : Bool) → (a ≡ true → b ≡ false) → b ≡ true → a ≡ false
apart a b f e = unset a (λ q. set_not b e (f q))

pub message_no_record : (o p : House) (m : List ℕ) → message_ok p m ≡ true → MessageAlone o m
message_no_record o p m e =
    record {
      part = apart (part_ok o m) (message_ok p m) (part_no_message o p m) e;
      state = apart (state_ok o m) (message_ok p m) (state_no_message o p m) e;
      merged = apart (merged_ok m) (message_ok p m) (merged_no_message p m) e;
    }
