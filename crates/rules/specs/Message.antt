-- M1 to M17 and Q10.3: messages. One layout gives what is written, what is read and what is refused.
use Rattle.std.specs.Prelude.{ℕ, ◌+◌, ◌-◌, ◌*◌, ◌/◌, ◌≡◌, List, [], ◌∷◌, ◌++◌, Bool, true, not, length, get_or, drop, ltb, leb, eqb}
use Rattle.laws.specs.Choice.{pick, every, some}
use Rattle.laws.specs.Scan.{all_below}
use Rattle.kinds.specs.Sizes as sizes
use Rattle.kinds.specs.Kind as kind
use Rattle.kinds.specs.Word as word
use Rattle.kinds.specs.Reason as reason
use Rattle.kinds.specs.declared.House.{House}
use Rattle.kinds.specs.declared.MessageHead.{MessageHead}
use Rattle.rules.specs.House.{is_site, is_tx, coordinator_of, in_mask, is_mask}
use Rattle.rules.specs.Desk.{is_desk}

-- The layout.

-- the offset of the entries: 10, or 0 for none
unfoldable pub entry_offset : ℕ → ℕ
entry_offset n = pick (eqb n 0) 0 sizes.message_header

abbrev pub message_length : ℕ → ℕ
message_length n = sizes.message_header + sizes.entry * n

abbrev pub head_words : MessageHead → List ℕ
head_words h =
    message_length h.count
    ∷ h.kind ∷ h.from ∷ h.to ∷ h.channel ∷ h.tx ∷ h.clock ∷ h.argument
    ∷ h.count ∷ entry_offset h.count ∷ []

-- header, then the words of the entries
unfoldable pub message_words : MessageHead → List ℕ → List ℕ
message_words h es = head_words h ++ es

-- entry i: transaction, participants, mark
abbrev pub entry_tx : List ℕ → ℕ → ℕ
entry_tx es i = get_or es (sizes.entry * i + word.entry_tx) 0

abbrev pub entry_mask : List ℕ → ℕ → ℕ
entry_mask es i = get_or es (sizes.entry * i + word.entry_mask) 0

abbrev pub entry_mark : List ℕ → ℕ → ℕ
entry_mark es i = get_or es (sizes.entry * i + word.entry_mark) 0

-- how many entries so many words are
unfoldable pub entry_count : List ℕ → ℕ
entry_count es = length es / sizes.entry

-- what is read
unfoldable pub message_head : List ℕ → MessageHead
message_head m =
    record {
      kind = get_or m word.kind 0;
      from = get_or m word.from 0;
      to = get_or m word.to 0;
      channel = get_or m word.channel 0;
      tx = get_or m word.message_tx 0;
      clock = get_or m word.clock 0;
      argument = get_or m word.argument 0;
      count = get_or m word.entry_count 0;
    }

unfoldable pub message_entries : List ℕ → List ℕ
message_entries m = drop sizes.message_header m

-- What a header must be.

-- JOINED, CONC and VOTE go to the transaction's coordinator, the others come from it
unfoldable pub to_coordinator : ℕ → Bool
to_coordinator k = some (eqb k kind.joined ∷ eqb k kind.conc ∷ eqb k kind.vote ∷ [])

unfoldable pub coordinator_end : MessageHead → ℕ
coordinator_end h = pick (to_coordinator h.kind) h.to h.from

-- only PREPARE, VOTE and COMMIT carry a clock
unfoldable pub carries_clock : ℕ → Bool
carries_clock k = some (eqb k kind.prepare ∷ eqb k kind.vote ∷ eqb k kind.commit ∷ [])

-- JOIN a desk; JOINED 0 or 12; PREPARE participants, both sites among them; VOTE 0, 5, 18 or 19; the others 0
unfoldable pub argument_ok : House → MessageHead → Bool
argument_ok o h =
    pick (eqb h.kind kind.join) (is_desk h.argument)
    (pick (eqb h.kind kind.joined) (some (eqb h.argument 0 ∷ eqb h.argument reason.full ∷ []))
    (pick (eqb h.kind kind.prepare) (every (is_mask o h.argument ∷ in_mask h.argument h.from ∷ in_mask h.argument h.to ∷ []))
    (pick (eqb h.kind kind.vote)
    (some (eqb h.argument 0 ∷ eqb h.argument reason.unknown ∷ eqb h.argument reason.conflict
    ∷ eqb h.argument reason.uncertain ∷ []))
    (eqb h.argument 0))))

-- at most 47 entries in a CONC, 376 in a CERT, none elsewhere
unfoldable pub most_entries : ℕ → ℕ
most_entries k = pick (eqb k kind.conc) sizes.conc_entries (pick (eqb k kind.cert) sizes.cert_entries 0)

-- kind, ends, transaction
abbrev pub ends_tests : House → MessageHead → List Bool
ends_tests o h =
    leb kind.join h.kind
    ∷ leb h.kind kind.abort
    ∷ is_site o h.from
    ∷ is_site o h.to
    ∷ not (eqb h.from h.to)
    ∷ is_tx o h.tx
    ∷ eqb (coordinator_of h.tx) (coordinator_end h)
    ∷ []

unfoldable pub ends_ok : House → MessageHead → Bool
ends_ok o h = every (ends_tests o h)

abbrev pub head_tests : House → MessageHead → List Bool
head_tests o h =
    ends_ok o h
    ∷ pick (carries_clock h.kind) true (eqb h.clock 0)
    ∷ argument_ok o h
    ∷ leb h.count (most_entries h.kind)
    ∷ []

unfoldable pub head_ok : House → MessageHead → Bool
head_ok o h = every (head_tests o h)

-- What the entries must be: ascending by transaction, participants of the house, mark 0 or 1.

-- the transaction of the entry before entry i, 0 before the first
unfoldable pub entry_before : List ℕ → ℕ → ℕ
entry_before es i = pick (eqb i 0) 0 (entry_tx es (i - 1))

-- what one entry says
unfoldable pub entry_possible : House → List ℕ → ℕ → Bool
entry_possible o es i = every (is_tx o (entry_tx es i) ∷ is_mask o (entry_mask es i) ∷ leb (entry_mark es i) 1 ∷ [])

unfoldable pub entry_ok : House → List ℕ → ℕ → Bool
entry_ok o es i = every (ltb (entry_before es i) (entry_tx es i) ∷ entry_possible o es i ∷ [])

-- The check: word 0 is the length, the count and the offset agree with it, and the values are good.
abbrev pub shape_tests : List ℕ → List Bool
shape_tests m =
    leb sizes.message_header (length m)
    ∷ eqb (get_or m word.length 0) (length m)
    ∷ eqb (length m) (message_length (get_or m word.entry_count 0))
    ∷ eqb (get_or m word.entry_offset 0) (entry_offset (get_or m word.entry_count 0))
    ∷ []

unfoldable pub message_shape : List ℕ → Bool
message_shape m = every (shape_tests m)

abbrev pub message_tests : House → List ℕ → List Bool
message_tests o m =
    message_shape m
    ∷ head_ok o (message_head m)
    ∷ all_below (entry_ok o (message_entries m)) (message_head m).count
    ∷ []

unfoldable pub message_ok : House → List ℕ → Bool
message_ok o m = every (message_tests o m)

-- a value of the layout
pub record GoodMessage (o : House) (h : MessageHead) (es : List ℕ) : Type 0 where
  pub size : length es ≡ sizes.entry * h.count
  pub head : head_ok o h ≡ true
  pub entries : all_below (entry_ok o es) h.count ≡ true
