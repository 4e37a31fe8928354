-- Laws of the message layout: what is written passes the check and reads back; the check passes nothing else.
use Rattle.std.specs.Prelude.{ℕ, ◌*◌, ◌≤◌, ◌<◌, ◌≡◌, refl, List, [], ◌∷◌, true, length, get_or, leb, eqb}
use Rattle.std.proofs.Common.{sym, ◌∙◌, arith, leb-true, eqb-true, le-leb, eq-eqb, ne_eqb, length-drop}
use Rattle.std.proofs.lemmas.Bool.{eqb-false, not-true}
use Rattle.laws.specs.Choice.{every_at, by_test}
use Rattle.laws.specs.Overlay.{front_rest}
use Rattle.kinds.specs.Sizes as sizes
use Rattle.kinds.specs.Kind as kind
use Rattle.kinds.specs.Word as word
use Rattle.kinds.specs.declared.House.{House}
use Rattle.kinds.specs.declared.MessageHead.{MessageHead}
use Rattle.rules.specs.House.{is_site, is_tx, coordinator_of}
use Rattle.rules.specs.Message.{entry_offset, message_length, message_words, message_head, message_entries, coordinator_end, argument_ok}
use Rattle.rules.specs.Message.{most_entries, ends_tests, ends_ok, head_tests, head_ok, shape_tests, message_shape, message_tests, message_ok}
use Rattle.rules.specs.Message.{GoodMessage}

-- What a passed header says.
pub record SiteClear (o : House) (s : ℕ) : Type 0 where
  pub low : 1 ≤ s
  pub high : s ≤ o.sites

pub site_clear : (o : House) (s : ℕ) → is_site o s ≡ true → SiteClear o s
unfolding is_site
site_clear o s e =
    let l = leb 1 s ∷ leb s o.sites ∷ [] in
    record { low = leb-true _ _ (every_at l 0 e); high = leb-true _ _ (every_at l 1 e) }

pub record EndsClear (o : House) (h : MessageHead) : Type 0 where
  pub low_kind : kind.join ≤ h.kind
  pub high_kind : h.kind ≤ kind.abort
  pub from : is_site o h.from ≡ true
  pub to : is_site o h.to ≡ true
  pub apart : h.from ≡ h.to → ⊥
  pub tx : is_tx o h.tx ≡ true
  pub coordinator : coordinator_of h.tx ≡ coordinator_end h

pub ends_clear : (o : House) (h : MessageHead) → ends_ok o h ≡ true → EndsClear o h
unfolding ends_ok
ends_clear o h e =
    let l = ends_tests o h in
    record {
      low_kind = leb-true _ _ (every_at l 0 e);
      high_kind = leb-true _ _ (every_at l 1 e);
      from = every_at l 2 e;
      to = every_at l 3 e;
      apart = eqb-false _ _ (not-true _ (every_at l 4 e));
      tx = every_at l 5 e;
      coordinator = eqb-true _ _ (every_at l 6 e);
    }

pub record HeadClear (o : House) (h : MessageHead) : Type 0 where
  pub ends : EndsClear o h
  pub argument : argument_ok o h ≡ true
  pub few : h.count ≤ most_entries h.kind

pub head_clear : (o : House) (h : MessageHead) → head_ok o h ≡ true → HeadClear o h
unfolding head_ok
head_clear o h e =
    let l = head_tests o h in
    record {
      ends = ends_clear o h (every_at l 0 e);
      argument = every_at l 2 e;
      few = leb-true _ _ (every_at l 3 e);
    }

pub most_at_most : (k : ℕ) → most_entries k ≤ sizes.cert_entries
unfolding most_entries
most_at_most k =
    by_test (eqb k kind.conc) (λ p. rw p (omega arith))
    (λ p. by_test (eqb k kind.cert) (λ q. rw (p, q) (omega arith)) (λ q. rw (p, q) (omega arith)))

-- only a CONC and a CERT have entries
pub most_none : (k : ℕ) → k < kind.conc → most_entries k ≡ 0
unfolding most_entries
most_none k h = rw (ne_eqb k kind.conc (λ q. omega arith), ne_eqb k kind.cert (λ q. omega arith))

pub record ShapeClear (m : List ℕ) : Type 0 where
  pub long : sizes.message_header ≤ length m
  pub whole : get_or m word.length 0 ≡ length m
  pub fits : length m ≡ message_length (get_or m word.entry_count 0)
  pub offset : get_or m word.entry_offset 0 ≡ entry_offset (get_or m word.entry_count 0)

pub shape_clear : (m : List ℕ) → message_shape m ≡ true → ShapeClear m
unfolding message_shape
shape_clear m e =
    let l = shape_tests m in
    record {
      long = leb-true _ _ (every_at l 0 e);
      whole = eqb-true _ _ (every_at l 1 e);
      fits = eqb-true _ _ (every_at l 2 e);
      offset = eqb-true _ _ (every_at l 3 e);
    }

-- What is written reads back.
pub head_back : (h : MessageHead) (es : List ℕ) → message_head (message_words h es) ≡ h
unfolding message_head message_words
head_back h es = refl

pub entries_back : (h : MessageHead) (es : List ℕ) → message_entries (message_words h es) ≡ es
unfolding message_entries message_words
entries_back h es = refl

pub length_message : (h : MessageHead) (es : List ℕ) → length es ≡ sizes.entry * h.count
    → length (message_words h es) ≡ message_length h.count
unfolding message_words
length_message h es e = omega arith

shape_written : (h : MessageHead) (es : List ℕ) → length es ≡ sizes.entry * h.count → message_shape (message_words h es) ≡ true
unfolding message_shape message_words
shape_written h es e =
    let l : length (message_words h es) ≡ message_length h.count = length_message h es e in
    rw (
      le-leb sizes.message_header (length (message_words h es)) (omega arith),
      eq-eqb (message_length h.count) (length (message_words h es)) (sym l),
      eq-eqb (length (message_words h es)) (message_length h.count) l,
      eq-eqb (entry_offset h.count) (entry_offset h.count) refl,
    )

-- and passes the check
pub written_passes : (o : House) (h : MessageHead) (es : List ℕ) → GoodMessage o h es → message_ok o (message_words h es) ≡ true
unfolding message_ok
written_passes o h es g = rw (shape_written h es g.size, head_back h es, entries_back h es, g.head, g.entries)

-- What passes was written from what it reads as.
pub passed_words : (o : House) (m : List ℕ) → message_ok o m ≡ true → m ≡ message_words (message_head m) (message_entries m)
unfolding message_ok message_words message_head message_entries
passed_words o m e =
    let s = shape_clear m (every_at (message_tests o m) 0 e) in
    front_rest sizes.message_header 0 m s.long ∙ rw (s.whole ∙ s.fits, s.offset)

pub passed_good : (o : House) (m : List ℕ) → message_ok o m ≡ true → GoodMessage o (message_head m) (message_entries m)
unfolding message_ok message_head message_entries
passed_good o m e =
    let l = message_tests o m in
    let s = shape_clear m (every_at l 0 e) in
    record {
      size = rw length-drop (omega arith);
      head = every_at l 1 e;
      entries = every_at l 2 e;
    }
