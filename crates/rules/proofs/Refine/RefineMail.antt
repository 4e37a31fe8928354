-- Words sent: they are messages behind one another, and each stands among those posted.
use Prim.Native.Nat.{ℕ, zero, suc, ◌+◌, ◌-◌, ◌≤◌, ◌<◌}
use mathlib.Core.Path.{◌≡◌, refl, sym, ap, ◌∙◌}
use mathlib.Core.Bool.{true, not}
use mathlib.Core.List.{List, [], ◌∷◌, ◌++◌, append-nil, append_assoc}
use native.Mathlib.Omega.{arith}
use native.Mathlib.Numerals.{add-one}
use lib.Dec.{eqb}
use lib.ListN.{length, get_or, length-append}
use lib.Seq.{take_at, drop_at, get_or-append_seam}
use Rattle.laws.specs.Choice.{every_at, by_test}
use Rattle.laws.specs.Digits.{digit}
use Rattle.kinds.specs.Sizes as sizes
use Rattle.kinds.specs.declared.House.{House}
use Rattle.kinds.specs.declared.Channels.{Channels}
use Rattle.kinds.specs.declared.MessageHead.{MessageHead}
use Rattle.kinds.specs.declared.Turn.{Turn}
use Rattle.kinds.specs.declared.Answer.{Answer}
use Rattle.rules.specs.House.{in_mask}
use Rattle.rules.specs.Message.{message_words, entry_count}
use Rattle.rules.specs.MessageLaws.{length_message}
use Rattle.rules.specs.Send.{is_recipient, head_to, words_to, messages_to}
use Rattle.rules.specs.SendLaws.{words_to_some, words_to_none, messages_none, messages_more}
use Rattle.rules.specs.Course.{head_of, send_to, send_all}
use Rattle.rules.specs.World.{split_words, messages_in}
use Rattle.rules.proofs.Lists.Tables.{All, a_nil, a_cons, upd₂, upd₂_same, upd₂_cases}
use Rattle.rules.proofs.Protocol.ProtocolTables.{Msg, m_abort}
use Rattle.rules.proofs.Protocol.Protocol.{others, Whole}
use Rattle.rules.proofs.Protocol.Invariants.{In}
use Rattle.rules.proofs.Protocol.Frames.{others_cases}
use Rattle.rules.proofs.Refine.Refines.{kind_of, tx_in, clock_in, argument_in, entries_in, encode, Posted, ChannelsAre}
use Rattle.rules.proofs.Refine.RefineSite.{others_row}
use Rattle.rules.proofs.Refine.RefineStep.{Grows}

-- messages behind one another: each begins with its length
pub data Made (P : List ℕ → Type 0) : List ℕ → Type 0 where
  none : Made P []
  one : {m ws vs : List ℕ} → vs ≡ m ++ ws → get_or m 0 0 ≡ length m → 0 < length m → P m → Made P ws → Made P vs

pub made_split : {P : List ℕ → Type 0} {vs : List ℕ} → Made P vs → (f : ℕ) → All P (split_words f vs)
unfolding split_words
made_split none zero = a_nil
made_split none (suc f) = a_nil
made_split (one e l q p k) zero = a_nil
made_split (one {m = []} e l q p k) (suc f) = absurd (omega arith)
made_split (one {m = n ∷ m} {ws = ws} e l q p k) (suc f) =
    rw (e, take_at (n ∷ m) ws n (sym l), drop_at (n ∷ m) ws n (sym l)) (a_cons p (made_split k f))

pub made_in : {P : List ℕ → Type 0} {vs : List ℕ} → Made P vs → All P (messages_in vs)
unfolding messages_in
made_in {vs = vs} k = made_split k (length vs)

pub made_append : {P : List ℕ → Type 0} {us vs : List ℕ} → Made P us → Made P vs → Made P (us ++ vs)
made_append none b = b
made_append {vs = vs} (one {m = m} {ws = ws} e l q p k) b = one (ap (λ z. z ++ vs) e ∙ append_assoc m ws vs) l q p (made_append k b)

-- A message begins with its length.
module _ (a b n : ℕ) (m : Msg) (whole : Whole (entries_in m)) where
  encode_length : get_or (encode a b n m) 0 0 ≡ length (encode a b n m)
  unfolding encode message_words head_of
  encode_length =
      sym (length_message (head_of (kind_of m) a b n (tx_in m) (clock_in m) (argument_in m) (entry_count (entries_in m))) (entries_in m) whole)

  encode_some : 0 < length (encode a b n m)
  unfolding encode message_words head_of
  encode_some = omega arith

-- The last message posted from a to b.
pub posted_new : (post new : ℕ → ℕ → List Msg) (a b n : ℕ) (m : Msg) → new a b ≡ post a b ++ (m ∷ []) → n ≡ length (post a b)
    → Posted new (encode a b (n + 1) m)
posted_new post new a b n m e q =
    record {
      from = a;
      to = b;
      place = n;
      low = rw e (omega (arith, length-append (post a b) (m ∷ [])));
      words = ap (encode a b (n + 1)) (sym (rw (e, q) (get_or-append_seam (post a b) m [] (m_abort 0))));
    }

-- one message from a to b
pub made_one : (post : ℕ → ℕ → List Msg) (a b n : ℕ) (m : Msg) → Whole (entries_in m) → n ≡ length (post a b)
    → Made (Posted (upd₂ post a b (post a b ++ (m ∷ [])))) (encode a b (n + 1) m)
made_one post a b n m whole q =
    one (sym (append-nil (encode a b (n + 1) m))) (encode_length a b (n + 1) m whole) (encode_some a b (n + 1) m whole)
    (posted_new post (upd₂ post a b (post a b ++ (m ∷ []))) a b n m (upd₂_same post a b (post a b ++ (m ∷ []))) q) none

-- as a step sends it
pub send_words : (u : Turn) (m : Msg) (a b : ℕ) → u.counters.own ≡ a → u.sub.tx ≡ tx_in m
    → (send_to u (kind_of m) b (clock_in m) (argument_in m) (entries_in m)).words ≡ encode a b (get_or u.channels.sent (b - 1) 0 + 1) m
unfolding send_to encode
send_words u m a b e f = rw (e, f)

pub grows_one : (post : ℕ → ℕ → List Msg) (a b : ℕ) (m : Msg) → Grows post (upd₂ post a b (post a b ++ (m ∷ [])))
grows_one post a b m =
    upd₂_cases (λ i j l. (k : List Msg) × (l ≡ post i j ++ k)) post a b _ (m ∷ [], refl) (λ i j o. ([], sym (append-nil (post i j))))

-- one message from a to each other participant
pub recipient_in : (mask a i : ℕ) → is_recipient mask a i ≡ true → in_mask mask (i + 1) ≡ true
unfolding is_recipient in_mask
recipient_in mask a i e =
    let q : i + 1 - 1 ≡ i = omega arith in
    rw q (every_at (eqb (digit mask i) 1 ∷ not (eqb (i + 1) a) ∷ []) 0 e)

abbrev pub head_all : ℕ → Msg → MessageHead
head_all a m = head_of (kind_of m) a 0 0 (tx_in m) (clock_in m) (argument_in m) (entry_count (entries_in m))

module _ {house : House} {c : Channels} {taken : ℕ → ℕ} (post : ℕ → ℕ → List Msg) (a mask : ℕ) (m : Msg) (whole : Whole (entries_in m))
    (members : (r : ℕ) → In mask r → r ≤ house.sites) (x : ChannelsAre house c (post a) taken) where
  words_one : (i : ℕ) → Made (Posted (others post a mask m)) (words_to (head_all a m) c.sent mask (entries_in m) i)
  unfolding head_to head_of encode
  words_one i =
      by_test (is_recipient mask a i)
      (λ e.
      let l = members (i + 1) (omega arith, recipient_in mask a i e) in
      let q : i + 1 - 1 ≡ i = omega arith in
      let n : get_or c.sent i 0 ≡ length (post a (i + 1)) = rw q at (x.sent_is (i + 1) (omega arith) l) in
      let o : others post a mask m a (i + 1) ≡ post a (i + 1) ++ (m ∷ []) = others_row post a mask m (i + 1) (omega arith) ∙ rw (q, e) in
      let z = get_or c.sent i 0 in
      rw (words_to_some (head_all a m) c.sent mask (entries_in m) i e)
      (one (sym (append-nil (encode a (i + 1) (z + 1) m))) (encode_length a (i + 1) (z + 1) m whole) (encode_some a (i + 1) (z + 1) m whole)
      (posted_new post (others post a mask m) a (i + 1) z m o n) none))
      (λ e. rw (words_to_none (head_all a m) c.sent mask (entries_in m) i e) none)

  pub made_all : (k : ℕ) → Made (Posted (others post a mask m)) (messages_to (head_all a m) c.sent mask (entries_in m) k)
  made_all zero = rw (messages_none (head_all a m) c.sent mask (entries_in m)) none
  made_all (suc k) = rw (← add-one k, messages_more (head_all a m) c.sent mask (entries_in m) k) (made_append (made_all k) (words_one k))

pub send_all_words : (u : Turn) (answer : Answer) (m : Msg) (a mask : ℕ) → u.counters.own ≡ a → u.sub.tx ≡ tx_in m
    → u.sub.course.mask ≡ mask
    → (send_all u answer (kind_of m) (clock_in m) (argument_in m) (entries_in m)).words
    ≡ messages_to (head_all a m) u.channels.sent mask (entries_in m) sizes.sites
unfolding send_all
send_all_words u answer m a mask e f g = rw (e, f, g)

pub grows_all : (post : ℕ → ℕ → List Msg) (a mask : ℕ) (m : Msg) → Grows post (others post a mask m)
grows_all post a mask m =
    others_cases (λ i j l. (k : List Msg) × (l ≡ post i j ++ k)) post a mask m (λ j l e n. (m ∷ [], refl))
    (λ i j. ([], sym (append-nil (post i j))))
