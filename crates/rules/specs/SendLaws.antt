-- Laws of outgoing messages: they fit the buffer, and step the count of each recipient once.
use Rattle.std.specs.Prelude.{ℕ, zero, suc, ◌+◌, ◌*◌, ◌≤◌, ◌<◌, ◌≡◌, refl, List, [], ◌++◌, Bool, true, false, length, get_or, leb}
use Rattle.std.proofs.Common.{ap, ◌∙◌, ⊎_elim, eq-or-lt_of_le, arith, add-one, eq-eqb, leb-true, leb-false, length-append, length-set, get_or-set_same, get_or-set_other}
use Rattle.laws.specs.Choice.{pick, pick_same, by_test}
use Rattle.laws.specs.Scan.{fold_below, fold_more, split_last}
use Rattle.kinds.specs.Sizes as sizes
use Rattle.kinds.specs.declared.MessageHead.{MessageHead}
use Rattle.rules.specs.Message.{message_words, message_length}
use Rattle.rules.specs.MessageLaws.{length_message}
use Rattle.rules.specs.Send.{is_recipient, head_to, words_to, messages_to, step_count, step_recipients}

-- the sender is no recipient
pub sender_apart : (mask i : ℕ) → is_recipient mask (i + 1) i ≡ false
unfolding is_recipient
sender_apart mask i = rw (eq-eqb (i + 1) (i + 1) refl, pick_same)

pub words_to_some : (h : MessageHead) (sent : List ℕ) (mask : ℕ) (es : List ℕ) (i : ℕ) → is_recipient mask h.from i ≡ true
    → words_to h sent mask es i ≡ message_words (head_to h sent i) es
unfolding words_to
words_to_some h sent mask es i e = rw e

pub words_to_none : (h : MessageHead) (sent : List ℕ) (mask : ℕ) (es : List ℕ) (i : ℕ) → is_recipient mask h.from i ≡ false
    → words_to h sent mask es i ≡ []
unfolding words_to
words_to_none h sent mask es i e = rw e

pub messages_none : (h : MessageHead) (sent : List ℕ) (mask : ℕ) (es : List ℕ) → messages_to h sent mask es 0 ≡ []
unfolding messages_to fold_below
messages_none h sent mask es = refl

pub messages_more : (h : MessageHead) (sent : List ℕ) (mask : ℕ) (es : List ℕ) (k : ℕ)
    → messages_to h sent mask es (k + 1) ≡ messages_to h sent mask es k ++ words_to h sent mask es k
unfolding messages_to
messages_more h sent mask es k = fold_more (λ i ws. ws ++ words_to h sent mask es i) k []

-- a message of the longest kind
abbrev longest : ℕ
longest = message_length sizes.cert_entries

-- Messages fit the buffer: of eight sites at most seven are not the sender.
module _ (h : MessageHead) (sent : List ℕ) (mask : ℕ) (es : List ℕ) (size : length es ≡ sizes.entry * h.count)
    (few : h.count ≤ sizes.cert_entries) where
  one_fits : (i : ℕ) → length (words_to h sent mask es i) ≤ longest
  unfolding head_to
  one_fits i =
      by_test (is_recipient mask h.from i)
      (λ e. let l = length_message (head_to h sent i) es size in rw (words_to_some h sent mask es i e) (omega arith))
      (λ e. rw (words_to_none h sent mask es i e) (omega arith))

  more_length : (k : ℕ)
      → length (messages_to h sent mask es (k + 1)) ≡ length (messages_to h sent mask es k) + length (words_to h sent mask es k)
  more_length k = rw (messages_more h sent mask es k) (length-append (messages_to h sent mask es k) (words_to h sent mask es k))

  all_fit : (k : ℕ) → length (messages_to h sent mask es k) ≤ longest * k
  all_fit zero = rw (messages_none h sent mask es) (omega arith)
  all_fit (suc k) = rw (← add-one k) (omega (arith, all_fit k, one_fits k, more_length k))

  -- once the sender is passed, one fewer
  past_sender : (k : ℕ) → 1 ≤ h.from → h.from ≤ k → length (messages_to h sent mask es k) + longest ≤ longest * k
  past_sender zero l u = absurd (omega arith)
  past_sender (suc k) l u =
      ⊎_elim
      (λ (q : h.from ≡ suc k). let e : length (words_to h sent mask es k) ≡ 0 =
      ap length (words_to_none h sent mask es k (rw (q, ← add-one) (sender_apart mask k))) in
      rw (← add-one k) (omega (arith, all_fit k, more_length k)))
      (λ (q : h.from < suc k). rw (← add-one k) (omega (arith, past_sender k l (omega arith), one_fits k, more_length k)))
      (eq-or-lt_of_le u)

  pub messages_fit : (k : ℕ) → 1 ≤ h.from → h.from ≤ sizes.sites → k < sizes.sites
      → length (messages_to h sent mask es k) + length (words_to h sent mask es k) ≤ sizes.outgoing
  messages_fit k l u q =
      by_test (leb h.from (k + 1))
      (λ e. omega (arith, more_length k, past_sender (k + 1) l (leb-true _ _ e)))
      (λ e. omega (arith, more_length k, all_fit (k + 1), leb-false h.from (k + 1) e))

-- The counts: a step keeps those of the sites behind it, so each recipient's is stepped once.
pub steps_more : (sent : List ℕ) (mask sender k : ℕ)
    → step_recipients sent mask sender (k + 1)
    ≡ pick (is_recipient mask sender k) (step_count (step_recipients sent mask sender k) k) (step_recipients sent mask sender k)
unfolding step_recipients
steps_more sent mask sender k = fold_more (λ i l. pick (is_recipient mask sender i) (step_count l i) l) k sent

pub steps_none : (sent : List ℕ) (mask sender : ℕ) → step_recipients sent mask sender 0 ≡ sent
unfolding step_recipients fold_below
steps_none sent mask sender = refl

step_length : (b : Bool) (l : List ℕ) (i : ℕ) → length (pick b (step_count l i) l) ≡ length l
step_length true l i = length-set l i (get_or l i 0 + 1)
step_length false l i = refl

pub length_steps : (sent : List ℕ) (mask sender k : ℕ) → length (step_recipients sent mask sender k) ≡ length sent
length_steps sent mask sender zero = ap length (steps_none sent mask sender)
length_steps sent mask sender (suc k) =
    rw (← add-one k, steps_more sent mask sender k)
    (step_length (is_recipient mask sender k) (step_recipients sent mask sender k) k ∙ length_steps sent mask sender k)

step_other : (b : Bool) (l : List ℕ) (i j : ℕ) → (j ≡ i → ⊥) → get_or (pick b (step_count l i) l) j 0 ≡ get_or l j 0
step_other true l i j d = get_or-set_other l i j (get_or l i 0 + 1) 0 d
step_other false l i j d = refl

pub steps_behind : (sent : List ℕ) (mask sender k j : ℕ) → k ≤ j → get_or (step_recipients sent mask sender k) j 0 ≡ get_or sent j 0
steps_behind sent mask sender zero j h = rw (steps_none sent mask sender)
steps_behind sent mask sender (suc k) j h =
    rw (← add-one k, steps_more sent mask sender k)
    (step_other (is_recipient mask sender k) (step_recipients sent mask sender k) k j (λ q. omega arith)
    ∙ steps_behind sent mask sender k j (omega arith))

step_same : (b : Bool) (l : List ℕ) (i : ℕ) → i < length l → get_or (pick b (step_count l i) l) i 0 ≡ pick b (get_or l i 0 + 1) (get_or l i 0)
step_same true l i h = get_or-set_same l i (get_or l i 0 + 1) 0 h
step_same false l i h = refl

-- of the first k sites, a recipient's count is one more, another's as it was
pub steps_at : (sent : List ℕ) (mask sender k i : ℕ) → k ≤ length sent → i < k
    → get_or (step_recipients sent mask sender k) i 0 ≡ pick (is_recipient mask sender i) (get_or sent i 0 + 1) (get_or sent i 0)
steps_at sent mask sender zero i u h = absurd (omega arith)
steps_at sent mask sender (suc k) i u h =
    let l = step_recipients sent mask sender k in
    let b = is_recipient mask sender k in
    rw (← add-one k, steps_more sent mask sender k)
    (split_last h
    (λ (q : i ≡ k). rw q
    (step_same b l k (omega (arith, length_steps sent mask sender k)) ∙ rw (steps_behind sent mask sender k k (omega arith))))
    (λ (q : i < k). step_other b l k i (λ e. omega arith) ∙ steps_at sent mask sender k i (omega arith) q))
