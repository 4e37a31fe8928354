-- Messages that a step writes pass the check: sites of the house that differ, a possible transaction, from or to its coordinator, and what
-- its kind allows it to say.
use Prim.Native.Nat.{ℕ, ◌+◌, ◌-◌, ◌^◌, ◌≤◌}
use mathlib.Core.Path.{◌≡◌, refl, sym}
use mathlib.Core.List.{List, [], ◌∷◌}
use mathlib.Core.Bool.{true, not}
use native.Mathlib.Omega.{arith}
use borrow.Author.Tests.{le-leb, leb-true, leb-false, eq-eqb, ne_eqb, eqb-false, not-true, ltb-true}
use lib.Dec.{leb, eqb}
use lib.ListN.{get_or}
use lib.Pow.{pow_mono}
use Rattle.laws.specs.Choice.{pick, by_test, every_at}
use Rattle.laws.specs.Scan.{all_below_lem}
use Rattle.laws.specs.Digits.{digit}
use Rattle.kinds.specs.Sizes as sizes
use Rattle.kinds.specs.Kind as kind
use Rattle.kinds.specs.declared.House.{House}
use Rattle.kinds.specs.declared.MessageHead.{MessageHead}
use Rattle.kinds.specs.declared.Turn.{Turn}
use Rattle.kinds.specs.declared.Answer.{Answer}
use Rattle.rules.specs.House.{is_site, is_tx, coordinator_of, in_mask, is_mask}
use Rattle.rules.specs.Message.{message_words, entry_count, coordinator_end, carries_clock, argument_ok, most_entries, ends_ok, head_ok}
use Rattle.rules.specs.Message.{entry_ok, message_ok}
use Rattle.rules.specs.MessageLaws.{written_passes}
use Rattle.rules.proofs.EntryLaws.{in_digit}
use Rattle.rules.specs.MaskLaws.{high_digit}
use Rattle.rules.specs.Send.{is_recipient, head_to}
use Rattle.rules.specs.Course.{head_of, send_to, send_all}
use Rattle.rules.proofs.Refine.RefineMail.{Made, recipient_in}
use Rattle.rules.proofs.Messages.Spoken.{made_message, made_to_all}
use Rattle.rules.proofs.Possible.EntriesMade.{Carried}

-- the check of any site of the house
abbrev pub Passes : House → List ℕ → Type 0
Passes o m = message_ok o m ≡ true

-- two sites of the house, and a possible transaction
pub record Between (o : House) (a b t : ℕ) : Type 0 where
  pub sender : is_site o a ≡ true
  pub receiver : is_site o b ≡ true
  pub apart : a ≡ b → ⊥
  pub tx : is_tx o t ≡ true

-- what a header of its kind may say
pub record Says (o : House) (h : MessageHead) : Type 0 where
  pub low : kind.join ≤ h.kind
  pub high : h.kind ≤ kind.abort
  pub coordinator : coordinator_of h.tx ≡ coordinator_end h
  pub clock : pick (carries_clock h.kind) true (eqb h.clock 0) ≡ true
  pub argument : argument_ok o h ≡ true

head_made : (o : House) (h : MessageHead) → Between o h.from h.to h.tx → Says o h → h.count ≤ most_entries h.kind
    → head_ok o h ≡ true
unfolding head_ok ends_ok
head_made o h b x few =
    rw (
      le-leb kind.join h.kind x.low,
      le-leb h.kind kind.abort x.high,
      b.sender,
      b.receiver,
      ne_eqb h.from h.to b.apart,
      b.tx,
      eq-eqb (coordinator_of h.tx) (coordinator_end h) x.coordinator,
      x.clock,
      x.argument,
      le-leb h.count (most_entries h.kind) few,
    )

message_passes : (o : House) (h : MessageHead) (es : List ℕ) → Between o h.from h.to h.tx → Says o h → h.count ≡ entry_count es
    → Carried o (most_entries h.kind) es → Passes o (message_words h es)
message_passes o h es b x n c =
    written_passes o h es (record {
      size = rw n c.whole;
      head = head_made o h b x (omega (arith, c.few));
      entries = sym (all_below_lem (entry_ok o es) h.count (λ i l. c.each i (omega arith)));
    })

-- One message.
pub to_passes : (o : House) (t : Turn) (k to clock v : ℕ) (es : List ℕ) → Between o t.counters.own to t.sub.tx
    → Says o (head_of k t.counters.own to (get_or t.channels.sent (to - 1) 0 + 1) t.sub.tx clock v (entry_count es))
    → Carried o (most_entries k) es → Made (Passes o) (send_to t k to clock v es).words
unfolding send_to head_of
to_passes o t k to clock v es b x c = made_message (Passes o) _ es c.whole (message_passes o _ es b x refl c)

-- One to each other participant.
mask_site : (o : House) (m r : ℕ) → is_mask o m ≡ true → in_mask m r ≡ true → r ≤ o.sites
unfolding is_mask
mask_site o m r h e =
    by_test (leb r o.sites)
    (λ t. leb-true r o.sites t)
    (λ f. let l = leb-false r o.sites f in
    let p : 2 ^ o.sites ≤ 2 ^ (r - 1) = pow_mono {i = o.sites} {j = r - 1} (omega arith) in
    absurd (omega (arith, in_digit m r e, high_digit m (r - 1) (omega (arith, ltb-true m (2 ^ o.sites) h)))))

recipient_apart : (mask a i : ℕ) → is_recipient mask a i ≡ true → a ≡ i + 1 → ⊥
unfolding is_recipient
recipient_apart mask a i e z = eqb-false (i + 1) a (not-true _ (every_at (eqb (digit mask i) 1 ∷ not (eqb (i + 1) a) ∷ []) 1 e)) (sym z)

pub recipient_site : (o : House) (mask a i : ℕ) → is_mask o mask ≡ true → is_recipient mask a i ≡ true → is_site o (i + 1) ≡ true
unfolding is_site
recipient_site o mask a i h e =
    rw (le-leb 1 (i + 1) (omega arith), le-leb (i + 1) o.sites (mask_site o mask (i + 1) h (recipient_in mask a i e)))

pub all_pass : (o : House) (t : Turn) (a : Answer) (k clock v : ℕ) (es : List ℕ) → is_site o t.counters.own ≡ true
    → is_mask o t.sub.course.mask ≡ true
    → is_tx o t.sub.tx ≡ true → Carried o (most_entries k) es
    → ((i : ℕ) → in_mask t.sub.course.mask (i + 1) ≡ true
    → Says o (head_to (head_of k t.counters.own 0 0 t.sub.tx clock v (entry_count es)) t.channels.sent i))
    → Made (Passes o) (send_all t a k clock v es).words
unfolding send_all head_of head_to
all_pass o t a k clock v es own house tx c says =
    let mask = t.sub.course.mask in
    made_to_all (Passes o) _ t.channels.sent mask es c.whole
    (λ i e.
    let b : Between o t.counters.own (i + 1) t.sub.tx =
    record { sender = own; receiver = recipient_site o mask _ i house e; apart = recipient_apart mask _ i e; tx = tx } in
    message_passes o _ es b (says i (recipient_in mask _ i e)) refl c)
    sizes.sites
