-- What a step of a part's course says: it is no refusal, and writes whole messages, none a VOTE of 5.
use Prim.Native.Nat.{ℕ, zero, suc, ◌+◌, ◌*◌}
use mathlib.Core.Path.{◌≡◌, refl, sym}
use mathlib.Core.Bool.{Bool, true, false}
use mathlib.Core.List.{List, [], append-nil}
use native.Mathlib.Omega.{arith}
use native.Mathlib.Numerals.{add-one}
use lib.Dec.{eqb, leb}
use lib.ListN.{length}
use Rattle.laws.specs.Choice.{by_test}
use Rattle.laws.specs.Scan.{any_below}
use Rattle.kinds.specs.Sizes as sizes
use Rattle.kinds.specs.Reason as reason
use Rattle.kinds.specs.Kind as kind
use Rattle.kinds.specs.declared.MessageHead.{MessageHead}
use Rattle.kinds.specs.declared.Sub.{Sub}
use Rattle.kinds.specs.declared.Turn.{Turn}
use Rattle.kinds.specs.declared.Site.{Site}
use Rattle.kinds.specs.declared.Answer.{Answer}
use Rattle.kinds.specs.declared.Answer.TheVariants.{Done, Committed, Aborted}
use Rattle.rules.specs.Message.{message_words, message_head, entry_count}
use Rattle.rules.specs.MessageLaws.{head_back, length_message}
use Rattle.rules.specs.Send.{is_recipient, head_to, words_to, messages_to}
use Rattle.rules.specs.SendLaws.{words_to_some, words_to_none, messages_none, messages_more}
use Rattle.rules.specs.Live.{all_heard}
use Rattle.rules.specs.Certify.{conflicts_with, uncertain_of, vote_of}
use Rattle.rules.specs.Answers.{is_refused}
use Rattle.rules.specs.Effect.{Change}
use Rattle.rules.specs.Course.{head_of, send_to, send_all, quietly, leaving, with_reply, enlist_step, abort_step, commit_step, decide_step}
use Rattle.rules.specs.Course.{cast_step, prepare_step, vote_step, prepared_step, certified_step}
use Rattle.rules.proofs.Protocol.Protocol.{Whole}
use Rattle.rules.proofs.Refine.RefineMail.{made_append, Made, none, one}

-- no VOTE of 5
abbrev pub Known : List ℕ → Type 0
Known m = (message_head m).kind ≡ kind.vote → (message_head m).argument ≡ reason.unknown → ⊥

-- One message, and one to each other participant.
pub made_message : (P : List ℕ → Type 0) (h : MessageHead) (es : List ℕ) → length es ≡ sizes.entry * h.count → P (message_words h es)
    → Made P (message_words h es)
unfolding message_words
made_message P h es e p =
    one {m = message_words h es} (sym (append-nil (message_words h es))) (sym (length_message h es e)) (omega arith) p none

module _ (P : List ℕ → Type 0) (h : MessageHead) (sent : List ℕ) (mask : ℕ) (es : List ℕ) (size : length es ≡ sizes.entry * h.count)
    (each : (i : ℕ) → is_recipient mask h.from i ≡ true → P (message_words (head_to h sent i) es)) where
  made_to : (i : ℕ) → Made P (words_to h sent mask es i)
  unfolding head_to
  made_to i =
      by_test (is_recipient mask h.from i)
      (λ e. rw (words_to_some h sent mask es i e) (made_message P (head_to h sent i) es size (each i e)))
      (λ e. rw (words_to_none h sent mask es i e) none)

  pub made_to_all : (k : ℕ) → Made P (messages_to h sent mask es k)
  made_to_all zero = rw (messages_none h sent mask es) none
  made_to_all (suc k) = rw (← add-one k, messages_more h sent mask es k) (made_append (made_to_all k) (made_to k))

-- What is said.
pub record Speaks (c : Change) : Type 0 where
  pub accepts : is_refused c.answer ≡ false
  pub known : Made Known c.words

pub quietly_speaks : (t : Turn) → Speaks (quietly t)
unfolding quietly
quietly_speaks t = record { accepts = refl; known = none }

pub to_speaks : (t : Turn) (k to clock v : ℕ) (es : List ℕ) → Whole es → (k ≡ kind.vote → v ≡ reason.unknown → ⊥)
    → Speaks (send_to t k to clock v es)
unfolding send_to head_of
to_speaks t k to clock v es w n = record { accepts = refl; known = made_message Known _ es w (rw (head_back _ es) n) }

all_speaks : (t : Turn) (a : Answer) (k clock v : ℕ) (es : List ℕ) → is_refused a ≡ false → Whole es → (k ≡ kind.vote → ⊥)
    → Speaks (send_all t a k clock v es)
unfolding send_all head_of head_to
all_speaks t a k clock v es e w n =
    record { accepts = e; known = made_to_all Known _ _ _ es w (λ i r. rw (head_back _ es) (λ x y. n x)) sizes.sites }

leaving_speaks : (b : Sub) (c : Change) → Speaks c → Speaks (leaving b c)
leaving_speaks b c x = record { accepts = x.accepts; known = x.known }

pub no_entries : Whole []
unfolding entry_count
no_entries = refl

-- The steps.
pub enlist_speaks : (t : Turn) (site : ℕ) → Speaks (enlist_step t site)
unfolding enlist_step
enlist_speaks t site = to_speaks _ kind.join site 0 t.sub.desk [] no_entries (λ e. omega arith)

pub abort_speaks : (t : Turn) (r : ℕ) → Speaks (abort_step t r)
unfolding abort_step
abort_speaks t r = leaving_speaks _ _ (all_speaks t (Aborted r) kind.abort 0 0 [] refl no_entries (λ e. omega arith))

pub prepare_speaks : (t : Turn) → Speaks (prepare_step t)
unfolding prepare_step
prepare_speaks t = all_speaks t Done kind.prepare _ _ [] refl no_entries (λ e. omega arith)

decide_speaks : (t : Turn) → Speaks (decide_step t)
unfolding decide_step commit_step
decide_speaks t =
    by_test (leb sizes.last t.counters.clock)
    (λ e. rw e (abort_speaks t reason.spent))
    (λ e. rw e (all_speaks _ (Committed (t.counters.clock + 1)) kind.commit _ 0 [] refl no_entries (λ e. omega arith)))

pub cast_speaks : (t : Turn) (v : ℕ) (es : List ℕ) → Whole es → Speaks (cast_step t v es)
unfolding cast_step
cast_speaks t v es w =
    by_test (eqb v 0)
    (λ e. by_test (all_heard t.counters.own 0 t.sub.course.mask)
    (λ f. rw (e, f) (decide_speaks _))
    (λ f. rw (e, f) (all_speaks _ Done kind.cert 0 0 es refl w (λ e. omega arith))))
    (λ e. rw e (abort_speaks t v))

pub vote_speaks : (t : Turn) (site v : ℕ) → Speaks (vote_step t site v)
unfolding vote_step
vote_speaks t site v =
    let c = with_reply t.sub.course site 0 0 in
    by_test (eqb v 0)
    (λ e. by_test (all_heard t.counters.own c.heard c.mask) (λ f. rw (e, f) (decide_speaks _)) (λ f. rw (e, f) (quietly_speaks _)))
    (λ e. rw e (abort_speaks t v))

pub prepared_speaks : (t : Turn) (to mask : ℕ) (lost : Bool) (es : List ℕ) → Whole es → Speaks (prepared_step t to mask lost es)
unfolding prepared_step
prepared_speaks t to mask lost es w =
    by_test lost
    (λ e. rw e (to_speaks _ kind.vote to _ reason.uncertain [] no_entries (λ x y. omega arith)))
    (λ e. rw e (to_speaks _ kind.conc to 0 0 es w (λ x. omega arith)))

pub certified_speaks : (t : Turn) (to v : ℕ) → (v ≡ reason.unknown → ⊥) → Speaks (certified_step t to v)
unfolding certified_step
certified_speaks t to v n =
    by_test (eqb v 0)
    (λ e. rw e (to_speaks _ kind.vote to _ 0 [] no_entries (λ x y. omega arith)))
    (λ e. rw e (to_speaks _ kind.vote to _ v [] no_entries (λ x y. n y)))

-- a vote is 0, 18 or 19
pub vote_known : (s : Site) (place : ℕ) (es : List ℕ) (n : ℕ) → vote_of s place es n ≡ reason.unknown → ⊥
unfolding vote_of
vote_known s place es n =
    by_test (any_below (conflicts_with s place es) n)
    (λ e. rw e (λ z. omega arith))
    (λ e. by_test (any_below (uncertain_of s es) n) (λ f. rw (e, f) (λ z. omega arith)) (λ f. rw (e, f) (λ z. omega arith)))
