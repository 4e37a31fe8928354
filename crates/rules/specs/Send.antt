-- M8, M9 and M21: outgoing messages, each directly behind the one before it, by destination ascending.
-- Each ordered pair of sites counts its messages from 1.
use Rattle.std.specs.Prelude.{ℕ, ◌+◌, ◌<◌, List, [], ◌∷◌, ◌++◌, Bool, true, not, ◌≡◌, get_or, set, eqb, ltb}
use Rattle.std.proofs.Common.{ltb-true}
use Rattle.laws.specs.Choice.{pick, every}
use Rattle.laws.specs.Digits.{digit}
use Rattle.laws.specs.Scan.{all_below, fold_below, all_below_at}
use Rattle.kinds.specs.Sizes as sizes
use Rattle.kinds.specs.declared.MessageHead.{MessageHead}
use Rattle.rules.specs.Message.{message_words}

-- site i + 1 is a participant other than the sender
unfoldable pub is_recipient : ℕ → ℕ → ℕ → Bool
is_recipient mask sender i = every (eqb (digit mask i) 1 ∷ not (eqb (i + 1) sender) ∷ [])

-- the same header to site i + 1, with the next number of its channel
unfoldable pub head_to : MessageHead → List ℕ → ℕ → MessageHead
head_to h sent i =
    record {
      kind = h.kind;
      from = h.from;
      to = i + 1;
      channel = get_or sent i 0 + 1;
      tx = h.tx;
      clock = h.clock;
      argument = h.argument;
      count = h.count;
    }

-- what goes to site i + 1: the message, or nothing
unfoldable pub words_to : MessageHead → List ℕ → ℕ → List ℕ → ℕ → List ℕ
words_to h sent mask es i = pick (is_recipient mask h.from i) (message_words (head_to h sent i) es) []

-- what goes to each recipient among the first k sites, ascending
unfoldable pub messages_to : MessageHead → List ℕ → ℕ → List ℕ → ℕ → List ℕ
messages_to h sent mask es k = fold_below (λ i ws. ws ++ words_to h sent mask es i) k []

-- the counts after one message to site i + 1, and after one to each recipient
abbrev pub step_count : List ℕ → ℕ → List ℕ
step_count counts i = set counts i (get_or counts i 0 + 1)

unfoldable pub step_recipients : List ℕ → ℕ → ℕ → ℕ → List ℕ
step_recipients sent mask sender k = fold_below (λ i l. pick (is_recipient mask sender i) (step_count l i) l) k sent

-- no recipient's count would pass 2^64 − 1
unfoldable pub counts_low : List ℕ → ℕ → ℕ → Bool
counts_low sent mask sender = all_below (λ i. pick (is_recipient mask sender i) (ltb (get_or sent i 0) sizes.last) true) sizes.sites

abbrev pub CountsLow : List ℕ → ℕ → ℕ → Type 0
CountsLow sent mask sender = (i : ℕ) → i < sizes.sites → is_recipient mask sender i ≡ true → get_or sent i 0 < sizes.last

pub counts_low_lem : (sent : List ℕ) (mask sender : ℕ) → counts_low sent mask sender ≡ true → CountsLow sent mask sender
unfolding counts_low
counts_low_lem sent mask sender e i h r = ltb-true (get_or sent i 0) sizes.last (rw r at (all_below_at _ sizes.sites i e h))
