-- Demand 3: the merger, its queues and the copies' words that a house keeps are those of a world. A line's call leaves those of the
-- world's step.
use Rattle.std.specs.Prelude.{ℕ, ◌+◌, ◌<◌, ◌≡◌, refl, List, eqb, length}
use Rattle.std.proofs.Common.{sym, ap, ◌∙◌, arith, eq-eqb, ne_eqb, eqb-true}
use Rattle.std.proofs.lemmas.Bool.{eqb-false}
use Rattle.laws.specs.Choice.{by_test}
use Rattle.laws.specs.Overlay.{overlay}
use Rattle.kinds.specs.Sizes as sizes
use Rattle.kinds.specs.declared.Answer.{Answer}
use Rattle.kinds.specs.declared.Merger.{Merger}
use Rattle.kinds.specs.declared.MergerOut.{MergerOut}
use Rattle.rules.specs.Merger.{merger_out_of}
use Rattle.rules.specs.World as world
use Rattle.rules.specs.World.{World, Call, step, merger_step, merge_step, copy_step, replay_step, upd}
use Rattle.routing.specs.Route.{copies}
use Rattle.lines.specs.declared.Command.{Command}
use Rattle.lines.specs.declared.Command.TheVariants as command
use Rattle.pieces.specs.Own.{own, Only, only_length, only_elsewhere}
use Rattle.stream.specs.Asked.{all_copies, merging_of, copying_of}

-- copy i, less 1, is the world's copy i + 1
pub record StreamMatches (w : World) (g : Merger) (queues tables : List ℕ) : Type 0 where
  pub merger : g ≡ w.merger
  pub queued : queues ≡ w.queues
  pub many : length tables ≡ all_copies
  pub copy : (i : ℕ) → i < copies → own sizes.copy i tables ≡ w.copy (i + 1)

-- The call of a merger's line in a list of calls, with the record m; and that of a line of copy s.
pub data OfMerger : Command → (out m : List ℕ) → Call → Type 0 where
  merge : (site : ℕ) (out m : List ℕ) → OfMerger (command.Merge site) out m (world.merge m)
  emit : (out m : List ℕ) → OfMerger command.Emit out m (world.emit out)

pub data OfCopy : Command → ℕ → List ℕ → Call → Type 0 where
  replay : (number s : ℕ) (m : List ℕ) → OfCopy (command.Replay number) s m (world.replay s m)
  value : (number key s : ℕ) (m : List ℕ) → OfCopy (command.Value number key) s m (world.value s key)

-- The merger, its queues, the reply and the buffer after a line of the merger are those of the world's step k.
pub record Stepped (w : World) (k : Call) (r : MergerOut) (queues tables out left : List ℕ) : Type 0 where
  pub stream : StreamMatches (step w k).world r.merger queues tables
  pub answer : r.answer ≡ (step w k).answer
  pub many : r.words ≡ length (step w k).words
  pub wrote : left ≡ overlay out (step w k).words

-- what a merger's line leaves of the queues and of the buffer, with the reply r
abbrev Merges : Command → Merger → (queues m out : List ℕ) → MergerOut → (queues' left : List ℕ) → Type 0
Merges c g queues m out r queues' left =
    let e = merging_of c g (length out) queues m in
    (r ≡ merger_out_of e) × ((queues' ≡ e.queues) × (left ≡ overlay out e.words))

merged : (w : World) (tables : List ℕ) (c : Command) (k : Call) (m out : List ℕ) (r : MergerOut) (queues' left : List ℕ)
    → StreamMatches w w.merger w.queues tables → OfMerger c out m k → Merges c w.merger w.queues m out r queues' left
    → Stepped w k r queues' tables out left
unfolding step merge_step merger_step merging_of merger_out_of
merged w tables c k m out r queues' left h (merge site _ _) (reply, (queued, wrote)) =
    record {
      stream = record { merger = ap (λ o. o.merger) reply; queued = queued; many = h.many; copy = h.copy };
      answer = ap (λ o. o.answer) reply;
      many = ap (λ o. o.words) reply;
      wrote = wrote;
    }
merged w tables c k m out r queues' left h (emit _ _) (reply, (queued, wrote)) =
    record {
      stream = record { merger = ap (λ o. o.merger) reply; queued = queued; many = h.many; copy = h.copy };
      answer = ap (λ o. o.answer) reply;
      many = ap (λ o. o.words) reply;
      wrote = wrote;
    }

pub merger_steps : (w : World) (g : Merger) (queues tables : List ℕ) (c : Command) (k : Call) (m out : List ℕ) (r : MergerOut)
    (queues' left : List ℕ) → StreamMatches w g queues tables → OfMerger c out m k → Merges c g queues m out r queues' left
    → Stepped w k r queues' tables out left
merger_steps w g queues tables c k m out r queues' left h of made =
    merged w tables c k m out r queues' left (rw (h.merger, h.queued) at h) of (rw (h.merger, h.queued) at made)

-- the words of copy i, less 1, are x afterwards, and the other copies' stay
replaced : (w v : World) (g : Merger) (queues tables tables' : List ℕ) (i : ℕ) (x : List ℕ) → StreamMatches w g queues tables → i < copies
    → own sizes.copy i tables' ≡ x → Only sizes.copy i tables tables' → v.merger ≡ w.merger → v.queues ≡ w.queues
    → v.copy (i + 1) ≡ x → ((j : ℕ) → (j ≡ i + 1 → ⊥) → v.copy j ≡ w.copy j) → StreamMatches v g queues tables'
replaced w v g queues tables tables' i x h low here only merger queued mine others =
    record {
      merger = h.merger ∙ sym merger;
      queued = h.queued ∙ sym queued;
      many = only_length sizes.copy i copies tables tables' low h.many only;
      copy = λ j q. by_test (eqb j i) (λ y. rw (eqb-true j i y) (here ∙ sym mine)) (λ z. other j q (eqb-false j i z));
    }
  where
    other : (j : ℕ) → j < copies → (j ≡ i → ⊥) → own sizes.copy j tables' ≡ v.copy (j + 1)
    other j q z =
        only_elsewhere sizes.copy i j copies tables tables' low h.many only z
        ∙ h.copy j q
        ∙ sym (others (j + 1) (λ e. z (omega (arith, e))))

copy_step_of : (w : World) (g : Merger) (queues tables tables' : List ℕ) (i : ℕ) (m : List ℕ) (a : Answer) (c : Command) (k : Call)
    → StreamMatches w g queues tables → i < copies → OfCopy c (i + 1) m k → a ≡ (copying_of c (own sizes.copy i tables) m).answer
    → own sizes.copy i tables' ≡ (copying_of c (own sizes.copy i tables) m).copy → Only sizes.copy i tables tables'
    → StreamMatches (step w k).world g queues tables' × (a ≡ (step w k).answer)
unfolding step replay_step copy_step copying_of upd
copy_step_of w g queues tables tables' i m a c k h low (replay number _ _) answer here only =
    let e = h.copy i low in (
      replaced w (step w k).world g queues tables tables' i _ h low (rw e at here) only refl refl
          (rw (eq-eqb (i + 1) (i + 1) refl)) (λ j n. rw (ne_eqb j (i + 1) n)),
      rw e at answer,
    )
copy_step_of w g queues tables tables' i m a c k h low (value number key _ _) answer here only =
    let e = h.copy i low in
    (replaced w w g queues tables tables' i _ h low (rw e at here) only refl refl refl (λ j n. refl), rw e at answer)

pub copy_steps : (w : World) (g : Merger) (queues tables tables' : List ℕ) (c : Command) (k : Call) (i : ℕ) (m : List ℕ) (a : Answer)
    → StreamMatches w g queues tables → i < copies → OfCopy c (i + 1) m k → a ≡ (copying_of c (own sizes.copy i tables) m).answer
    → own sizes.copy i tables' ≡ (copying_of c (own sizes.copy i tables) m).copy → Only sizes.copy i tables tables'
    → StreamMatches (step w k).world g queues tables' × (a ≡ (step w k).answer)
copy_steps w g queues tables tables' c k i m a h low o answer here only =
    copy_step_of w g queues tables tables' i m a c k h low o answer here only
