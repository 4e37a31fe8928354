-- G3: what is due, in the words of the requirements.
use Rattle.std.specs.Prelude.{ℕ, ltb, true, List, [], ◌∷◌, ◌≡◌}
use borrow.Author.Tests.{le-leb, leb-true, lt-ltb, ltb-true}
use Rattle.std.proofs.Common.{inl, inr}
use Rattle.kinds.specs.declared.Merger.{Merger}
use Rattle.kinds.specs.declared.RecordHead.{RecordHead}
use Rattle.laws.specs.Choice.{by_test, every_at}
use Rattle.laws.specs.Scan.{all_below_lem, all_below_at, all_below}
use Rattle.rules.specs.Merger.{has_head, head_in, is_due, is_due_at}
use Rattle.rules.specs.Merger.{source_at}
use Rattle.kinds.specs.Sizes as sizes
use Rattle.rules.specs.MergerLaws.{DueAt, IsDue}

due_at : (g : Merger) (number i : ℕ) → is_due_at g number i ≡ true → DueAt g number i
unfolding is_due_at has_head
due_at g number i e =
    by_test (ltb 0 (source_at g i).queued)
    (λ h. inl (ltb-true _ _ h))
    (λ h. inr (leb-true _ _ (rw h at e)))

at_due : (g : Merger) (number i : ℕ) → DueAt g number i → is_due_at g number i ≡ true
unfolding is_due_at has_head
at_due g number i (inl h) = rw (lt-ltb _ _ h)
at_due g number i (inr h) = by_test (ltb 0 (source_at g i).queued) (λ e. rw e) (λ e. rw (e, le-leb _ _ h))

pub is_due_lem : (g : Merger) (heads : List RecordHead) (least : ℕ) → is_due g heads least ≡ true → IsDue g heads least
unfolding is_due
is_due_lem g heads least e =
    let l = ltb least sizes.sites ∷ all_below (is_due_at g (head_in heads least).number) g.house.sites ∷ [] in
    record {
      some = ltb-true _ _ (every_at l 0 e);
      every = λ i h. due_at g (head_in heads least).number i
          (all_below_at (is_due_at g (head_in heads least).number) g.house.sites i (every_at l 1 e) h);
    }

pub due_is : (g : Merger) (heads : List RecordHead) (least : ℕ) → IsDue g heads least → is_due g heads least ≡ true
unfolding is_due
due_is g heads least d =
    rw (
      lt-ltb _ _ d.some,
      ← all_below_lem (is_due_at g (head_in heads least).number) g.house.sites
          (λ i h. at_due g (head_in heads least).number i (d.every i h)),
    )
