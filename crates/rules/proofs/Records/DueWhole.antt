-- Emit is never refused 16: the least head, where it is due, is whole.
use Prim.Native.Nat.{ℕ, ◌+◌, ◌<◌}
use mathlib.Core.Path.{◌≡◌, refl, sym, ap, ◌∙◌}
use mathlib.Core.Bool.{true, false}
use mathlib.Core.Logic.{inl, inr}
use mathlib.Core.List.{List, [], ◌∷◌}
use native.Mathlib.Omega.{arith}
use lib.Dec.{eqb}
use lib.ListN.{length}
use Rattle.kinds.specs.declared.House.{House}
use Rattle.laws.specs.Cause.{other_code}
use Rattle.laws.specs.Choice.{by_test, unset, set_not}
use Rattle.kinds.specs.Reason as reason
use Rattle.kinds.specs.declared.Entry.{Entry}
use Rattle.kinds.specs.declared.RecordHead.{RecordHead}
use Rattle.kinds.specs.declared.Merger.{Merger}
use Rattle.rules.specs.House.{in_mask}
use Rattle.rules.specs.Merger.{heads_of, head_in, has_part, is_due, is_whole, least_site, due_code, emit_due, emit_code, emit_of, emit_causes}
use Rattle.rules.specs.MergerLaws.{LeastOf, IsDue, WholeAt, has_part_lem, part_had, least_is, parts_whole}
use Rattle.rules.proofs.MergerLaws.{is_due_lem}
use Rattle.rules.specs.World.{World, step, merger_step}
use Rattle.rules.specs.Progress.{DueIsWhole}
use Rattle.rules.proofs.Refine.Refines.{part_head_of, count_is}
use Rattle.rules.proofs.Stream.Stream as stream
use Rattle.rules.proofs.Stream.Stream.{Stream}
use Rattle.rules.proofs.Stream.StreamReached.{Standing}
use Rattle.rules.proofs.Records.StreamWhole.{due_whole}
use Rattle.rules.proofs.Refine.RefineMerger.{StreamIs}
use Rattle.rules.proofs.Refine.RefineHeads.{head_is, due_is, mask_is, due_at, rank_part, part_rank}

-- The causes of emit: 16 only where the least head is due and not whole.
emit_other : (g : Merger) (queues : List ℕ) (room : ℕ) → emit_code g queues room ≡ reason.not_whole → ⊥
unfolding emit_code
emit_other g queues room e = other_code reason.not_whole (emit_causes g queues room) (λ z. omega arith) refl e

due_other : (g : Merger) (heads : List RecordHead) (least : ℕ) → (is_due g heads least ≡ true → is_whole g heads (head_in heads least) ≡ true)
    → due_code g heads least ≡ reason.not_whole → ⊥
unfolding due_code
due_other g heads least f =
    by_test (is_due g heads least)
    (λ d. rw (d, f d) (λ e. omega arith))
    (λ d. rw d (λ e. omega arith))

module _ {house : House} {w : World} {v : Stream} (x : StreamIs house w v) (z : Standing house v) where
  abbrev m : stream.Merger
  m = v.merger

  abbrev g : Merger
  g = w.merger

  abbrev heads : List RecordHead
  heads = heads_of w.queues g.house.sites

  module _ (k : ℕ) (l : LeastOf g heads g.house.sites k) (G : Entry) (r : List Entry) (q : m.queue (k + 1) ≡ G ∷ r) where
    whole_at : IsDue g heads k → (i : ℕ) → i < house.sites → WholeAt g heads (head_in heads k) i
    unfolding part_head_of
    whole_at d i b =
        go (m.queue (i + 1)) refl
        (due_whole x.refines.few z.invariant z.streamed (k + 1) G r (omega arith) q (i + 1) (omega arith)
        (due_at x z k l G r q d i b))
      where
        none : in_mask G.mask (i + 1) ≡ false → has_part g heads (head_in heads k) i ≡ false → WholeAt g heads (head_in heads k) i
        none e h = record {
          there = mask_is x z k l G r q (i + 1) ∙ e
              ∙ sym h;
          tx = λ t. absurd (set_not _ t h);
          mask = λ t. absurd (set_not _ t h);
        }

        go : (u : List Entry) → m.queue (i + 1) ≡ u → stream.WholeAt G (i + 1) u → WholeAt g heads (head_in heads k) i
        go [] f e = none e
            (unset _ (λ t. let y = (has_part_lem g heads (head_in heads k) i t).queued in
            omega (arith, (x.merger.source i b).queued, ap length f)))
        go (e ∷ u) f (inl (t, s)) =
            let h = head_is x z i b e u f in
            let y = due_is x z k l G r q in
            let o = part_had g heads (head_in heads k) i (rank_part x z k l G r q i b e u f s.0) in
            record { there = mask_is x z k l G r q (i + 1) ∙ t ∙ sym o; tx = λ o. rw (h, y) s.1; mask = λ o. rw (h, y) s.2 }
        go (e ∷ u) f (inr (t, n)) = none t (unset _ (λ o. n (part_rank x z k l G r q i b e u f (has_part_lem g heads (head_in heads k) i o))))

  pub due_whole_at : is_due g heads (least_site g w.queues) ≡ true → is_whole g heads (head_in heads (least_site g w.queues)) ≡ true
  due_whole_at e =
      let k = least_site g w.queues in
      let d = is_due_lem g heads k e in
      let l = least_is g heads g.house.sites x.merger.holds.clear.few d.some in
      let b : k < house.sites = omega (arith, l.below, count_is x.merger.house_is) in
      go k d l b (m.queue (k + 1)) refl
    where
      go : (k : ℕ) → IsDue g heads k → LeastOf g heads g.house.sites k → k < house.sites → (u : List Entry) → m.queue (k + 1) ≡ u
          → is_whole g heads (head_in heads k) ≡ true
      go k d l b [] f = absurd (omega (arith, l.queued, (x.merger.source k b).queued, ap length f))
      go k d l b (G ∷ r) f = parts_whole g heads (head_in heads k) (λ i h. whole_at k l G r f d i (rw x.merger.house_is at h))

  pub due_is_whole : DueIsWhole w
  unfolding step merger_step emit_of emit_due
  due_is_whole out =
      by_test (eqb (emit_code g w.queues (length out)) 0)
      (λ c. by_test (eqb (due_code g heads (least_site g w.queues)) 0)
      (λ d. rw (c, d) (λ e. let o : ◌≡◌ {A = ℕ} 0 1 = cc in omega arith))
      (λ d. rw (c, d) (λ e. due_other g heads (least_site g w.queues) due_whole_at cc)))
      (λ c. rw c (λ e. emit_other g w.queues (length out) cc))
