-- The abort of 12 or 19, or the request with its list.
use Prim.Native.Nat.{ℕ}
use mathlib.Core.Path.{◌≡◌, sym, ◌∙◌}
use mathlib.Core.Bool.{Bool, true, false}
use borrow.Author.Tests.{eq-eqb, ne_eqb}
use Rattle.kinds.specs.State.{sub_at}
use Rattle.kinds.specs.declared.Site.{Site}
use Rattle.kinds.specs.declared.Turn.{Turn}
use Rattle.rules.specs.Commit.{is_full, is_lost}
use Rattle.rules.specs.CommitLaws.{commit_full, commit_lost, commit_request, lists_kept, lists_lost, lists_made}
use Rattle.rules.specs.Effect.{turn_at}
use Rattle.rules.specs.History.{is_forgotten}
use Rattle.lent.specs.Laws.{lent_lengths}
use Rattle.lent.specs.Lent.{site_of}
use Rattle.saves.proofs.commit.commit_step.Goals as goal

-- the tests of the rule, by the turn's own course
is-full : (s : Site) (place : ℕ) (t : Turn) → t ≡ turn_at s place → (t.sub.course.reason ≡ 0 → ⊥) → is_full s place ≡ true
unfolding is_full turn_at
is-full s place t e n = let m = rw e at n in rw (ne_eqb (sub_at s place).course.reason 0 m)

not_full : (s : Site) (place : ℕ) (t : Turn) → t ≡ turn_at s place → t.sub.course.reason ≡ 0 → is_full s place ≡ false
unfolding is_full turn_at
not_full s place t e z = let y = rw e at z in rw (eq-eqb (sub_at s place).course.reason 0 y)

lost-is : (s : Site) (place : ℕ) (t : Turn) (b : Bool) → t ≡ turn_at s place → b ≡ is_forgotten t.counters.installs t.sub.snapshot
    → is_lost s place ≡ b
unfolding turn_at
lost-is s place t b e f = sym (rw e at f)

pub turn_at-t-requires : goal.turn_at-t-requires
turn_at-t-requires c = ((lent_lengths _ _ _ c.requires.placed.0.possible).live, c.requires.placed.0.low)

pub abort_step-requires : goal.abort_step-requires
abort_step-requires c = rw (c.turn_at-t.ensures c.args.history.now) c.requires.can_send_all

pub returns-then-t-ne0 : goal.returns-then-t-ne0
returns-then-t-ne0 c =
    let a = c.args in
    let s = site_of a.p a.live.now a.history.now in
    let turned = c.turn_at-t.ensures a.history.now in
    let full = is-full s a.place _ turned c.if-t-ne0.true in
    let e = commit_full s a.place full in
    record {
      value = rw (e, ← turned) c.abort_step.ensures.value;
      lists_after = sym (lists_kept s a.place a.lists.now full);
      out_after = rw (e, ← turned) c.abort_step.ensures.out_after;
    }

pub abort_step-requires-then-is_forgotten : goal.abort_step-requires-then-is_forgotten
abort_step-requires-then-is_forgotten c = rw (c.turn_at-t.ensures c.args.history.now) c.requires.can_send_all

pub returns-then-is_forgotten : goal.returns-then-is_forgotten
returns-then-is_forgotten c =
    let a = c.args in
    let s = site_of a.p a.live.now a.history.now in
    let turned = c.turn_at-t.ensures a.history.now in
    let listing = not_full s a.place _ turned c.if-t-ne0.false in
    let lost = lost-is s a.place _ _ turned c.is_forgotten.ensures ∙ c.if-is_forgotten.true in
    let e = commit_lost s a.place listing lost in
    let step = c.abort_step-then-is_forgotten.ensures in
    record {
      value = rw (e, ← turned) step.value;
      lists_after = sym (lists_lost s a.place a.lists.now listing lost);
      out_after = rw (e, ← turned) step.out_after;
    }

pub list_step-requires : goal.list_step-requires
list_step-requires c = c.requires

pub returns : goal.returns
returns c =
    let a = c.args in
    let s = site_of a.p a.live.now a.history.now in
    let turned = c.turn_at-t.ensures a.history.now in
    let unfull = not_full s a.place _ turned c.if-t-ne0.false in
    let kept = lost-is s a.place _ _ turned c.is_forgotten.ensures ∙ c.if-is_forgotten.false in
    let e = commit_request s a.place unfull kept in
    let step = c.list_step.ensures in
    record {
      value = rw e step.result_value;
      lists_after = rw (lists_made s a.place a.lists.now unfull kept) step.lists_after;
      out_after = rw e step.out_after;
    }
