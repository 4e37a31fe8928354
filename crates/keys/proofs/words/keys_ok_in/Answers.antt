-- Each return is the first of the five tests that fails, or the last one's answer.
use Rattle.std.proofs.Common.{sym, ◌∙◌, le-leb}
use borrow.Author.Tests.{lt-leb}
use Rattle.laws.specs.Choice.{pick_self}
use Rattle.rules.specs.Keys.{keys_ok}
use Rattle.lent.specs.Layout.{keys_from}
use Rattle.keys.proofs.words.keys_ok_in.Goals as goal

pub returns-then-read-gt-READS : goal.returns-then-read-gt-READS
unfolding keys_ok keys_from
returns-then-read-gt-READS c = λ o own range. simp (lt-leb _ _ c.if-read-gt-READS.true)

pub returns-then-wrote-gt-WRITES : goal.returns-then-wrote-gt-WRITES
unfolding keys_ok keys_from
returns-then-wrote-gt-WRITES c =
    λ o own range. simp (le-leb _ _ c.if-read-gt-READS.false, lt-leb _ _ c.if-wrote-gt-WRITES.true)

pub returns-then-not-keys_at_in : goal.returns-then-not-keys_at_in
unfolding keys_ok keys_from
returns-then-not-keys_at_in c =
    λ o own range. simp (
      le-leb _ _ c.if-read-gt-READS.false,
      le-leb _ _ c.if-wrote-gt-WRITES.false,
      sym (c.keys_at_in.ensures o own range) ∙ c.if-not-keys_at_in.true,
    )

pub returns-then-not-keys_at_in-2 : goal.returns-then-not-keys_at_in-2
unfolding keys_ok keys_from
returns-then-not-keys_at_in-2 c =
    λ o own range. simp (
      le-leb _ _ c.if-read-gt-READS.false,
      le-leb _ _ c.if-wrote-gt-WRITES.false,
      sym (c.keys_at_in.ensures o own range) ∙ c.if-not-keys_at_in.false,
      sym (c.keys_at_in-2.ensures o own range) ∙ c.if-not-keys_at_in-2.true,
    )

pub returns : goal.returns
unfolding keys_ok keys_from
returns c =
    λ o own range. simp (
      le-leb _ _ c.if-read-gt-READS.false,
      le-leb _ _ c.if-wrote-gt-WRITES.false,
      sym (c.keys_at_in.ensures o own range) ∙ c.if-not-keys_at_in.false,
      sym (c.keys_at_in-2.ensures o own range) ∙ c.if-not-keys_at_in-2.false,
      ← c.values_fit_in.ensures,
      pick_self,
    )
