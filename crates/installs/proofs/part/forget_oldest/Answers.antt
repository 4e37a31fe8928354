-- Below 32 installs nothing is forgotten; from then on the entry in the way is.
use mathlib.Core.Path.{◌≡◌, ap, ◌∙◌}
use borrow.Author.Tests.{le-leb, lt-leb}
use Rattle.kinds.specs.Sizes as sizes
use Rattle.kinds.specs.declared.Entry.{Entry}
use Rattle.lent.specs.Layout.{history_of}
use Rattle.installs.specs.Forgettable.{oldest}
use Rattle.installs.proofs.part.forget_oldest.Goals.{After-entry_at-e}
use Rattle.installs.proofs.part.forget_oldest.Goals as goal

-- the entry that is read is the oldest
read : (c : After-entry_at-e) → c.entry_at-e.result.keys ≡ oldest (history_of c.args.history.now) c.args.installs
read c = ap (λ (e : Entry). e.keys) c.entry_at-e.ensures ∙ rw c.next_slot.ensures

pub returns-then-installs : goal.returns-then-installs
returns-then-installs c = rw (lt-leb sizes.history c.args.installs c.if-installs.true)

pub forget_into-requires : goal.forget_into-requires
forget_into-requires c =
    let pre = c.requires in
    record {
      base_len = pre.history_len.1;
      wrote_le_writes = rw (read (goal.at.forget_into-requires c).After-entry_at-e) (pre.forgettable.few, pre.forgettable.low);
    }

pub returns : goal.returns
returns c =
    rw (le-leb sizes.history c.args.installs c.if-installs.false, ← read (goal.at.returns c).After-entry_at-e) c.forget_into.ensures
