-- The mark alone, else dependence here, of the keys read from both words.
use borrow.Author.Tests.{eq-eqb, ne_eqb}
use Rattle.laws.specs.Choice.{pick_self}
use Rattle.certify.proofs.vote.is_conflict.Goals as goal

pub returns-then-mark-eq-MARKED : goal.returns-then-mark-eq-MARKED
returns-then-mark-eq-MARKED c = simp (eq-eqb _ _ c.if-mark-eq-MARKED.true)

pub dependent-requires : goal.dependent-requires
dependent-requires c =
    let (own, other) = c.requires in
    rw (c.keys_at.ensures, c.keys_at-else-mark-eq-MARKED.ensures)
    (record { read_le_reads = (own.few.few_read, own.few.few_wrote); read_le_reads_2 = (other.few.few_read, other.few.few_wrote) })

pub returns-else-mark-eq-MARKED : goal.returns-else-mark-eq-MARKED
returns-else-mark-eq-MARKED c =
    simp (
      ne_eqb _ _ c.if-mark-eq-MARKED.false,
      ← c.keys_at.ensures,
      ← c.keys_at-else-mark-eq-MARKED.ensures,
      ← c.dependent.ensures,
      pick_self,
    )
