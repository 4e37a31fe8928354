-- Each return is a cause of the list.
use Rattle.std.proofs.Common.{sym, ◌∙◌, arith}
use borrow.Author.Tests.{eq-eqb, ne_eqb}
use Rattle.rules.specs.HouseLaws.{count_clear}
use Rattle.rules.specs.Merger.{merger_start_code}
use Rattle.merger.proofs.check_start.Goals as goal
use Rattle.merger.proofs.check_start.Goals.{then-not-count_ok-via-then-not-count_ok}
use Rattle.merger.proofs.check_start.Goals.{then-not-count_ok-via-else-not-count_ok+then-firsts-sites}
use Rattle.merger.proofs.check_start.Goals.{then-not-count_ok-via-else-not-count_ok+else-firsts-sites+then-given-ne-QUEUES}

pub returns-then-not-count_ok : goal.returns-then-not-count_ok
unfolding merger_start_code
returns-then-not-count_ok c =
    elim c.then-not-count_ok.branch [
      | then-not-count_ok-via-then-not-count_ok w ↦ simp (sym c.count_ok.ensures ∙ w.if-not-count_ok.true)
      | then-not-count_ok-via-else-not-count_ok+then-firsts-sites w ↦
          simp (sym c.count_ok.ensures ∙ w.if-not-count_ok.false, ne_eqb _ _ w.if-firsts-sites.true)
      | then-not-count_ok-via-else-not-count_ok+else-firsts-sites+then-given-ne-QUEUES w ↦
          simp (
            sym c.count_ok.ensures ∙ w.if-not-count_ok.false,
            eq-eqb _ _ w.if-firsts-sites.false,
            ne_eqb _ _ w.if-given-ne-QUEUES.true,
          )
    ]

pub table_ok-requires : goal.table_ok-requires
table_ok-requires c =
    let (some, few) = count_clear _ (sym c.count_ok.ensures ∙ c.if-not-count_ok.false) in
    let long = c.if-firsts-sites.false in
    (some, few, omega arith)

pub returns-then-not-table_ok : goal.returns-then-not-table_ok
unfolding merger_start_code
returns-then-not-table_ok c =
    simp (
      sym c.count_ok.ensures ∙ c.if-not-count_ok.false,
      eq-eqb _ _ c.if-firsts-sites.false,
      eq-eqb _ _ c.if-given-ne-QUEUES.false,
      sym c.table_ok.ensures ∙ c.if-not-table_ok.true,
    )

pub returns : goal.returns
unfolding merger_start_code
returns c =
    simp (
      sym c.count_ok.ensures ∙ c.if-not-count_ok.false,
      eq-eqb _ _ c.if-firsts-sites.false,
      eq-eqb _ _ c.if-given-ne-QUEUES.false,
      sym c.table_ok.ensures ∙ c.if-not-table_ok.false,
    )
