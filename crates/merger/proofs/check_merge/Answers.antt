-- A possible state has a possible house; what is neither part nor state is refused.
use Rattle.std.proofs.Common.{◌≡◌, true, false, sym, ◌∙◌}
use Rattle.rules.specs.Merger.{merge_code}
use Rattle.rules.specs.MergerClear.{merger_clear}
use Rattle.merger.proofs.check_merge.Goals as goal
use Rattle.merger.proofs.check_merge.Goals.{then-part_ok, else-part_ok}
use Rattle.merger.proofs.check_merge.Goals.{else-merger_ok-via-then-merger_ok+else-state_ok, else-merger_ok-via-else-merger_ok}

pub part_ok-requires : goal.part_ok-requires
part_ok-requires c = (merger_clear _ _ (sym c.merger_ok.ensures ∙ c.if-merger_ok.true)).house

pub returns-then-state_ok : goal.returns-then-state_ok
unfolding merge_code
returns-then-state_ok c =
    let state = sym c.merger_ok.ensures ∙ c.if-merger_ok.true in
    elim c.if-part_ok.branch [
      | then-part_ok w ↦ simp (state, sym c.part_ok.ensures ∙ w.if-part_ok.true)
      | else-part_ok w ↦
          simp (
            state,
            sym c.part_ok.ensures ∙ w.if-part_ok.false,
            sym w.state_ok.ensures ∙ sym w.value-is ∙ c.if-state_ok.true,
          )
    ]

pub returns : goal.returns
unfolding merge_code
returns c =
    elim c.else-merger_ok.branch [
      | else-merger_ok-via-then-merger_ok+else-state_ok w ↦
          let state = sym c.merger_ok.ensures ∙ w.if-merger_ok.true in
          elim w.if-part_ok.branch [
            | then-part_ok v ↦ let z : true ≡ false = sym v.if-part_ok.true ∙ sym v.value-is ∙ w.if-state_ok.false in cc
            | else-part_ok v ↦
                simp (
                  state,
                  sym w.part_ok.ensures ∙ v.if-part_ok.false,
                  sym v.state_ok.ensures ∙ sym v.value-is ∙ w.if-state_ok.false,
                )
          ]
      | else-merger_ok-via-else-merger_ok w ↦ simp (sym c.merger_ok.ensures ∙ w.if-merger_ok.false)
    ]
