-- Refused by the code, else all words are 0.
use Rattle.std.proofs.Common.{◌≡◌, ℕ, ◌≤◌, List, length, refl, sym, arith}
use borrow.Author.Tests.{eqb-true, not-false}
use Rattle.laws.specs.Cause.{clear_at}
use Rattle.kinds.specs.Sizes as sizes
use Rattle.rules.specs.HouseLaws.{count_clear}
use Rattle.rules.specs.Merger.{merger_out_of, merger_start_causes, merger_start_code, merger_start_of}
use Rattle.merger.proofs.Causes.{refused_by, passed_by}
use Rattle.merger.proofs.start.Goals as goal

-- a start that is not refused has one first key for each of 1 to 8 sites
few_firsts : (sites : ℕ) (table : List ℕ) (given : ℕ) → merger_start_code sites table given ≡ 0 → length table ≤ sizes.sites
unfolding merger_start_code
few_firsts sites table given e =
    let l = merger_start_causes sites table given in
    let few = (count_clear sites (not-false _ (clear_at l 0 refl e))).1 in
    let long = eqb-true (length table) sites (not-false _ (clear_at l 1 refl e)) in
    omega arith

pub returns-in-Err : goal.returns-in-Err
unfolding merger_start_of merger_out_of
returns-in-Err c =
    let code = c.in-Err.ensures in
    rw (refused_by c.in-Err.cause _ code)
    (record { value = rw code at (rw c.fresh.ensures at c.refused.ensures); queues_after = refl })

pub house_of-requires : goal.house_of-requires
house_of-requires c = few_firsts _ _ _ (sym c.in_default.ensures)

pub returns : goal.returns
unfolding merger_start_of merger_out_of
returns c =
    rw (passed_by _ c.in_default.ensures)
    (record { value = rw (c.fresh-2.ensures, c.house_of.ensures) refl; queues_after = c.fill_words.ensures })
