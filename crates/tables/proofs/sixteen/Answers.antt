-- The words that are copied are those from `at` on.
use Rattle.std.proofs.Common.{◌≡◌, ◌+◌, ℕ, List, ◌≤◌, length, take, drop, sym, ◌∙◌, arith}
use Rattle.std.proofs.lemmas.List.{get_or-take, get_or-drop, length-take-le, length-drop}
use Rattle.lent.specs.Rows.{rows_same, rows_read}
use Rattle.lent.specs.Layout.{words_from}
use Rattle.tables.proofs.sixteen.Goals as goal

copied : (w : List ℕ) (at n m : ℕ) → m ≡ n → at + n ≤ length w → take m (drop at w) ≡ words_from w at n
unfolding words_from
copied w at n m e h =
    rw e
    (sym (rows_read (take n (drop at w)) n 0 (length-take-le n (drop at w) (omega (arith, length-drop at w))))
    ∙ rows_same _ _ n (λ j l. get_or-take n (drop at w) j 0 l ∙ get_or-drop at w j 0))

pub returns : goal.returns
returns c = c.copy_from_slice.ensures.after ∙ copied c.args.w.now c.args.at _ _ (omega arith) c.requires
