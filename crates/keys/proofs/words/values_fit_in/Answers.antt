-- The value at hand is that of its place.
use Rattle.std.proofs.Common.{◌≡◌, ℕ, ◌+◌, ◌*◌, ◌<◌, ◌≤◌, Bool, List, get_or, sym, ap, ◌∙◌, arith, below_more}
use Rattle.laws.specs.Scan.{each_none, not_all_below, all_end}
use Rattle.kinds.specs.Sizes as sizes
use Rattle.kinds.specs.State.{fresh}
use Rattle.kinds.specs.declared.Value.{Value}
use Rattle.rules.specs.Value.{fits, value_at, values_fit}
use Rattle.lent.specs.Layout.{values_from}
use Rattle.lent.specs.Values.{values_at}
use Rattle.keys.proofs.words.values_fit_in.Goals as goal

looked : (w : List ℕ) (at n i : ℕ) (v : Value) (r : Bool) → n ≤ sizes.writes → i < n → v ≡ value_at w (at + sizes.value * i) → r ≡ fits v
    → fits (get_or (values_from w at sizes.writes) i fresh) ≡ r
looked w at n i v r few low e told =
    ap fits (values_at w at sizes.writes i (omega arith) ∙ sym e) ∙ sym told

pub loop-i-init : goal.loop-i-init
loop-i-init c = each_none _

pub returns-then-not-fits : goal.returns-then-not-fits
unfolding values_fit
returns-then-not-fits c =
    let told = looked _ _ _ _ _ _ c.requires.0 c.loop-i-test.true c.value_at.ensures c.fits.ensures in
    not_all_below _ _ c.loop-i.i c.loop-i-test.true (told ∙ c.if-not-fits.true)

pub loop-i-preserved : goal.loop-i-preserved
loop-i-preserved c =
    let told = looked _ _ _ _ _ _ c.requires.0 c.loop-i-test.true c.value_at.ensures c.fits.ensures in
    below_more _ _ c.loop-i.invariant (told ∙ c.if-not-fits.false)

pub returns : goal.returns
unfolding values_fit
returns c = all_end _ _ _ c.loop-i-test.false c.loop-i.invariant
