-- How far a word is above `first`, where one below it wraps, says whether it is in the range.
use Rattle.std.proofs.Common.{◌≡◌, ℕ, ◌+◌, ◌-◌, ◌%◌, ◌^◌, ◌<◌, ◌≤◌, true, false, List, Fits, w64, get_or, ◌∙◌, arith, below_more}
use Rattle.laws.specs.Scan.{each_none, not_all_below, all_end}
use Rattle.kinds.specs.Sizes as sizes
use Rattle.rules.specs.House.{within}
use Rattle.lent.specs.Layout.{words_from}
use Rattle.lent.specs.Read.{words_at}
use Rattle.keys.specs.Range.{keys_within, inside, outside}
use Rattle.keys.proofs.words.keys_at_in.Goals as goal

back : (k first : ℕ) → k < 2 ^ 64 → first < 2 ^ 64 → ((k + (2 ^ 64 - first)) % 2 ^ 64 + first) % 2 ^ 64 ≡ k
back k first h l = omega arith

out : (first count : ℕ) (w : List ℕ) (at n i : ℕ) → i < n → n ≤ sizes.writes → first + count ≤ sizes.keys → Fits w64 (get_or w (at + i) 0)
    → count ≤ (get_or w (at + i) 0 + (2 ^ 64 - first)) % 2 ^ 64
    → within first (first + count) (get_or (words_from w at sizes.writes) i 0) ≡ false
out first count w at n i l few low fits h =
    rw (words_at w at sizes.writes i (omega arith))
    (outside first count _ _ low (omega arith) (back _ first (omega arith) (omega arith)) h)

in_it : (first count : ℕ) (w : List ℕ) (at n i : ℕ) → i < n → n ≤ sizes.writes → first + count ≤ sizes.keys → Fits w64 (get_or w (at + i) 0)
    → (get_or w (at + i) 0 + (2 ^ 64 - first)) % 2 ^ 64 < count
    → within first (first + count) (get_or (words_from w at sizes.writes) i 0) ≡ true
in_it first count w at n i l few low fits h =
    rw (words_at w at sizes.writes i (omega arith))
    (inside first count _ _ low (back _ first (omega arith) (omega arith)) h)

pub loop-i-init : goal.loop-i-init
loop-i-init c = each_none _

pub returns-then-count-above : goal.returns-then-count-above
returns-then-count-above c =
    let a = c.args in
    let i = c.loop-i.i in
    let low = c.loop-i-test.true in
    let far = out _ _ _ a.at _ i low c.requires.0 c.requires.2 (c.type_inv.w (a.at + i)) c.if-count-above.true in
    λ o own range. not_all_below _ _ i low far ∙ keys_within o own _ _ _ _ range

pub loop-i-preserved : goal.loop-i-preserved
loop-i-preserved c =
    let a = c.args in
    let i = c.loop-i.i in
    below_more _ _ c.loop-i.invariant
    (in_it _ _ _ a.at _ i c.loop-i-test.true c.requires.0 c.requires.2 (c.type_inv.w (a.at + i)) c.if-count-above.false)

pub returns : goal.returns
returns c = λ o own range. all_end _ _ _ c.loop-i-test.false c.loop-i.invariant ∙ keys_within o own _ _ _ _ range
