-- The key was written, so it has a place below the count, and its value stands there.
use Rattle.std.proofs.Common.{◌≡◌, ℕ, ◌+◌, ◌<◌, true, sym, ◌∙◌, arith, ltb-true}
use Rattle.laws.specs.Overlay.{length_rest}
use Rattle.kinds.specs.Sizes as sizes
use Rattle.kinds.specs.Word as word
use Rattle.kinds.specs.declared.Keys.{Keys}
use Rattle.rules.specs.Keys.{key_place, wrote_key, wrote_value}
use Rattle.lent.specs.Layout.{keys_from}
use Rattle.lent.specs.Values.{values_at}
use Rattle.keys.proofs.Places.{some_place, place_below, place_rest}
use Rattle.keys.proofs.words.wrote_value_in.Goals as goal

placed : (b : Keys) (k : ℕ) → wrote_key b k ≡ true → key_place b.writes b.wrote k < b.wrote
unfolding wrote_key
placed b k t = ltb-true _ _ t

pub key_place-requires : goal.key_place-requires
unfolding keys_from
key_place-requires c =
    omega (arith, c.requires.lie, c.requires.few, length_rest c.args.w.now (c.args.o + word.keys_writes))

pub unwrap-place-requires : goal.unwrap-place-requires
unfolding keys_from
unwrap-place-requires c =
    let a = c.args in
    some_place _ _ _ (c.key_place.ensures.first ∙ place_rest a.w.now (a.o + word.keys_writes) _ a.k c.requires.few)
    (placed (keys_from a.w.now a.o) a.k c.requires.wrote)

pub overflow_mul-place : goal.overflow_mul-place
unfolding keys_from
overflow_mul-place c =
    omega (arith, place_below _ _ _ c.key_place.ensures.bound c.unwrap-place.ensures, c.requires.few)

pub overflow_add-o-3 : goal.overflow_add-o-3
unfolding keys_from
overflow_add-o-3 c =
    omega (arith, place_below _ _ _ c.key_place.ensures.bound c.unwrap-place.ensures, c.requires.few, c.requires.lie)

pub value_at-requires : goal.value_at-requires
unfolding keys_from
value_at-requires c =
    omega (arith, place_below _ _ _ c.key_place.ensures.bound c.unwrap-place.ensures, c.requires.few, c.requires.lie)

pub returns : goal.returns
unfolding wrote_value keys_from
returns c =
    let a = c.args in
    let low : c.unwrap-place.result < sizes.writes =
    omega (arith, place_below _ _ _ c.key_place.ensures.bound c.unwrap-place.ensures, c.requires.few) in
    let here = c.key_place.ensures.first ∙ place_rest a.w.now (a.o + word.keys_writes) _ a.k c.requires.few in
    c.value_at.ensures
    ∙ sym (values_at a.w.now (a.o + word.keys_values) sizes.writes _ low)
    ∙ rw (rw c.unwrap-place.ensures at here)
