-- The four tests in order: words of another length make no house, and the first two tests make the house that the others need.
use Rattle.std.proofs.Common.{◌≡◌, ℕ, ◌+◌, ◌-◌, ◌≤◌, Bool, true, sym, ap, ◌∙◌, arith}
use Rattle.laws.specs.Choice.{pick_self}
use Rattle.kinds.specs.declared.House.{House}
use Rattle.kinds.specs.declared.Counters.{Counters}
use Rattle.rules.specs.House.{GoodTable, house_ok, first_key, end_key, in_range}
use Rattle.rules.specs.HouseLaws.{house_passed}
use Rattle.rules.specs.Valid.{counters_ok, site_ok}
use Rattle.rules.specs.ValidLaws.{ValidHouse, valid_house, counters_own}
use Rattle.lent.specs.Read.{house_lengths}
use Rattle.keys.specs.Range.{RangeOf, range_rises}
use Rattle.valid.proofs.site_ok.Goals as goal

range_of : (o : House) (own first end : ℕ) → ValidHouse o own → GoodTable o.sites o.firsts → first ≡ first_key o own
    → end ≡ end_key o own → (first ≤ end) × RangeOf o own first (end - first)
unfolding in_range
range_of o own first end v t e f =
    let (rises, low) = range_rises o own t v.own_low v.own_high in
    let up : first ≤ end = rw (e, f) rises in
    let same : first + (end - first) ≡ end = omega arith in
    (up, record { here = rw (same, e, f) v.range; low = rw (same, f) low })

-- the house and the counters passed their tests,
passed : (o : House) (k : Counters) (r s : Bool) → r ≡ house_ok o → r ≡ true → s ≡ counters_ok o k → s ≡ true → ValidHouse o k.own
passed o k r s told t said u = valid_house o _ (sym told ∙ t) (counters_own o k (sym said ∙ u))

-- so the site has a range of keys
ranged : (o : House) (own first end : ℕ) (r : Bool) → ValidHouse o own → r ≡ house_ok o → r ≡ true → first ≡ first_key o own
    → end ≡ end_key o own → (first ≤ end) × RangeOf o own first (end - first)
ranged o own first end r v told t e f = range_of o own first end v (house_passed o (sym told ∙ t)).2 e f

pub returns-then-not-house_ok : goal.returns-then-not-house_ok
unfolding site_ok
returns-then-not-house_ok c = simp (← c.lent_house-house.ensures, sym c.house_ok.ensures ∙ c.if-not-house_ok.true)

pub returns-then-not-counters_ok : goal.returns-then-not-counters_ok
unfolding site_ok
returns-then-not-counters_ok c =
    simp (
      ← c.lent_house-house.ensures,
      sym c.house_ok.ensures ∙ c.if-not-house_ok.false,
      sym c.counters_ok.ensures ∙ c.if-not-counters_ok.true,
    )

pub first_key-first-requires : goal.first_key-first-requires
first_key-first-requires c =
    let v = passed _ _ _ _ c.house_ok.ensures c.if-not-house_ok.false c.counters_ok.ensures c.if-not-counters_ok.false in
    (v.own_low, omega (arith, v.own_high, v.few_sites))

pub end_key-requires : goal.end_key-requires
end_key-requires c =
    (passed _ _ _ _ c.house_ok.ensures c.if-not-house_ok.false c.counters_ok.ensures c.if-not-counters_ok.false).few_sites

pub overflow_sub-count : goal.overflow_sub-count
overflow_sub-count c =
    let v = passed _ _ _ _ c.house_ok.ensures c.if-not-house_ok.false c.counters_ok.ensures c.if-not-counters_ok.false in
    (ranged _ _ _ _ _ v c.house_ok.ensures c.if-not-house_ok.false c.first_key-first.ensures c.end_key.ensures).0

pub live_ok-requires : goal.live_ok-requires
live_ok-requires c =
    let v = passed _ _ _ _ c.house_ok.ensures c.if-not-house_ok.false c.counters_ok.ensures c.if-not-counters_ok.false in
    let good = ap house_ok (sym c.lent_house-house.ensures) ∙ sym c.house_ok.ensures ∙ c.if-not-house_ok.false in
    let range = ranged _ _ _ _ _ v c.house_ok.ensures c.if-not-house_ok.false c.first_key-first.ensures c.end_key.ensures in
    (record { valid = v; range = range.1 }, (house_lengths _ _ _ good).live)

pub returns-then-not-live_ok : goal.returns-then-not-live_ok
unfolding site_ok
returns-then-not-live_ok c =
    simp (
      ← c.lent_house-house.ensures,
      sym c.house_ok.ensures ∙ c.if-not-house_ok.false,
      sym c.counters_ok.ensures ∙ c.if-not-counters_ok.false,
      sym c.live_ok.ensures ∙ c.if-not-live_ok.true,
    )

pub history_ok-requires : goal.history_ok-requires
history_ok-requires c =
    let v = passed _ _ _ _ c.house_ok.ensures c.if-not-house_ok.false c.counters_ok.ensures c.if-not-counters_ok.false in
    let good = ap house_ok (sym c.lent_house-house.ensures) ∙ sym c.house_ok.ensures ∙ c.if-not-house_ok.false in
    let range = ranged _ _ _ _ _ v c.house_ok.ensures c.if-not-house_ok.false c.first_key-first.ensures c.end_key.ensures in
    (record { valid = v; range = range.1 }, (house_lengths _ _ _ good).history)

pub returns : goal.returns
unfolding site_ok
returns c =
    simp (
      ← c.lent_house-house.ensures,
      sym c.house_ok.ensures ∙ c.if-not-house_ok.false,
      sym c.counters_ok.ensures ∙ c.if-not-counters_ok.false,
      sym c.live_ok.ensures ∙ c.if-not-live_ok.false,
      ← c.history_ok.ensures,
      pick_self,
    )
