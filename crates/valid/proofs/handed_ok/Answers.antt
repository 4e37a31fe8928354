-- The length, the site, then the lists: a possible site has words of the right lengths, and they leave the house as it is.
use mathlib.Core.Path.{sym, ◌∙◌}
use native.Mathlib.Omega.{arith}
use borrow.Author.Tests.{eq-eqb, ne_eqb}
use Rattle.laws.specs.Choice.{pick_self}
use Rattle.rules.specs.Valid.{handed_ok}
use Rattle.rules.specs.ValidLaws.{valid_site}
use Rattle.lent.specs.Laws.{lent_lengths, lent_house_lem}
use Rattle.lent.specs.Read.{place_listed_lem}
use Rattle.valid.proofs.handed_ok.Goals as goal

pub returns-then-lists-ne-LISTS : goal.returns-then-lists-ne-LISTS
unfolding handed_ok
returns-then-lists-ne-LISTS c = simp (ne_eqb _ _ c.if-lists-ne-LISTS.true)

pub returns-then-not-site_ok : goal.returns-then-not-site_ok
unfolding handed_ok
returns-then-not-site_ok c = simp (eq-eqb _ _ c.if-lists-ne-LISTS.false, sym c.site_ok.ensures ∙ c.if-not-site_ok.true)

pub lists_ok-requires : goal.lists_ok-requires
lists_ok-requires c =
    let a = c.args in
    let good = sym c.site_ok.ensures ∙ c.if-not-site_ok.false in
    let lengths = lent_lengths a.p a.live.now a.history.now good in
    let v = valid_site _ good in
    record {
      few_sites = rw (lent_house_lem a.p.house a.live.now a.history.now lengths) at v.house.few_sites;
      live = lengths.live;
      whole = c.if-lists-ne-LISTS.false;
      few = λ i h.
          let k = (v.part i h).course in
          omega (arith, k.listed, k.heard_few, place_listed_lem a.p.seats a.live.now i h);
    }

pub returns : goal.returns
unfolding handed_ok
returns c =
    let a = c.args in
    let good = sym c.site_ok.ensures ∙ c.if-not-site_ok.false in
    let same = lent_house_lem a.p.house _ _ (lent_lengths a.p a.live.now a.history.now good) in
    simp (eq-eqb _ _ c.if-lists-ne-LISTS.false, good) (rw (same, ← c.lists_ok.ensures) (sym (pick_self c.lists_ok.result)))
