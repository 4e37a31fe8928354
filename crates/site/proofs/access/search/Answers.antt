-- Refused, or what the search of the history finds.
use Rattle.std.proofs.Common.{sym, ap, arith}
use Rattle.kinds.specs.declared.Answer.TheVariants.{Refused}
use Rattle.rules.specs.HouseLaws.{key_low}
use Rattle.rules.specs.Access.{search_of}
use Rattle.rules.specs.CallLaws.{key_clear}
use Rattle.rules.specs.ValidLaws.{valid_site}
use Rattle.lent.specs.Laws.{lent_lengths}
use Rattle.lent.specs.Lent.{site_of}
use Rattle.shell.proofs.Refusals.{stopped}
use Rattle.site.proofs.access.search.Goals as goal

pub returns-in-Err : goal.returns-in-Err
unfolding search_of
returns-in-Err c = rw (c.into.ensures, stopped _ _ c.in-Err.ensures) (ap Refused c.in-Err.ensures)

pub search-found-requires : goal.search-found-requires
search-found-requires c =
    let a = c.args in
    let s = site_of a.p a.live.now a.history.now in
    let clear = key_clear _ _ _ _ _ (sym c.in_default.ensures) in
    let valid = valid_site s clear.valid in
    let house = valid.house in
    let low = key_low s.house s.counters.own a.key (omega (arith, house.own_high, house.few_sites)) clear.here in
    let long = lent_lengths a.p a.live.now a.history.now clear.valid in
    record {
      slots = record { long = long.history; few = λ i l. (valid.entry i l).keys.few_wrote };
      base_len = (clear.whole, low);
    }

pub returns : goal.returns
unfolding search_of
returns c = rw (← c.in_default.ensures, c.search-found.ensures)
