-- The causes against a key that the part has not written, in their order.
use Rattle.std.proofs.Common.{ℕ, ◌≡◌, rules}
use borrow.Author.Tests.{tests}
use Rattle.kinds.specs.declared.Site.{Site}
use Rattle.kinds.specs.declared.Turn.{Turn}
use Rattle.kinds.specs.declared.Value.{Value}
use Rattle.rules.specs.Access.{write_code, write_code_at, long_code}
use Rattle.rules.specs.Desk.{write_limit}
use Rattle.rules.specs.Effect.{turn_at}
use Rattle.rules.specs.History.{is_forgotten, is_newer}
use Rattle.rules.specs.Live.{key_held}
use Rattle.rules.specs.ValidLaws.{valid_site}
use Rattle.lent.specs.Laws.{lent_lengths}
use Rattle.lent.specs.Lent.{site_of}
use Rattle.site.proofs.access.check_fresh.Goals as goal

-- the rule asks the turn's own snapshot, desk and count
by_turn : (s : Site) (place key : ℕ) (v : Value) (t : Turn) → t ≡ turn_at s place
    → write_code_at s place key v
    ≡ write_code (is_forgotten s.counters.installs t.sub.snapshot) (key_held s.live place key)
    (is_newer s.history s.counters.installs t.sub.snapshot key) (write_limit t.sub.desk) t.sub.keys.wrote v
unfolding write_code_at turn_at
by_turn s place key v t e = rw e

pub key_held-requires : goal.key_held-requires
key_held-requires c =
    let a = c.args in
    let s = site_of a.p a.live.now a.history.now in
    let valid = valid_site s c.requires.0.possible in
    record { live_len = (lent_lengths _ _ _ c.requires.0.possible).live; by_index = λ i l. (valid.part i l).keys.few_wrote }

pub is_newer-requires : goal.is_newer-requires
is_newer-requires c =
    let a = c.args in
    let s = site_of a.p a.live.now a.history.now in
    let valid = valid_site s c.requires.0.possible in
    record { long = (lent_lengths _ _ _ c.requires.0.possible).history; few = λ i l. (valid.entry i l).keys.few_wrote }

pub returns-then-is_forgotten : goal.returns-then-is_forgotten
unfolding write_code
returns-then-is_forgotten c =
    let a = c.args in
    rw (by_turn (site_of a.p a.live.now a.history.now) a.place a.key a.value a.t c.requires.1)
    (search (← c.is_forgotten.ensures, rules, tests))

pub returns-then-key_held : goal.returns-then-key_held
unfolding write_code
returns-then-key_held c =
    let a = c.args in
    rw (by_turn (site_of a.p a.live.now a.history.now) a.place a.key a.value a.t c.requires.1)
    (search (← c.is_forgotten.ensures, ← c.key_held.ensures, rules, tests))

pub returns-then-is_newer : goal.returns-then-is_newer
unfolding write_code
returns-then-is_newer c =
    let a = c.args in
    rw (by_turn (site_of a.p a.live.now a.history.now) a.place a.key a.value a.t c.requires.1)
    (search (← c.is_forgotten.ensures, ← c.key_held.ensures, ← c.is_newer.ensures, rules, tests))

pub returns-then-write_limit-t : goal.returns-then-write_limit-t
unfolding write_code
returns-then-write_limit-t c =
    let a = c.args in
    rw (by_turn (site_of a.p a.live.now a.history.now) a.place a.key a.value a.t c.requires.1)
    (search (← c.is_forgotten.ensures, ← c.key_held.ensures, ← c.is_newer.ensures, ← c.write_limit.ensures, rules, tests))

pub returns : goal.returns
unfolding write_code long_code
returns c =
    let a = c.args in
    rw (by_turn (site_of a.p a.live.now a.history.now) a.place a.key a.value a.t c.requires.1, c.check_long.ensures)
    (search (← c.is_forgotten.ensures, ← c.key_held.ensures, ← c.is_newer.ensures, ← c.write_limit.ensures, rules, tests))
