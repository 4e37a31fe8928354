-- The own write, refused, or the version of the snapshot with the key among those read.
use mathlib.Core.Path.{◌≡◌, sym, ap, ◌∙◌, refl}
use mathlib.Core.Bool.{true, false}
use mathlib.Core.List.{List, []}
use Prim.Native.Nat.{ℕ, ◌<◌}
use Rattle.kinds.specs.Sizes as sizes
use Rattle.kinds.specs.State.{with_keys}
use Rattle.kinds.specs.declared.Value.{Value}
use Rattle.kinds.specs.declared.Keys.{Keys}
use Rattle.kinds.specs.declared.Search.{Search}
use Rattle.kinds.specs.declared.Site.{Site}
use Rattle.kinds.specs.declared.Turn.{Turn}
use Rattle.kinds.specs.declared.Answer.TheVariants.{Found}
use Rattle.rules.specs.Access.{read_at, read_code, read_version}
use Rattle.rules.specs.CallLaws.{read_clear}
use Rattle.rules.specs.Course.{with_sub_of}
use Rattle.rules.specs.Effect.{Change, changed, turn_at, unless}
use Rattle.rules.specs.History.{is_forgotten, search_in}
use Rattle.rules.specs.Keys.{read_key, with_read, wrote_key, wrote_value}
use Rattle.rules.specs.ValidLaws.{ValidKeys, ValidSite, valid_site}
use Rattle.lent.specs.Laws.{lent_lengths}
use Rattle.lent.specs.Lent.{site_of}
use Rattle.shell.proofs.Refusals.{refuses, passes}
use Rattle.site.proofs.access.read_at.Goals as goal

keys_of : (s : Site) (place : ℕ) (t : Turn) → place < sizes.live → t ≡ turn_at s place → ValidSite s
    → ValidKeys s.house s.counters.own t.sub.keys
unfolding turn_at
keys_of s place t l e v = rw e (v.part place l).keys

-- what the rule does, by the turn's own keys
found : (s : Site) (base : List ℕ) (place k : ℕ) (t : Turn) (v : Value) → t ≡ turn_at s place → wrote_key t.sub.keys k ≡ true
    → v ≡ wrote_value t.sub.keys k → read_at s base place k ≡ record { answer = Found v; words = []; site = s; lent = [] }
unfolding read_at turn_at
found s base place k t v e w f = let q = rw e at w in let g = rw e at f in rw (q, g)

-- the code of a version
abbrev version_code : Site → Turn → ℕ → ℕ
version_code s t k = read_code (is_forgotten s.counters.installs t.sub.snapshot) (read_key t.sub.keys k) t.sub.keys.read

abbrev step_of : Turn → Keys → Value → Change
step_of t more v = record { answer = Found v; words = []; turn = with_sub_of t (with_keys t.sub more) }

abbrev version : Site → List ℕ → Turn → ℕ → Value
version s base t k = (search_in s.history s.counters.installs base t.sub.snapshot k).value

-- else the version of the snapshot, where no cause holds
reads : (s : Site) (base : List ℕ) (place k : ℕ) (t : Turn) (more : Keys) (v : Value) → t ≡ turn_at s place
    → wrote_key t.sub.keys k ≡ false → more ≡ with_read t.sub.keys k → v ≡ version s base t k
    → read_at s base place k ≡ unless (version_code s t k) s [] (changed s place (step_of t more v) [])
unfolding read_at read_version turn_at
reads s base place k t more v e w f g = let q = rw e at w in rw (q, f, g, e)

pub turn_at-t-requires : goal.turn_at-t-requires
turn_at-t-requires c = ((lent_lengths _ _ _ c.requires.accessed.possible).live, c.requires.accessed.low)

pub wrote_key-requires : goal.wrote_key-requires
wrote_key-requires c =
    let a = c.args in
    let s = site_of a.p a.live.now a.history.now in
    let turned = c.turn_at-t.ensures a.history.now in
    (keys_of s a.place _ c.requires.accessed.low turned (valid_site s c.requires.accessed.possible)).few_wrote

pub wrote_value-value-requires : goal.wrote_value-value-requires
wrote_value-value-requires c =
    let a = c.args in
    let s = site_of a.p a.live.now a.history.now in
    let turned = c.turn_at-t.ensures a.history.now in
    let kept = keys_of s a.place _ c.requires.accessed.low turned (valid_site s c.requires.accessed.possible) in
    (kept.few_wrote, sym c.wrote_key.ensures ∙ c.if-wrote_key.true)

pub returns-then-wrote_key : goal.returns-then-wrote_key
returns-then-wrote_key c =
    let a = c.args in
    let s = site_of a.p a.live.now a.history.now in
    let turned = c.turn_at-t.ensures a.history.now in
    let had = sym c.wrote_key.ensures ∙ c.if-wrote_key.true in
    rw (found s a.base.now a.place a.key _ _ turned had c.wrote_value-value.ensures) (c.unaltered.ensures [] refl _ _ [])

pub read_key-has-requires : goal.read_key-has-requires
read_key-has-requires c =
    let a = c.args in
    let s = site_of a.p a.live.now a.history.now in
    let turned = c.turn_at-t.ensures a.history.now in
    (keys_of s a.place _ c.requires.accessed.low turned (valid_site s c.requires.accessed.possible)).few_read

pub returns-in-Err : goal.returns-in-Err
returns-in-Err c =
    let a = c.args in
    let s = site_of a.p a.live.now a.history.now in
    let turned = c.turn_at-t.ensures a.history.now in
    let lacked = sym c.wrote_key.ensures ∙ c.if-wrote_key.false in
    let first = rw (c.is_forgotten-lost.ensures, c.read_key-has.ensures) at c.in-Err.ensures in
    rw (reads s a.base.now a.place a.key _ _ _ turned lacked refl refl, refuses _ _ s [] _ first) (c.refused_by.ensures _ _ [])

pub search-requires : goal.search-requires
search-requires c =
    let a = c.args in
    let valid = valid_site (site_of a.p a.live.now a.history.now) c.requires.accessed.possible in
    let long = lent_lengths a.p a.live.now a.history.now c.requires.accessed.possible in
    record { slots = record { long = long.history; few = λ i l. (valid.entry i l).keys.few_wrote }; base_len = c.requires.base_len }

pub with_read-more-requires : goal.with_read-more-requires
with_read-more-requires c =
    let a = c.args in
    let s = site_of a.p a.live.now a.history.now in
    let turned = c.turn_at-t.ensures a.history.now in
    let kept = keys_of s a.place _ c.requires.accessed.low turned (valid_site s c.requires.accessed.possible) in
    let none = rw (c.is_forgotten-lost.ensures, c.read_key-has.ensures) at c.in_default.ensures in
    (kept.few_read, (read_clear _ _ _ (sym none)).room)

pub settled-requires : goal.settled-requires
settled-requires c = ((lent_lengths _ _ _ c.requires.accessed.possible).live, c.requires.accessed.low)

pub returns : goal.returns
returns c =
    let a = c.args in
    let s = site_of a.p a.live.now a.history.now in
    let turned = c.turn_at-t.ensures a.history.now in
    let lacked = sym c.wrote_key.ensures ∙ c.if-wrote_key.false in
    let none = rw (c.is_forgotten-lost.ensures, c.read_key-has.ensures) at c.in_default.ensures in
    let value = ap (λ (f : Search). f.value) c.search.ensures in
    rw (reads s a.base.now a.place a.key _ _ _ turned lacked c.with_read-more.ensures value, passes _ s [] _ none)
    (c.settled.ensures _ c.with_keys.ensures a.history.now [])
