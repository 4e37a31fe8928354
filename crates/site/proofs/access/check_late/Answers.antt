-- A key that the part wrote before has the value's cause alone.
use mathlib.Core.Path.{◌≡◌, sym, ◌∙◌}
use mathlib.Core.Bool.{true, false}
use Prim.Native.Nat.{ℕ, ◌≤◌, ◌<◌}
use Rattle.kinds.specs.Sizes as sizes
use Rattle.kinds.specs.declared.Site.{Site}
use Rattle.kinds.specs.declared.Turn.{Turn}
use Rattle.kinds.specs.declared.Value.{Value}
use Rattle.rules.specs.Access.{long_code, write_code_at, late_code}
use Rattle.rules.specs.Effect.{turn_at}
use Rattle.rules.specs.Keys.{wrote_key}
use Rattle.rules.specs.ValidLaws.{ValidSite, valid_site}
use Rattle.lent.specs.Lent.{site_of}
use Rattle.site.proofs.access.check_late.Goals as goal

few : (s : Site) (place : ℕ) (t : Turn) → place < sizes.live → t ≡ turn_at s place → ValidSite s → t.sub.keys.wrote ≤ sizes.writes
unfolding turn_at
few s place t l e v = rw e (v.part place l).keys.few_wrote

-- what the rule asks, by the turn's own keys
again : (s : Site) (place k : ℕ) (v : Value) (t : Turn) → t ≡ turn_at s place → wrote_key t.sub.keys k ≡ true
    → long_code v ≡ late_code s place k v
unfolding late_code turn_at
again s place k v t e w = let q = rw e at w in rw q

first : (s : Site) (place k : ℕ) (v : Value) (t : Turn) → t ≡ turn_at s place → wrote_key t.sub.keys k ≡ false
    → write_code_at s place k v ≡ late_code s place k v
unfolding late_code turn_at
first s place k v t e w = let q = rw e at w in rw q

pub wrote_key-requires : goal.wrote_key-requires
wrote_key-requires c =
    let a = c.args in
    let s = site_of a.p a.live.now a.history.now in
    few s a.place a.t c.requires.0.low c.requires.1 (valid_site s c.requires.0.possible)

pub returns-then-wrote_key : goal.returns-then-wrote_key
returns-then-wrote_key c =
    let a = c.args in
    let s = site_of a.p a.live.now a.history.now in
    c.check_long.ensures ∙ again s a.place a.key a.value a.t c.requires.1 (sym c.wrote_key.ensures ∙ c.if-wrote_key.true)

pub returns-else-wrote_key : goal.returns-else-wrote_key
returns-else-wrote_key c =
    let a = c.args in
    let s = site_of a.p a.live.now a.history.now in
    c.check_fresh.ensures ∙ first s a.place a.key a.value a.t c.requires.1 (sym c.wrote_key.ensures ∙ c.if-wrote_key.false)
