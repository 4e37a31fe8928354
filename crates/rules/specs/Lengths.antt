-- Q12.5, in any state: when a write is refused 29. And Q12.9, after any list: a value that is answered fits.
use Rattle.std.specs.Prelude.{ℕ, ◌<◌, ◌≡◌, false, List}
use Rattle.kinds.specs.State.{sub_at}
use Rattle.kinds.specs.declared.House.{House}
use Rattle.kinds.specs.declared.Site.{Site}
use Rattle.kinds.specs.declared.Sub.{Sub}
use Rattle.kinds.specs.declared.Value.{Value}
use Rattle.kinds.specs.declared.Answer.{Answer}
use Rattle.kinds.specs.declared.Answer.TheVariants.{Refused, Done, Found, Searched, Standing}
use Rattle.rules.specs.Value.{Fits}
use Rattle.rules.specs.Desk.{write_limit}
use Rattle.rules.specs.Keys.{wrote_key}
use Rattle.rules.specs.Live.{place_of}
use Rattle.rules.specs.Access.{write_of}
use Rattle.rules.specs.Desks.{Reaches, OneMore}
use Rattle.rules.specs.World as world
use Rattle.rules.specs.World.{Call, fresh_world, step, run}

-- A write of value v to key k for tx, in any state.
module _ (s : Site) (tx k : ℕ) (v : Value) where
  abbrev part : Sub
  part = sub_at s (place_of s.live tx)

  abbrev answer : Answer
  answer = (write_of s tx k v).answer

  -- No cause before 29 holds: none before 8, and for a key that the part has not written none of 8 to 11.
  pub record Passes : Type 0 where
    pub reaches : Reaches s tx k v
    pub new : wrote_key part.keys k ≡ false → OneMore s tx k v
    pub room : wrote_key part.keys k ≡ false → part.keys.wrote < write_limit part.desk

  -- Then a value that does not fit is refused 29, and one that fits is taken. Nothing else is refused 29.
  pub record Measured : Type 0 where
    pub long : Passes → (Fits v → ⊥) → answer ≡ Refused 29
    pub short : Passes → Fits v → answer ≡ Done
    pub only : answer ≡ Refused 29 → Passes × (Fits v → ⊥)

-- the claim: in any state
unfoldable pub WritesMeasured : Type 0
WritesMeasured = (s : Site) (tx k : ℕ) (v : Value) → Measured s tx k v

-- the claim: after any list of the fourteen calls from any fresh house, with any words handed in
pub record AnswersFit : Type 0 where
  pub read : (o : House) (calls : List Call) (s tx key : ℕ) (v : Value)
      → (step (run (fresh_world o) calls) (world.read s tx key)).answer ≡ Found v → Fits v
  pub search : (o : House) (calls : List Call) (s p key n : ℕ) (v : Value)
      → (step (run (fresh_world o) calls) (world.search s p key)).answer ≡ Searched v n → Fits v
  pub value : (o : House) (calls : List Call) (copy key n c : ℕ) (v : Value)
      → (step (run (fresh_world o) calls) (world.value copy key)).answer ≡ Standing v n c → Fits v
