-- One step of the search.
use Rattle.std.specs.Prelude.{ℕ, suc, ◌+◌, ◌≡◌, Bool, true, false}
use Rattle.std.proofs.Math.Path.{refl}
use Rattle.kinds.specs.declared.Entry.{Entry}
use Rattle.kinds.specs.declared.Search.{Search}
use Rattle.kinds.specs.declared.Value.{Value}
use Rattle.rules.specs.Keys.{wrote_key, wrote_value}
use Rattle.rules.specs.History.{walk}

abbrev pub answer : Value → ℕ → Search
answer v n = record { value = v; looked = n }

-- entry i has the key
abbrev pub has : (ℕ → Entry) → ℕ → ℕ → Bool
has entry k i = wrote_key (entry i).keys k

module _ (entry : ℕ → Entry) (k : ℕ) (v : Value) where
  -- One step: at the end, at a hit, and past an entry that lacks the key.
  pub walk_end : (looked : ℕ) → walk entry k v 0 looked ≡ answer v looked
  unfolding walk
  walk_end looked = refl

  pub walk_hit : (left looked : ℕ) → has entry k left ≡ true
      → walk entry k v (suc left) looked ≡ answer (wrote_value (entry left).keys k) (looked + 1)
  unfolding walk
  walk_hit left looked t = rw t

  pub walk_on : (left looked : ℕ) → has entry k left ≡ false → walk entry k v (suc left) looked ≡ walk entry k v left (looked + 1)
  unfolding walk
  walk_on left looked t = rw t
