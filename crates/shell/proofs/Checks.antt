-- A check that finds no cause has the code 0.
use Rattle.std.specs.Prelude.{ℕ, ◌≡◌, refl, Result, Ok, Err}
use Rattle.kinds.specs.Refusal.{refusal_in}
use Rattle.kinds.specs.declared.refusal.Refusal.{Refusal}

pub found_none : {A : Type 0} (r : Result A Refusal) (code : ℕ) → ((cause : Refusal) → r ≡ Err cause → ⊥) → refusal_in r ≡ code → 0 ≡ code
found_none (Ok _) code n e = e
found_none (Err cause) code n e = absurd (n cause refl)
