-- No cause has the number 0, which stands for none.
use Rattle.std.proofs.Common.{◌≡◌, ℕ, true, false, eqb, refl}
use Rattle.kinds.specs.declared.refusal.Refusal.{Refusal}
use Rattle.kinds.specs.declared.refusal.Refusal.TheVariants.{Short, Malformed, BadTable, Elsewhere, NotNext, Unknown, NotCoordinator}
use Rattle.kinds.specs.declared.refusal.Refusal.TheVariants.{Stage, Outstanding, Forgotten, Held}
use Rattle.kinds.specs.declared.refusal.Refusal.TheVariants.{Newer, TooMany, TooLong, Full, Spent, Behind, QueueFull, NotWhole, Nothing}
use Rattle.kinds.specs.declared.refusal.Refusal.TheVariants.{NoPage}
use Rattle.kinds.specs.Refusal.{number_of}

pub is_cause : (cause : Refusal) → eqb (number_of cause) 0 ≡ false
is_cause Short = refl
is_cause Malformed = refl
is_cause BadTable = refl
is_cause Elsewhere = refl
is_cause NotNext = refl
is_cause Unknown = refl
is_cause NotCoordinator = refl
is_cause Stage = refl
is_cause Outstanding = refl
is_cause Forgotten = refl
is_cause Held = refl
is_cause Newer = refl
is_cause TooMany = refl
is_cause TooLong = refl
is_cause Full = refl
is_cause Spent = refl
is_cause Behind = refl
is_cause QueueFull = refl
is_cause NotWhole = refl
is_cause Nothing = refl
is_cause NoPage = refl

-- a code that is a cause's number is none of a call that goes on
pub refused_by : (cause : Refusal) (code : ℕ) → number_of cause ≡ code → eqb code 0 ≡ false
refused_by cause code e = rw (← e) (is_cause cause)

pub passed_by : (code : ℕ) → 0 ≡ code → eqb code 0 ≡ true
passed_by code e = rw (← e)
