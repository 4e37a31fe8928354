-- The mark written is that of the dependence that was tested.
use Rattle.std.proofs.Common.{◌≡◌, Bool, true, false, refl}
use Rattle.std.specs.Int.{from_bool}
use Rattle.rules.specs.Certify.{mark_of}
use Rattle.certify.proofs.list.write_concurrent.Goals as goal

marked : (b : Bool) → from_bool b ≡ mark_of b
marked true = refl
marked false = refl

pub returns : goal.returns
returns c = rw (← c.dependent.ensures, ← marked c.dependent.result, ← c.from-mark.ensures) c.write_entry.ensures
