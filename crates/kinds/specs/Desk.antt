-- Q10.1: the numbers of src/desk.rt.
use Rattle.std.specs.Prelude.{ℕ}

abbrev pub house : ℕ
house = 0

abbrev pub proofing : ℕ
proofing = 1
