-- The number of src/lib.rt: bytes of a block of input.
use Rattle.std.specs.Prelude.{ℕ}

abbrev pub text : ℕ
text = 65536
