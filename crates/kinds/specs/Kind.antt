-- Kinds of message and of record: the numbers of src/kind.rt.
use Rattle.std.specs.Prelude.{ℕ}

abbrev pub join : ℕ
join = 1

abbrev pub joined : ℕ
joined = 2

abbrev pub prepare : ℕ
prepare = 3

abbrev pub conc : ℕ
conc = 4

abbrev pub cert : ℕ
cert = 5

abbrev pub vote : ℕ
vote = 6

abbrev pub commit : ℕ
commit = 7

abbrev pub abort : ℕ
abort = 8

abbrev pub part : ℕ
part = 1

abbrev pub state : ℕ
state = 2

abbrev pub merged : ℕ
merged = 3
