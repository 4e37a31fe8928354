-- The causes of refusal (N3), in their order, and the reasons of abort: the numbers of src/reason.rt.
use Rattle.std.specs.Prelude.{ℕ}

abbrev pub short : ℕ
short = 1

abbrev pub malformed : ℕ
malformed = 2

abbrev pub bad_table : ℕ
bad_table = 22

abbrev pub elsewhere : ℕ
elsewhere = 3

abbrev pub not_next : ℕ
not_next = 4

abbrev pub unknown : ℕ
unknown = 5

abbrev pub not_coordinator : ℕ
not_coordinator = 26

abbrev pub stage : ℕ
stage = 27

abbrev pub outstanding : ℕ
outstanding = 7

abbrev pub forgotten : ℕ
forgotten = 8

abbrev pub held : ℕ
held = 9

abbrev pub newer : ℕ
newer = 10

abbrev pub too_many : ℕ
too_many = 11

abbrev pub too_long : ℕ
too_long = 29

abbrev pub full : ℕ
full = 12

abbrev pub spent : ℕ
spent = 13

abbrev pub behind : ℕ
behind = 14

abbrev pub queue_full : ℕ
queue_full = 15

abbrev pub not_whole : ℕ
not_whole = 16

abbrev pub nothing : ℕ
nothing = 17

-- no place in that order
abbrev pub no_page : ℕ
no_page = 28

abbrev pub conflict : ℕ
conflict = 18

abbrev pub uncertain : ℕ
uncertain = 19

abbrev pub abandoned : ℕ
abandoned = 20
