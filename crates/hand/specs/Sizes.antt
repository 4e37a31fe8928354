-- The numbers of src/store.rt: words of the store, and before an item.
use Rattle.std.specs.Prelude.{ℕ}

abbrev pub store : ℕ
store = 131072

abbrev pub label : ℕ
label = 2
