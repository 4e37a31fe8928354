-- The worked script H2: one site, one transaction, which ends in a copy. (Its merge before the install hands in no record.)
use Rattle.std.specs.Prelude.{List, [], ◌∷◌}
use Rattle.kinds.specs.declared.Answer.TheVariants.{Done, Begun, Committed, Installed, Emitted, Replayed, Standing}
use Rattle.rules.specs.World.{Call}
use Rattle.played.specs.Script.{Told, ◌⟶◌, highlight, begin, write, commit, install, merge, emit, replay, value, even, calls_of}

unfoldable pub first_script : List Told
first_script =
    begin 1 0 ⟶ Begun 4294967297
    ∷ write 1 4294967297 5 700 0 ⟶ Done
    ∷ commit 4294967297 ⟶ Committed 1
    ∷ install 1 ⟶ Installed 1 1
    ∷ merge 1 1 ⟶ Done
    ∷ emit ⟶ Emitted 1 1 4294967297
    ∷ replay 1 1 ⟶ Replayed 1 1
    ∷ value 1 5 ⟶ Standing (highlight 700 0) 1 1
    ∷ []

unfoldable pub first_calls : List Call
first_calls = calls_of (even 1) first_script
