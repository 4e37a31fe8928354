-- Q3.1 to Q3.6, in a list: three sites of unequal length. Site 1 has the keys to 699, site 2 key 700 alone, site 3 all from 701 to 2,047.
-- `spread` writes at each edge of a range and is refused each key beyond it; `reader`, for the proofing desk, reads the last key.
use Rattle.std.specs.Prelude.{ℕ, List, [], ◌∷◌}
use Rattle.kinds.specs.declared.Answer.TheVariants.{Refused, Done, Begun, Found, Committed, Installed, Emitted, Replayed, Standing}
use Rattle.kinds.specs.declared.House.{House}
use Rattle.rules.specs.House.{house_of}
use Rattle.rules.specs.World.{Call}
use Rattle.played.specs.Script.{Told, ◌⟶◌, highlight, begin, enlist, read, write, commit, take, install, merge, emit, replay}
use Rattle.played.specs.Script.{value, calls_of}

abbrev pub uneven : House
uneven = house_of 3 (0 ∷ 700 ∷ 701 ∷ [])

-- the first of site 1 and of site 3
abbrev pub spread : ℕ
spread = 4294967297

abbrev pub reader : ℕ
reader = 12884901889

unfoldable pub fourth_script : List Told
fourth_script =
    begin 1 0 ⟶ Begun spread
    ∷ write 1 spread 0 5 0 ⟶ Done
    ∷ write 1 spread 699 10 0 ⟶ Done
    ∷ write 1 spread 700 11 0 ⟶ Refused 3
    ∷ write 1 spread 2047 12 0 ⟶ Refused 3
    ∷ write 1 spread 2048 13 0 ⟶ Refused 2
    ∷ enlist spread 2 ⟶ Done
    ∷ enlist spread 3 ⟶ Done
    ∷ enlist spread 4 ⟶ Refused 2
    ∷ take 1 2 1 ⟶ Done
    ∷ take 1 3 1 ⟶ Done
    ∷ write 2 spread 699 20 0 ⟶ Refused 3
    ∷ write 2 spread 700 21 0 ⟶ Done
    ∷ write 2 spread 701 22 0 ⟶ Refused 3
    ∷ write 3 spread 700 30 0 ⟶ Refused 3
    ∷ write 3 spread 701 31 0 ⟶ Done
    ∷ write 3 spread 2047 32 0 ⟶ Done
    ∷ take 2 1 1 ⟶ Done
    ∷ take 3 1 1 ⟶ Done
    -- It commits at the three sites.
    ∷ commit spread ⟶ Done
    ∷ take 1 2 2 ⟶ Done
    ∷ take 1 3 2 ⟶ Done
    ∷ take 2 1 2 ⟶ Done
    ∷ take 3 1 2 ⟶ Done
    ∷ take 1 2 3 ⟶ Done
    ∷ take 1 3 3 ⟶ Done
    ∷ take 2 1 3 ⟶ Done
    ∷ take 3 1 3 ⟶ Committed 1
    ∷ take 1 2 4 ⟶ Done
    ∷ take 1 3 4 ⟶ Done
    ∷ install 1 ⟶ Installed 1 1
    ∷ install 2 ⟶ Installed 1 1
    ∷ install 3 ⟶ Installed 1 1
    ∷ begin 3 1 ⟶ Begun reader
    ∷ read 3 reader 2047 ⟶ Found (highlight 32 0)
    ∷ read 3 reader 700 ⟶ Refused 3
    -- The merger takes the three parts, and a copy the record of them all.
    ∷ merge 1 1 ⟶ Done
    ∷ merge 2 1 ⟶ Done
    ∷ merge 3 1 ⟶ Done
    ∷ emit ⟶ Emitted 1 1 spread
    ∷ replay 1 1 ⟶ Replayed 1 1
    ∷ value 1 699 ⟶ Standing (highlight 10 0) 1 1
    ∷ value 1 700 ⟶ Standing (highlight 21 0) 1 1
    ∷ value 1 701 ⟶ Standing (highlight 31 0) 1 1
    ∷ value 1 2047 ⟶ Standing (highlight 32 0) 1 1
    ∷ []

unfoldable pub fourth_calls : List Call
fourth_calls = calls_of uneven fourth_script
