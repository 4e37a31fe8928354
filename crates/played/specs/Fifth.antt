-- Q12.1 to Q12.6, in a list: values with a length. `first` writes a highlight, and `third`, for the proofing desk, another over it: its
-- start and its length are replaced together. 29 stands behind 9, 10 and 11, and is answered for a key already written too.
use Rattle.std.specs.Prelude.{ℕ, List, [], ◌∷◌}
use Rattle.kinds.specs.Sizes as sizes
use Rattle.kinds.specs.declared.Answer.TheVariants.{Refused, Done, Begun, Found, Searched, Committed, Installed, Emitted}
use Rattle.kinds.specs.declared.Answer.TheVariants.{Replayed, Standing}
use Rattle.rules.specs.World.{Call}
use Rattle.played.specs.Script.{Told, ◌⟶◌, highlight, begin, read, write, search, commit, install, merge, emit, replay, value}
use Rattle.played.specs.Script.{even, calls_of}

-- the three of site 1
abbrev pub first : ℕ
first = 4294967297

abbrev pub second : ℕ
second = 4294967298

abbrev pub third : ℕ
third = 4294967299

unfoldable pub fifth_script : List Told
fifth_script =
    -- Start plus length may be 2^64 − 1 and no more. A refused write leaves the value as it was.
    begin 1 0 ⟶ Begun first
    ∷ write 1 first 5 700 40 ⟶ Done
    ∷ write 1 first 6 sizes.last 0 ⟶ Done
    ∷ write 1 first 7 sizes.last 1 ⟶ Refused 29
    ∷ write 1 first 5 2 sizes.last ⟶ Refused 29
    ∷ read 1 first 5 ⟶ Found (highlight 700 40)
    ∷ read 1 first 7 ⟶ Found (highlight 0 0)
    -- The key is held, and then has a newer version: both come before 29.
    ∷ begin 1 0 ⟶ Begun second
    ∷ write 1 second 5 sizes.last 1 ⟶ Refused 9
    ∷ commit first ⟶ Committed 1
    ∷ install 1 ⟶ Installed 1 1
    ∷ write 1 second 5 sizes.last 1 ⟶ Refused 10
    ∷ read 1 second 5 ⟶ Found (highlight 0 0)
    ∷ search 1 1 5 ⟶ Searched (highlight 700 40) 1
    -- So does a fifth key for the proofing desk. A key already written is refused 29 at the desk's limit too.
    ∷ begin 1 1 ⟶ Begun third
    ∷ read 1 third 5 ⟶ Found (highlight 700 40)
    ∷ write 1 third 5 8 1200 ⟶ Done
    ∷ write 1 third 10 1 1 ⟶ Done
    ∷ write 1 third 11 1 2 ⟶ Done
    ∷ write 1 third 12 1 3 ⟶ Done
    ∷ write 1 third 13 sizes.last 1 ⟶ Refused 11
    ∷ write 1 third 12 sizes.last 1 ⟶ Refused 29
    ∷ commit third ⟶ Committed 2
    ∷ install 1 ⟶ Installed 2 1
    ∷ search 1 2 5 ⟶ Searched (highlight 8 1200) 1
    ∷ search 1 1 5 ⟶ Searched (highlight 700 40) 1
    -- A copy holds the first value whole, then the second.
    ∷ merge 1 1 ⟶ Done
    ∷ emit ⟶ Emitted 1 1 first
    ∷ replay 1 1 ⟶ Replayed 1 1
    ∷ value 1 5 ⟶ Standing (highlight 700 40) 1 1
    ∷ merge 1 2 ⟶ Done
    ∷ emit ⟶ Emitted 2 1 third
    ∷ replay 1 2 ⟶ Replayed 2 1
    ∷ value 1 5 ⟶ Standing (highlight 8 1200) 2 1
    ∷ value 1 6 ⟶ Standing (highlight sizes.last 0) 2 1
    ∷ value 1 12 ⟶ Standing (highlight 1 3) 2 1
    ∷ value 1 13 ⟶ Standing (highlight 0 0) 2 1
    ∷ []

unfoldable pub fifth_calls : List Call
fifth_calls = calls_of (even 1) fifth_script

-- the log of site 1: a write is its key, its start and its length
unfoldable pub fifth_log : List (List ℕ)
fifth_log =
    (15 ∷ 1 ∷ 1 ∷ 1 ∷ 1 ∷ first ∷ 1 ∷ 2 ∷ 9 ∷ 5 ∷ 700 ∷ 40 ∷ 6 ∷ sizes.last ∷ 0 ∷ [])
    ∷ (21 ∷ 1 ∷ 1 ∷ 2 ∷ 1 ∷ third ∷ 1 ∷ 4 ∷ 9 ∷ 5 ∷ 8 ∷ 1200 ∷ 10 ∷ 1 ∷ 1 ∷ 11 ∷ 1 ∷ 2 ∷ 12 ∷ 1 ∷ 3 ∷ [])
    ∷ []
