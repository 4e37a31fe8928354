-- Q10.1 to Q10.5, in a list: two sites and two desks. `proofing` is begun for the proofing desk at site 1 and joins site 2. At either it
-- writes four keys, writes one of them again, and is refused a fifth. `whole`, for the house, writes five beside it.
use Rattle.std.specs.Prelude.{ℕ, List, [], ◌∷◌}
use Rattle.kinds.specs.declared.Answer.TheVariants.{Refused, Done, Begun, Found, Committed, Installed}
use Rattle.kinds.specs.Kind as kind
use Rattle.rules.specs.World.{Call}
use Rattle.played.specs.Script.{Told, ◌⟶◌, highlight, begin, enlist, read, write, commit, take, install, even, calls_of}
use Rattle.played.specs.Second.{sends}

-- the first of site 1 and of site 2
abbrev pub proofing : ℕ
proofing = 4294967297

abbrev pub whole : ℕ
whole = 8589934593

unfoldable pub third_script : List Told
third_script =
    begin 1 1 ⟶ Begun proofing
    ∷ begin 1 2 ⟶ Refused 2
    -- Four keys at the coordinator, one of them again, and no fifth. Reads are not counted with them.
    ∷ write 1 proofing 0 10 0 ⟶ Done
    ∷ write 1 proofing 1 11 0 ⟶ Done
    ∷ write 1 proofing 2 12 0 ⟶ Done
    ∷ write 1 proofing 3 13 0 ⟶ Done
    ∷ write 1 proofing 4 14 0 ⟶ Refused 11
    ∷ write 1 proofing 0 20 0 ⟶ Done
    ∷ read 1 proofing 4 ⟶ Found (highlight 0 0)
    -- JOIN says its desk, and the part at site 2 has it.
    ∷ enlist proofing 2 ⟶ Done
    ∷ take 1 2 1 ⟶ Done
    ∷ write 2 proofing 256 30 0 ⟶ Done
    ∷ write 2 proofing 257 31 0 ⟶ Done
    ∷ write 2 proofing 258 32 0 ⟶ Done
    ∷ write 2 proofing 259 33 0 ⟶ Done
    ∷ write 2 proofing 260 34 0 ⟶ Refused 11
    ∷ write 2 proofing 256 40 0 ⟶ Done
    ∷ take 2 1 1 ⟶ Done
    -- A transaction for the house writes a fifth key at the same site.
    ∷ begin 2 0 ⟶ Begun whole
    ∷ write 2 whole 260 50 0 ⟶ Done
    ∷ write 2 whole 261 51 0 ⟶ Done
    ∷ write 2 whole 262 52 0 ⟶ Done
    ∷ write 2 whole 263 53 0 ⟶ Done
    ∷ write 2 whole 264 54 0 ⟶ Done
    -- Both commit.
    ∷ commit proofing ⟶ Done
    ∷ take 1 2 2 ⟶ Done
    ∷ take 2 1 2 ⟶ Done
    ∷ take 1 2 3 ⟶ Done
    ∷ take 2 1 3 ⟶ Committed 1
    ∷ take 1 2 4 ⟶ Done
    ∷ commit whole ⟶ Committed 2
    ∷ install 2 ⟶ Installed 1 1
    ∷ install 2 ⟶ Installed 2 2
    ∷ install 1 ⟶ Installed 1 1
    ∷ []

unfoldable pub third_calls : List Call
third_calls = calls_of (even 2) third_script

-- what it sends: JOIN's argument is the desk
unfoldable pub third_mail : List (List ℕ)
third_mail =
    sends kind.join 1 2 1 proofing 0 1 []
    ∷ sends kind.joined 2 1 1 proofing 0 0 []
    ∷ sends kind.prepare 1 2 2 proofing 0 3 []
    ∷ sends kind.conc 2 1 2 proofing 0 0 []
    ∷ sends kind.cert 1 2 3 proofing 0 0 []
    ∷ sends kind.vote 2 1 3 proofing 0 0 []
    ∷ sends kind.commit 1 2 4 proofing 1 0 []
    ∷ []
