-- Two sites, and each of the fourteen calls. `spanning` writes at both sites and commits after a yes of both. `half_seeing` saw that
-- at site 1 and missed it at site 2: it is voted 18 and aborts. `later` saw it at both, and writes over it. `lone` stays at site 1.
use Rattle.std.specs.Prelude.{ℕ, List, [], ◌∷◌}
use Rattle.kinds.specs.declared.Answer.TheVariants.{Refused, Done, Begun, Found, Searched, Committed, Aborted, Installed}
use Rattle.kinds.specs.declared.Answer.TheVariants.{Reported, Emitted, Replayed, Standing}
use Rattle.kinds.specs.Kind as kind
use Rattle.rules.specs.Message.{message_words, entry_count}
use Rattle.rules.specs.Course.{head_of}
use Rattle.rules.specs.World.{Call}
use Rattle.rules.specs.Book.{Fact, began, used, wrote, committed, installed, replayed}
use Rattle.played.specs.Script.{Told, ◌⟶◌, highlight, begin, enlist, read, write, search, commit, commit_at, abandon, take, install}
use Rattle.played.specs.Script.{report, merge, emit, replay, value, even, calls_of}

-- the first, second and third of site 1, the first and second of site 2
abbrev pub spanning : ℕ
spanning = 4294967297

abbrev pub lone : ℕ
lone = 4294967298

abbrev pub abandoned : ℕ
abandoned = 4294967299

abbrev pub half_seeing : ℕ
half_seeing = 8589934593

abbrev pub later : ℕ
later = 8589934594

unfoldable pub second_script : List Told
second_script =
    -- `spanning` begins at site 1 and joins site 2: JOIN, handed in twice, and JOINED. It writes at both.
    begin 1 0 ⟶ Begun spanning
    ∷ enlist spanning 2 ⟶ Done
    ∷ take 1 2 1 ⟶ Done
    ∷ take 1 2 1 ⟶ Refused 4
    ∷ take 2 1 1 ⟶ Done
    ∷ write 1 spanning 5 700 0 ⟶ Done
    ∷ write 2 spanning 261 900 0 ⟶ Done
    -- Its commit request: PREPARE, CONC, CERT, VOTE. With site 2's yes it commits, and COMMIT goes out.
    ∷ commit spanning ⟶ Done
    ∷ take 1 2 2 ⟶ Done
    -- Site 2 is not the coordinator and says so, though it is too late as well. Site 1 is, and is asked too late.
    ∷ commit_at 2 spanning ⟶ Refused 26
    ∷ commit_at 1 spanning ⟶ Refused 27
    ∷ enlist spanning 2 ⟶ Refused 27
    ∷ write 2 spanning 262 1 0 ⟶ Refused 27
    ∷ take 2 1 2 ⟶ Done
    ∷ take 1 2 3 ⟶ Done
    ∷ take 2 1 3 ⟶ Committed 1
    -- `half_seeing` begins at site 2 before `spanning` is installed there, and at site 1 after it is installed there. Its JOINED
    -- cannot overtake the COMMIT.
    ∷ begin 2 0 ⟶ Begun half_seeing
    ∷ search 1 1 5 ⟶ Searched (highlight 0 0) 0
    ∷ install 1 ⟶ Installed 1 1
    ∷ search 1 1 5 ⟶ Searched (highlight 700 0) 1
    ∷ search 1 0 5 ⟶ Searched (highlight 0 0) 0
    ∷ enlist half_seeing 1 ⟶ Done
    ∷ take 2 1 4 ⟶ Done
    ∷ take 1 2 5 ⟶ Refused 4
    ∷ take 1 2 4 ⟶ Done
    ∷ take 1 2 5 ⟶ Done
    -- It reads what `spanning` wrote at site 1, and what stood before that at site 2, where `spanning` still holds the key.
    ∷ read 1 half_seeing 5 ⟶ Found (highlight 700 0)
    ∷ read 2 half_seeing 261 ⟶ Found (highlight 0 0)
    ∷ write 1 half_seeing 7 777 0 ⟶ Done
    ∷ write 2 half_seeing 261 777 0 ⟶ Refused 9
    ∷ install 2 ⟶ Installed 1 1
    -- PREPARE, CONC, and a CERT that lists `spanning` with mark 1: site 1 votes 18, and the VOTE aborts. Site 1 takes the ABORT.
    ∷ commit half_seeing ⟶ Done
    ∷ take 2 1 5 ⟶ Done
    ∷ take 1 2 6 ⟶ Done
    ∷ take 2 1 6 ⟶ Done
    ∷ take 1 2 7 ⟶ Aborted 18
    ∷ take 2 1 7 ⟶ Done
    -- `later` begins at site 2 and joins site 1, both after `spanning`.
    ∷ begin 2 0 ⟶ Begun later
    ∷ enlist later 1 ⟶ Done
    ∷ take 2 1 8 ⟶ Done
    ∷ take 1 2 8 ⟶ Done
    ∷ read 1 later 5 ⟶ Found (highlight 700 0)
    ∷ read 2 later 261 ⟶ Found (highlight 900 0)
    ∷ write 2 later 261 901 0 ⟶ Done
    -- Meanwhile `lone` commits at site 1 without a message, and another is abandoned.
    ∷ begin 1 0 ⟶ Begun lone
    ∷ write 1 lone 6 600 0 ⟶ Done
    ∷ commit lone ⟶ Committed 2
    ∷ begin 1 0 ⟶ Begun abandoned
    ∷ abandon abandoned ⟶ Aborted 20
    -- `later` commits after a yes of both. At site 1 it waits for its COMMIT, at site 2 for its install: the state there is 3 less 1.
    ∷ commit later ⟶ Done
    ∷ take 2 1 9 ⟶ Done
    ∷ take 1 2 9 ⟶ Done
    ∷ take 2 1 10 ⟶ Done
    ∷ take 1 2 10 ⟶ Committed 3
    ∷ install 1 ⟶ Installed 2 1
    ∷ install 1 ⟶ Refused 17
    ∷ report 2 ⟶ Reported 2
    -- The parts of `spanning` are merged, and it reaches copy 1. A part and a merged record are handed in twice.
    ∷ merge 1 1 ⟶ Done
    ∷ merge 1 1 ⟶ Refused 14
    ∷ emit ⟶ Refused 17
    ∷ merge 2 1 ⟶ Done
    ∷ emit ⟶ Emitted 1 1 spanning
    ∷ replay 1 1 ⟶ Replayed 1 1
    ∷ replay 1 1 ⟶ Refused 14
    ∷ value 1 5 ⟶ Standing (highlight 700 0) 1 1
    ∷ value 1 261 ⟶ Standing (highlight 900 0) 1 1
    -- `lone` is due only with the state of site 2.
    ∷ merge 1 2 ⟶ Done
    ∷ emit ⟶ Refused 17
    ∷ merge 2 2 ⟶ Done
    ∷ emit ⟶ Emitted 2 1 lone
    -- COMMIT, and `later` is installed, merged and emitted.
    ∷ take 2 1 11 ⟶ Done
    ∷ install 1 ⟶ Installed 3 2
    ∷ install 2 ⟶ Installed 3 2
    -- Site 1 has three installs, of `spanning`, `lone` and `later`, which wrote nothing there; site 2 has two that wrote key 261.
    ∷ search 1 3 5 ⟶ Searched (highlight 700 0) 3
    ∷ search 1 2 5 ⟶ Searched (highlight 700 0) 2
    ∷ search 1 9 6 ⟶ Searched (highlight 600 0) 2
    ∷ search 1 3 7 ⟶ Searched (highlight 0 0) 3
    ∷ search 2 1 261 ⟶ Searched (highlight 900 0) 1
    ∷ search 2 2 261 ⟶ Searched (highlight 901 0) 1
    ∷ search 2 2 5 ⟶ Refused 3
    ∷ search 1 3 2048 ⟶ Refused 2
    ∷ merge 1 3 ⟶ Done
    ∷ merge 2 3 ⟶ Done
    ∷ emit ⟶ Emitted 3 2 later
    -- Copy 1 follows to the end, copy 2 only to `spanning`.
    ∷ replay 1 2 ⟶ Replayed 2 1
    ∷ replay 1 3 ⟶ Replayed 3 2
    ∷ replay 2 1 ⟶ Replayed 1 1
    ∷ []

unfoldable pub second_calls : List Call
second_calls = calls_of (even 2) second_script

-- What it sends, in order. An entry is a transaction, its participants and its mark; of the VOTEs, argument 0 is yes.
unfoldable pub sends : (kind from to number tx clock argument : ℕ) (entries : List ℕ) → List ℕ
sends k from to n tx clock argument es = message_words (head_of k from to n tx clock argument (entry_count es)) es

unfoldable pub second_mail : List (List ℕ)
second_mail =
    sends kind.join 1 2 1 spanning 0 0 []
    ∷ sends kind.joined 2 1 1 spanning 0 0 []
    ∷ sends kind.prepare 1 2 2 spanning 0 3 []
    ∷ sends kind.conc 2 1 2 spanning 0 0 []
    ∷ sends kind.cert 1 2 3 spanning 0 0 []
    ∷ sends kind.vote 2 1 3 spanning 0 0 []
    ∷ sends kind.commit 1 2 4 spanning 1 0 []
    ∷ sends kind.join 2 1 4 half_seeing 0 0 []
    ∷ sends kind.joined 1 2 5 half_seeing 0 0 []
    ∷ sends kind.prepare 2 1 5 half_seeing 1 3 []
    ∷ sends kind.conc 1 2 6 half_seeing 0 0 []
    ∷ sends kind.cert 2 1 6 half_seeing 0 0 (spanning ∷ 3 ∷ 1 ∷ [])
    ∷ sends kind.vote 1 2 7 half_seeing 1 18 []
    ∷ sends kind.abort 2 1 7 half_seeing 0 0 []
    ∷ sends kind.join 2 1 8 later 0 0 []
    ∷ sends kind.joined 1 2 8 later 0 0 []
    ∷ sends kind.prepare 2 1 9 later 1 3 []
    ∷ sends kind.conc 1 2 9 later 0 0 (lone ∷ 1 ∷ 0 ∷ [])
    ∷ sends kind.cert 2 1 10 later 0 0 (lone ∷ 1 ∷ 0 ∷ [])
    ∷ sends kind.vote 1 2 10 later 2 0 []
    ∷ sends kind.commit 2 1 11 later 3 0 []
    ∷ []

-- its book
unfoldable pub second_book : List Fact
second_book =
    began 1 spanning
    ∷ began 2 spanning
    ∷ used spanning 5
    ∷ wrote spanning 5 (highlight 700 0)
    ∷ used spanning 261
    ∷ wrote spanning 261 (highlight 900 0)
    ∷ committed spanning 1 1
    ∷ began 2 half_seeing
    ∷ installed 1 1 1
    ∷ began 1 half_seeing
    ∷ used half_seeing 5
    ∷ used half_seeing 261
    ∷ used half_seeing 7
    ∷ wrote half_seeing 7 (highlight 777 0)
    ∷ installed 2 1 1
    ∷ began 2 later
    ∷ began 1 later
    ∷ used later 5
    ∷ used later 261
    ∷ used later 261
    ∷ wrote later 261 (highlight 901 0)
    ∷ began 1 lone
    ∷ used lone 6
    ∷ wrote lone 6 (highlight 600 0)
    ∷ committed lone 2 1
    ∷ began 1 abandoned
    ∷ committed later 3 2
    ∷ installed 1 2 1
    ∷ replayed 1 1 1
    ∷ installed 1 3 2
    ∷ installed 2 3 2
    ∷ replayed 1 2 1
    ∷ replayed 1 3 2
    ∷ replayed 2 1 1
    ∷ []
