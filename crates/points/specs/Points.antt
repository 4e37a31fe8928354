-- One list of what the rules give and what the requirements say, and one statement: they are the same.
use Rattle.std.specs.Prelude.{ℕ, ◌-◌, ◌≡◌, Bool, List, [], ◌∷◌, ◌++◌, map, replicate, length}
use Rattle.std.specs.Int.Bits.{bit_or}
use Rattle.laws.specs.Choice.{pick}
use Rattle.laws.specs.Pair.{precedes}
use Rattle.laws.specs.Bytes.{bytes_of, words_of}
use Rattle.kinds.specs.Sizes as sizes
use Rattle.kinds.specs.Stage as stage
use Rattle.kinds.specs.Desk as desk
use Rattle.kinds.specs.declared.Answer.{Answer}
use Rattle.kinds.specs.declared.Sub.{Sub}
use Rattle.kinds.specs.State.{no_sub}
use Rattle.rules.specs.House.{home_of, mask_of, whole_house}
use Rattle.rules.specs.Keys.{dependent}
use Rattle.rules.specs.Begin.{begin_of}
use Rattle.rules.specs.Access.{read_of, write_of, search_of}
use Rattle.rules.specs.Install.{fresh_site, install_of, report_of}
use Rattle.rules.specs.Merger.{emit_of}
use Rattle.rules.specs.Page.{page_of, offset_of, pages_of}
use Rattle.rules.specs.Reader.{copy_bytes, reader_replay_of, reader_value_of, record_bytes_of}
use Rattle.said.specs.Said.{Said, ok, abort, no, said_of}
use Rattle.points.specs.States.{even_house, value, queued, queue_of, queueing, wrote, read, versions, merging, head_words, first_record}

-- the numbers of an answer: 0 and what follows `ok`, 1 and the reason of an abort, 2 and the cause of a refusal
unfoldable pub numbers_of : Said → List ℕ
numbers_of (ok l) = 0 ∷ l
numbers_of (abort r) = 1 ∷ r ∷ []
numbers_of (no n) = 2 ∷ n ∷ []

abbrev said : Answer → List ℕ
said a = numbers_of (said_of a)

abbrev yes : Bool → List ℕ
yes b = pick b 1 0 ∷ []

pub record Point : Type 0 where
  pub got : List ℕ
  pub want : List ℕ

abbrev point : List ℕ → List ℕ → Point
point a b = record { got = a; want = b }

-- what an install answers at a site with that live table
abbrev installs : List Sub → List ℕ
installs live = said (install_of (queueing live) sizes.part (replicate sizes.base 0)).answer

-- what a replay of some bytes over a started copy in bytes answers, and that copy with H2's save
abbrev replays : List ℕ → List ℕ
replays m = said (reader_replay_of (replicate copy_bytes 0) m).answer

abbrev first_copy : List ℕ
first_copy = bytes_of (1 ∷ 1 ∷ replicate 10 0 ++ (700 ∷ [])) ++ replicate (copy_bytes - 104) 0

unfoldable pub points : List Point
points =
    point (home_of whole_house 255 ∷ home_of whole_house 256 ∷ home_of whole_house 2047 ∷ []) (1 ∷ 2 ∷ 8 ∷ [])
    ∷ point (home_of (even_house 2) 512 ∷ home_of (even_house 2) 255 ∷ []) (2 ∷ 1 ∷ [])
    ∷ point (said (read_of (fresh_site whole_house 8) (replicate sizes.base 0) 34359738369 2048).answer) (2 ∷ 2 ∷ [])
    ∷ point (said (begin_of (fresh_site (even_house 2) 1) desk.house).answer) (0 ∷ 4294967297 ∷ [])
    ∷ point (said (begin_of (fresh_site (even_house 2) 2) desk.house).answer) (0 ∷ 8589934593 ∷ [])
    ∷ point (yes (precedes 16777216 2 16777217 1)) (1 ∷ [])
    ∷ point (yes (precedes 7 1 7 2)) (1 ∷ [])
    ∷ point (bit_or (mask_of 1) (mask_of 3) ∷ []) (5 ∷ [])
    ∷ point (installs (queue_of (queued 1 stage.decided 4) (queued 2 stage.queued 4))) (0 ∷ 4 ∷ 1 ∷ [])
    ∷ point (installs (queue_of (queued 1 stage.queued 4) (queued 2 stage.decided 4))) (2 ∷ 17 ∷ [])
    ∷ point (said (report_of (queueing (replicate sizes.live no_sub)) sizes.part).answer) (0 ∷ 9 ∷ [])
    ∷ point (said (report_of (queueing (queue_of (queued 1 stage.queued 6) (queued 2 stage.decided 6))) sizes.part).answer) (0 ∷ 5 ∷ [])
    ∷ point (said (read_of versions (replicate sizes.base 0) 4294967301 5).answer) (0 ∷ 70 ∷ 0 ∷ [])
    ∷ point (said (search_of versions (replicate sizes.base 0) (record { installs = 3 }) 5)) (0 ∷ 70 ∷ 0 ∷ 2 ∷ [])
    ∷ point (said (write_of versions 4294967301 5 (value 90 0)).answer) (2 ∷ 10 ∷ [])
    ∷ point (said (write_of versions 4294967301 6 (value sizes.last 0)).answer) (0 ∷ [])
    ∷ point (said (write_of versions 4294967301 6 (value sizes.last 1)).answer) (2 ∷ 29 ∷ [])
    ∷ point (said (emit_of (merging 4) sizes.merged (head_words ++ replicate (sizes.queues - length head_words) 0)).answer) (2 ∷ 17 ∷ [])
    ∷ point (said (emit_of (merging 5) sizes.merged (head_words ++ replicate (sizes.queues - length head_words) 0)).answer)
    (0 ∷ 5 ∷ 1 ∷ 4294967297 ∷ [])
    ∷ point (yes (dependent (read 5) (read 5)) ++ yes (dependent (wrote 5 (value 1 0)) (read 5))) (0 ∷ 1 ∷ [])
    ∷ point (said (page_of 1800 5000)) (0 ∷ 2 ∷ 1400 ∷ [])
    ∷ point (said (offset_of 1800 2 1400)) (0 ∷ 5000 ∷ [])
    ∷ point (said (offset_of 4294967296 4294967295 4294967295)) (0 ∷ sizes.last ∷ [])
    ∷ point (said (offset_of 4294967296 4294967296 0)) (2 ∷ 2 ∷ [])
    ∷ point (said (offset_of 1800 2 1800)) (2 ∷ 2 ∷ [])
    ∷ point (said (offset_of 0 0 5)) (2 ∷ 28 ∷ [])
    ∷ point (said (pages_of 0 (5000 ∷ []) (7 ∷ [])).answer) (2 ∷ 2 ∷ [])
    ∷ point (pages_of 1800 (5000 ∷ 1799 ∷ []) (7 ∷ 7 ∷ 7 ∷ 7 ∷ [])).out (2 ∷ 1400 ∷ 0 ∷ 1799 ∷ [])
    ∷ point (bytes_of (578437695752307201 ∷ 9 ∷ [])) (1 ∷ 2 ∷ 3 ∷ 4 ∷ 5 ∷ 6 ∷ 7 ∷ 8 ∷ 9 ∷ 0 ∷ 0 ∷ 0 ∷ 0 ∷ 0 ∷ 0 ∷ 0 ∷ [])
    ∷ point (words_of (1 ∷ 2 ∷ 3 ∷ 4 ∷ 5 ∷ 6 ∷ 7 ∷ 8 ∷ 9 ∷ 0 ∷ 0 ∷ 0 ∷ 0 ∷ 0 ∷ 0 ∷ 0 ∷ [])) (578437695752307201 ∷ 9 ∷ [])
    ∷ point (said (record_bytes_of (first_record 12) (replicate 96 7)).answer) (0 ∷ [])
    ∷ point (said (record_bytes_of (first_record 12) (replicate 97 7)).answer) (2 ∷ 2 ∷ [])
    ∷ point (replays (bytes_of (first_record 12))) (0 ∷ 1 ∷ 1 ∷ [])
    ∷ point (replays (bytes_of (first_record 12) ++ (0 ∷ []))) (2 ∷ 2 ∷ [])
    ∷ point (replays (bytes_of (first_record 2305843009213693964))) (2 ∷ 2 ∷ [])
    ∷ point (words_of (reader_value_of first_copy 5 (replicate 32 7)).bytes) (700 ∷ 0 ∷ 1 ∷ 1 ∷ [])
    ∷ point (said (reader_value_of first_copy 5 (replicate 33 7)).answer) (2 ∷ 2 ∷ [])
    ∷ []

unfoldable pub PointsHold : Type 0
PointsHold = map (λ (p : Point). p.got) points ≡ map (λ (p : Point). p.want) points
